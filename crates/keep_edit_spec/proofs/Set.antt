-- The law of set.
pub mod SetIsLawful
pub mod SameCuts
pub mod Childless
pub mod SetNumbers
pub mod SetNodes
pub mod SetValue

-- The law of growth, and that its bound is reached.
pub mod Growth
pub mod GrowthOfEdits
pub mod NewlineLength
pub mod GrowthLaw
pub mod GrowthReached

pub mod Answer
pub mod Counted
pub mod Lines
pub mod OwnValues
pub mod Run
pub mod Status
pub mod Written

pub mod Options
pub mod Parse
pub mod Rows
pub mod Building

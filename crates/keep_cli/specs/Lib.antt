pub mod EditWords
pub mod Script
pub mod Scripting
pub mod Status
pub mod Uses

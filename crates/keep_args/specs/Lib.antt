pub mod App
pub mod Chosen
pub mod Table
pub mod Wanted

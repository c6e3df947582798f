pub mod Appends
pub mod AnswerLaws
pub mod ProfileLaws
pub mod ListLines
pub mod RunLaws
pub mod Writing
pub mod ListRooms

pub mod CommandLaws
pub mod EditLaws
pub mod KeyLaws
pub mod ScriptLaws

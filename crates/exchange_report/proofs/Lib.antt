pub mod Apart
pub mod Fields
pub mod IdCuts
pub mod OneLine
pub mod OneWord
pub mod Rooms
pub mod ScriptLines

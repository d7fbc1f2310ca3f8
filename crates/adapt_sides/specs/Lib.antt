pub mod FaultNames
pub mod Filling
pub mod Raw
pub mod Saying
pub mod Tapes
pub mod Turns

pub mod Blocks
pub mod Lines
pub mod Parts
pub mod Versions
pub mod WordCuts

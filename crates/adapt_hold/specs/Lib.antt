pub mod Spans
pub mod Holding
pub mod Steps

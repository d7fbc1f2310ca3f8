pub mod Queue
pub mod Tape

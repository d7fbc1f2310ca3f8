pub mod ProbeOutcome
pub mod Messages
pub mod Samples
pub mod Text

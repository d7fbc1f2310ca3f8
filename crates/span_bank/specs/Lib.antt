pub mod Chain
pub mod Faults
pub mod History
pub mod Journal
pub mod Ledgers
pub mod Replay
pub mod Stakes
pub mod State

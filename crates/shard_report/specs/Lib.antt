pub mod Heads
pub mod Indexes
pub mod Notes
pub mod Reasons

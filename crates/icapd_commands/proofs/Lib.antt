pub mod Forms
pub mod Waiters

pub mod Command
pub mod Config
pub mod Errors
pub mod Once
pub mod Seats

pub mod Extension
pub mod Transfer
pub mod Numbers
pub mod Options
pub mod Verified

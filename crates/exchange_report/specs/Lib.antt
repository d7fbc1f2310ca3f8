pub mod Entry
pub mod Lines
pub mod Live
pub mod Metrics
pub mod Pages
pub mod Reasons
pub mod Script
pub mod Words

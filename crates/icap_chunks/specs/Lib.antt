pub mod Collected
pub mod Faults
pub mod Grammar
pub mod Machine
pub mod Reading

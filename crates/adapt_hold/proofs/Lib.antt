pub mod Tied
pub mod Closes
pub mod Bodies
pub mod Row

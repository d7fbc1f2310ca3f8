pub mod Handing
pub mod Running
pub mod Serving
pub mod Turning

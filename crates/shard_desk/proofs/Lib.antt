pub mod Led
pub mod Passing
mod Asking
mod Keeping
mod Paging
mod Sifting
mod Serving

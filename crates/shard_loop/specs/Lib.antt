pub mod Admission
pub mod Left

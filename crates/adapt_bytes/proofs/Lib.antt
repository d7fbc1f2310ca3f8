pub mod Cuts
pub mod LookUps
pub mod Numerals
pub mod Parts
pub mod Plain
pub mod Spellings
pub mod ThreeDigits
pub mod Written

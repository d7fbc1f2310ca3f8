pub mod FieldLines
pub mod Fields
pub mod Folds
pub mod Heads
pub mod LineFront
pub mod Methods
pub mod StartLines
pub mod Written

pub mod Faults
pub mod Grammar
pub mod Laws
pub mod Layouts
pub mod Order
pub mod Rows

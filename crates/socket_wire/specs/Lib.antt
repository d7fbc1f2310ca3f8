pub mod Answers
pub mod Counting
pub mod Dialling
pub mod Socket
pub mod Token

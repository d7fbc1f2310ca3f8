pub mod LastCuts
pub mod Oks
pub mod Exact
pub mod OneRecord

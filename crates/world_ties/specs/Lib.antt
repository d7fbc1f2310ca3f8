pub mod BankTie
pub mod PoolTie
pub mod Alone
pub mod Amid

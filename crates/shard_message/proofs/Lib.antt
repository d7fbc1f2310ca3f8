pub mod AgainLemmas
pub mod CleanLemmas
pub mod NextLemmas
pub mod OutsetLemmas
pub mod RoundLemmas
pub mod WaitLemmas
pub mod WayLemmas

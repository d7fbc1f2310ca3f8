pub mod HistoryLemmas
pub mod JournalLemmas
pub mod LendingLemmas
pub mod PickLemmas
pub mod StepLemmas

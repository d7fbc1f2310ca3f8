-- The status of an exchange that failed.
use Rattle.std.specs.Prelude.{◌≡◌, ℕ, ⊤}
use Rattle.exchange_report.specs.Reasons.{status_of}
use Rattle.exchange_report.specs.declared.why.Why.{Why}
use Rattle.exchange_report.specs.declared.why.Why.TheVariants.{Failed}

-- if it failed for a reason, that has this status
abbrev pub HasStatus : (status : ℕ) → Why → Type 0
HasStatus status (Failed reason) = status_of reason ≡ status
HasStatus status _ = ⊤

-- Amounts of the four ledgers of a bank.
use Rattle.std.specs.Prelude.{ℕ, ◌+◌, ◌≤◌}

-- bytes held, the rest of the claims, what may still be had in pages, and pages
pub record Amounts : Type 0 where
  pub held : ℕ
  pub free : ℕ
  pub slack : ℕ
  pub pages : ℕ

-- parts of each ledger, with their amounts
pub record Parted : Type 0 where
  pub parts : ℕ
  pub amounts : Amounts

abbrev pub no_amounts : Amounts
no_amounts = record { held = 0; free = 0; slack = 0; pages = 0 }

abbrev pub plus : Amounts → Amounts → Amounts
plus a b = record { held = a.held + b.held; free = a.free + b.free; slack = a.slack + b.slack; pages = a.pages + b.pages }

-- each amount is at most the other
pub record IsWithin (a b : Amounts) : Type 0 where
  pub held : a.held ≤ b.held
  pub free : a.free ≤ b.free
  pub slack : a.slack ≤ b.slack
  pub pages : a.pages ≤ b.pages

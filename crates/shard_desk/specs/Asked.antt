-- What an exchange's connector was asked last, where a connection to a service is lent or put back.
use Rattle.std.specs.Prelude.{◌≡◌, ℕ, ◌<◌, ◌⊎◌, Bool, true, false, ⊤, Some, None}
use Rattle.service_pool.specs.declared.connector.Act.TheVariants.{Opened, Looked, Resumed, Checked, Rested, Closed}
use Rattle.service_pool.specs.declared.connector.LendFault.{LendFault}
use Rattle.service_pool.specs.declared.connector.LendFault.TheVariants.{Busy, Paused}
use Rattle.service_pool.specs.declared.latest.Latest.{Latest}
use Rattle.service_pool.specs.declared.leased.Leased.{Leased}
use Rattle.service_pool.specs.Lending.{is_reused, IsYoung}

-- an idle connection was looked at, and found fit for use, before it was brought into use; at this moment it had lain idle for fewer
-- seconds than one may, with the thread of this number
pub record LendsIdle (now most : ℕ) (asked : Latest) : Type 0 where
  pub since : ℕ
  pub home : ℕ
  pub young : IsYoung since now most
  pub resumed : asked.last ≡ Some (Resumed since home None)
  pub looked : asked.before ≡ Some (Looked true)

-- a connection was lent with this lease: an idle one, or one that was opened last
pub record LendsBy {Q A : Type 0} (now most : ℕ) (asked : Latest) (lease : Leased Q A) : Type 0 where
  pub idle : is_reused lease ≡ true → LendsIdle now most asked
  pub fresh : is_reused lease ≡ false → asked.last ≡ Some (Opened None)

-- none was lent: the connector itself failed last, for just that, unless others go first; it was asked nothing where the service is paused
abbrev pub FailsBy : Latest → LendFault → Type 0
FailsBy asked Busy = ⊤
FailsBy asked Paused = asked.last ≡ None
FailsBy asked fault = (asked.last ≡ Some (Opened (Some fault))) ⊎ ((since : ℕ) × (home : ℕ)
    × (asked.last ≡ Some (Resumed since home (Some fault))))

-- a connection was put back, where one may lie idle for so many seconds: it was laid down once it was found quiet, and is closed otherwise
pub data PutsBy (most : ℕ) (asked : Latest) : Type 0 where
  laid : 0 < most → (rests : Bool) → asked.last ≡ Some (Rested rests) → asked.before ≡ Some (Checked true) → PutsBy most asked
  closed : 0 < most → asked.last ≡ Some Closed → asked.before ≡ Some (Checked false) → PutsBy most asked
  unkept : most ≡ 0 → asked.last ≡ Some Closed → PutsBy most asked

-- What a pool shows, what it keeps, and what a take does.
use Rattle.std.specs.Prelude.{◌≡◌, ℕ, ◌+◌, ◌≤◌, ◌<◌, ◌⊎◌, Bool, true, false, List, [], ◌∷◌, ◌++◌, length, slice_index_or}
use Rattle.std.specs.Borrow.{Bor}
use Rattle.std.specs.Fn.{Shared, FnReturnsAt}
use Rattle.std.specs.List.{remove}
use Rattle.service_pool.specs.declared.state.Found.{Found}
use Rattle.service_pool.specs.declared.state.Found.TheVariants.{Idle, Fresh, Busy}
use Rattle.service_pool.specs.declared.state.Choice.{Choice}
use Rattle.service_pool.specs.declared.state.Choice.TheVariants as choice
use Rattle.service_pool.specs.declared.state.Checked.{Checked}
use Rattle.service_pool.specs.declared.state.Checked.TheVariants.{Closed, Stays, Missing}
use Rattle.service_pool.specs.declared.step.Numbers.{Numbers}
use Rattle.service_pool.specs.declared.step.PoolStep.TheVariants.{Take, GiveUp}
use Rattle.service_pool.specs.Journal.{Journaled, stepped, IsSound}

-- the idle connections, the one put last at the end, and the numbers with their journal
pub record Pooled (C : Type 0) : Type 0 where
  pub idle : List C
  pub journal : Journaled

-- the numbers of a pool with no connection
abbrev pub none_open : ℕ → Numbers
none_open maximum = record { idle = 0; leased = 0; maximum = maximum }

-- what every pool keeps: a sound journal, by whose numbers as many connections are idle as are there
pub record IsKept {C : Type 0} (pool : Pooled C) : Type 0 where
  pub journal : IsSound pool.journal
  pub idle : length pool.idle ≡ pool.journal.numbers.idle

-- none is idle, and the leased aren't below the maximum
abbrev pub IsBusy : {C : Type 0} → Pooled C → Type 0
IsBusy pool = (pool.idle ≡ []) × (pool.journal.numbers.maximum ≤ pool.journal.numbers.leased)

-- a take gives the idle connection that was put last; where none is idle and fewer than the maximum are
-- leased, the right to open one; and else nothing, and then it is no step
abbrev pub Takes : {C : Type 0} → (Journaled → Journaled) → Pooled C → Pooled C → Found C → Type 0
Takes make_room old new (Idle c) = (old.idle ≡ new.idle ++ c ∷ []) × (new.journal ≡ stepped make_room old.journal Take)
Takes make_room old new Fresh =
    (old.idle ≡ []) × (old.journal.numbers.leased < old.journal.numbers.maximum)
    × (new.idle ≡ []) × (new.journal ≡ stepped make_room old.journal Take)
Takes make_room old new Busy = new ≡ old

-- how many connections a take leases
abbrev pub lease_count : {C : Type 0} → Found C → ℕ
lease_count (Idle c) = 1
lease_count Fresh = 1
lease_count Busy = 0

-- the idle connection at an index leaves, as one that is taken and given up; or all stays as it was
abbrev pub Closes : {C : Type 0} → (Journaled → Journaled) → Pooled C → Pooled C → ℕ → Checked C → Type 0
Closes make_room old new index (Closed c) =
    (index < length old.idle) × (c ≡ slice_index_or old.idle index c) × (new.idle ≡ remove old.idle index)
    × (new.journal ≡ stepped make_room (stepped make_room old.journal Take) GiveUp)
Closes make_room old new index Stays = (index < length old.idle) × (new ≡ old)
Closes make_room old new index Missing = (length old.idle ≤ index) × (new ≡ old)

-- the test said so of the connection at an index
abbrev pub Tests : {F C : Type 0} → Shared F (Bor C × Unit {0}) Bool → F → List C → ℕ → Bool → Type 0
Tests {C = C} test f idle index said = (c : C) × (c ≡ slice_index_or idle index c) × FnReturnsAt test f c said

-- the test picks the connection that leaves, and doesn't pick one that stays
abbrev pub IsPicked : {F C : Type 0} → Shared F (Bor C × Unit {0}) Bool → F → List C → ℕ → Checked C → Type 0
IsPicked test f idle index (Closed c) = Tests test f idle index true
IsPicked test f idle index Stays = Tests test f idle index false
IsPicked test f idle index Missing = Unit {0}

-- the test picks none of the connections from an index on, so none that is younger than the one before it
abbrev pub NonePicked : {F C : Type 0} → Shared F (Bor C × Unit {0}) Bool → F → List C → ℕ → Type 0
NonePicked test f idle from = (i : ℕ) → from ≤ i → i < length idle → Tests test f idle i false

-- none of them is picked by the one test and preferred by the other
abbrev pub NonePreferred : {F G C : Type 0} → Shared F (Bor C × Unit {0}) Bool → F → Shared G (Bor C × Unit {0}) Bool → G → List C → ℕ
    → Type 0
NonePreferred test f better g idle from = (i : ℕ) → from ≤ i → i < length idle → Tests test f idle i false ⊎ Tests better g idle i false

-- the connection at this index comes first of those that the one test picks: the other one prefers it, and no younger one; or it prefers
-- none of them, and this is the youngest
abbrev pub IsFirst : {F G C : Type 0} → Shared F (Bor C × Unit {0}) Bool → F → Shared G (Bor C × Unit {0}) Bool → G → List C → ℕ → Type 0
IsFirst test f better g idle index =
    (Tests better g idle index true × NonePreferred test f better g idle (index + 1))
    ⊎ (NonePreferred test f better g idle 0 × NonePicked test f idle (index + 1))

-- The idle connection at this index is taken: the test picks it, and it comes first of those. The others keep their order.
pub record TakesAt {F G C : Type 0} (test : Shared F (Bor C × Unit {0}) Bool) (f : F) (better : Shared G (Bor C × Unit {0}) Bool) (g : G)
    (old new : List C) (index : ℕ) (c : C) : Type 0 where
  pub within : index < length old
  pub taken : c ≡ slice_index_or old index c
  pub rest : new ≡ remove old index
  pub picked : FnReturnsAt test f c true
  pub first : IsFirst test f better g old index

-- a take by a preference gives the first one of those that a test picks; where it picks none, the youngest of all; where none is idle,
-- what any take gives
abbrev pub Chooses : {F G C : Type 0} → (Journaled → Journaled) → Shared F (Bor C × Unit {0}) Bool → F → Shared G (Bor C × Unit {0}) Bool
    → G
    → Pooled C → Pooled C → Choice C → Type 0
Chooses make_room test f better g old new (choice.Picked c) =
    ((index : ℕ) × TakesAt test f better g old.idle new.idle index c) × (new.journal ≡ stepped make_room old.journal Take)
Chooses make_room test f better g old new (choice.Unpicked c) =
    Takes make_room old new (Idle c) × FnReturnsAt test f c false × NonePicked test f old.idle 0
Chooses make_room test f better g old new choice.Fresh = Takes make_room old new Fresh
Chooses make_room test f better g old new choice.Busy = Takes make_room old new Busy

-- how many connections such a take leases
abbrev pub choice_count : {C : Type 0} → Choice C → ℕ
choice_count (choice.Picked c) = 1
choice_count (choice.Unpicked c) = 1
choice_count choice.Fresh = 1
choice_count choice.Busy = 0

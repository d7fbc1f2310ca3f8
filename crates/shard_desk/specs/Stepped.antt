-- What a thread's exchange does in a step, in some surroundings before it.
use Rattle.std.specs.Prelude.{◌≡◌, ◌⊎◌}
use Rattle.exchange_core.specs.declared.due.Due.{Due}
use Rattle.shard_exchange.specs.declared.tasks.Task.{Task}
use Rattle.shard_exchange.specs.declared.tasks.Task.TheVariants.{TakeLeave}
use Rattle.shard_exchange.specs.Outcomes.{Deeds, Does}
use Rattle.shard_exchange.specs.Resting.{RestsOn, Tried}

-- it does what is due
abbrev pub IsDoneAt : {O : Type 0} → (does : O → Deeds) → Due → Type 0
IsDoneAt {O} does due = (before : O) × Does (does before) due

-- one that waits has tried what is due; or its user takes its leave
abbrev pub IsRestedAt : {O : Type 0} → (tried : O → Tried) → Due → Task → Type 0
IsRestedAt {O} tried due task = (before : O) × (RestsOn (tried before) due ⊎ (task ≡ TakeLeave))

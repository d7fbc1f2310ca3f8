-- The message that is held, and its plan.
use Rattle.std.specs.Prelude.{Option, Some, None, Box}
use Rattle.std.specs.declared.alloc.Global.{Global}
use Rattle.shard_message.specs.declared.planning.Planned.{Planned}

-- the plan lies with the reservation once that is made
abbrev pub plan_of : {R : Type 0} → (planned : R → Option (Box Planned Global)) → Option (Box Planned Global) → Option R
    → Option (Box Planned Global)
plan_of planned unreserved None = unreserved
plan_of planned unreserved (Some room) = planned room

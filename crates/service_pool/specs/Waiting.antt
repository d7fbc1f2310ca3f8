-- Who waits, the longest waiting first.
use Rattle.std.specs.Prelude.{Bool, false, ◌==◌, ◌&&◌, not, List, [], ◌∷◌}
use Rattle.service_pool.specs.declared.queue.Waiter.{Waiter}

abbrev pub is_same : Waiter → Waiter → Bool
is_same waiter other = (other.thread == waiter.thread) && (other.key == waiter.key)

abbrev pub is_another : Waiter → Waiter → Bool
is_another waiter other = not (is_same waiter other)

-- the one that has waited longest is this one
abbrev pub is_first : Waiter → List Waiter → Bool
is_first waiter [] = false
is_first waiter (first ∷ others) = is_same waiter first

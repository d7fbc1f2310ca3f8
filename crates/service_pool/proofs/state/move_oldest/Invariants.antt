-- The oldest connections, which were moved, stand at the end of the list, the queue has the others, and neither capacity changed.
use Rattle.std.specs.Prelude.{◌≡◌, ◌++◌, take, drop, vec_capacity}
use Rattle.std.specs.VecDeque.{deque_capacity}
use Rattle.service_pool.proofs.state.move_oldest.Given as goal

abbrev pub invariant-loop-moved : goal.invariant-loop-moved
invariant-loop-moved g l = record {
  left : l.from.items ≡ drop l._moved l.initial.from.items;
  moved : l.to.items ≡ l.initial.to.items ++ take l._moved l.initial.from.items;
  from_room : deque_capacity l.from ≡ deque_capacity l.initial.from;
  to_room : vec_capacity l.to ≡ vec_capacity l.initial.to;
}

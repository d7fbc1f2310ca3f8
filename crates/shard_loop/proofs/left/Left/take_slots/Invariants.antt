-- What is kept comes to the same, after each slot, with what lies in those that are left.
use Rattle.std.specs.Prelude.{◌≡◌, ◌+◌, min, vec_capacity, vec_len}
use Rattle.shard_loop.specs.Left.{out_of_slots}
use Rattle.shard_loop.proofs.left.Left.take_slots.Given as goal

abbrev pub invariant-loop-slot : goal.invariant-loop-slot
invariant-loop-slot g l = record {
  stakes : min (vec_capacity l.self.stakes) (vec_len l.self.stakes + (out_of_slots (λ exchange. g.E.Outstanding.out exchange.value)
      l.slots.items).stakes)
      ≡ min (vec_capacity l.initial.self.stakes) (vec_len l.initial.self.stakes +
      (out_of_slots (λ exchange. g.E.Outstanding.out exchange.value) l.initial.slots.items).stakes);
  stakes_room : vec_capacity l.self.stakes ≡ vec_capacity l.initial.self.stakes;
  requests : min (vec_capacity l.self.requests) (vec_len l.self.requests +
      (out_of_slots (λ exchange. g.E.Outstanding.out exchange.value) l.slots.items).requests)
      ≡ min (vec_capacity l.initial.self.requests) (vec_len l.initial.self.requests +
      (out_of_slots (λ exchange. g.E.Outstanding.out exchange.value) l.initial.slots.items).requests);
  requests_room : vec_capacity l.self.requests ≡ vec_capacity l.initial.self.requests;
  responses : min (vec_capacity l.self.responses) (vec_len l.self.responses +
      (out_of_slots (λ exchange. g.E.Outstanding.out exchange.value) l.slots.items).responses)
      ≡ min (vec_capacity l.initial.self.responses) (vec_len l.initial.self.responses +
      (out_of_slots (λ exchange. g.E.Outstanding.out exchange.value) l.initial.slots.items).responses);
  responses_room : vec_capacity l.self.responses ≡ vec_capacity l.initial.self.responses;
}

abbrev pub decreases-loop-slot : goal.decreases-loop-slot
decreases-loop-slot g l = vec_len l.slots

-- Where message and connection are both there, what the message has is what came over that connection.
use Rattle.shard_message.proofs.heads.turn_on.Goals as goal
use Rattle.shard_message.proofs.heads.turn_on.Goals.{in-Some-Some, in_default, in_default-2}

-- src/heads.rt:39:1
-- where both are there, it is the turn at the head; else nothing is said
pub returns-clause-came : goal.returns-clause-came
returns-clause-came g c =
    elim c.match-message.branch [
      | in-Some-Some w ↦
          rw (w.in-Some-Some.is-0, w.in-Some-Some.is-1, w.message-is, w.wire-is)
          (λ first ahead since beside came.
          w.head_turn.ensures.came first ahead since beside (rw w.deref_mut.ensures.value came))
      | in_default w ↦ rw (w.in_default.is-0, w.in_default.is-1) tt
      | in_default-2 w ↦ rw w.in_default.is-0 tt
    ]

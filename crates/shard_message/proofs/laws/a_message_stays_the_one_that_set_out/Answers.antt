-- A message that was started is accounted for since it set out, and stays so through each step after which it moves.
use Rattle.std.proofs.Common.{inl, inr, ap}
use Rattle.shard_message.proofs.WayLemmas.{carried_as_it_is, carried_by_round, carried_by_steps}
use Rattle.shard_message.proofs.laws.a_message_stays_the_one_that_set_out.Goals as goal

pub returns-clause-began : goal.returns-clause-began
returns-clause-began g c = λ set s sets.
    record { tx = set.1.tx; moves = set.1.moves; line = s.line; given = s.given; stands = set.1.begins_so.1 s sets }

pub returns-clause-stays : goal.returns-clause-stays
returns-clause-stays g c = λ n steps. carried_by_steps _ (λ held. held.tx) _ (λ one next step. elim step.2 [
  | inl same ↦ carried_as_it_is _ one.tx next.tx (ap (λ held. held.tx) same)
  | inr (inl stays) ↦ carried_as_it_is _ one.tx next.tx stays.0
  | inr (inr turned) ↦ carried_by_round _ _ _ _ _ one.tx turned.0.tx next.tx turned.3.7 turned.4.1.1
]) n c.args.begun.now c.args.now.now steps

-- What bars a request from being withdrawn: its origin's connection by its counts gave another number of bytes than before.
use Rattle.std.proofs.Common.{inl, inr, sym}
use Rattle.std.proofs.lemmas.Bool.{eqb-false}
use Rattle.shard_message.proofs.settled.may_withdraw.Goals as goal

-- by its counts the connection has given another number of bytes
pub returns-then-may-clause-bars : goal.returns-then-may-clause-bars
returns-then-may-clause-bars g c = λ other itself.
    inr (inl (
      c.counts.result.0,
      (λ p past. sym (c.counts.ensures p past).0),
      (λ same. eqb-false c.counts.result.0 c.args.before other same),
    ))

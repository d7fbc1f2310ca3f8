-- A connection that by its counts gave another number of bytes than before has given some since.
use Rattle.std.proofs.Common.{sym}
use Rattle.std.proofs.lemmas.Bool.{eqb-false}
use Rattle.shard_message.proofs.withdrawal.has_given_none.Goals as goal

-- by its counts the connection has given another number of bytes
pub returns-in-Some-clause-some : goal.returns-in-Some-clause-some
returns-in-Some-clause-some g c = λ other.
    rw c.in-Some.is (
      c.counts.result.0,
      (λ p past. sym (c.counts.ensures p past).0),
      (λ same. eqb-false c.counts.result.0 c.args.before other same),
    )

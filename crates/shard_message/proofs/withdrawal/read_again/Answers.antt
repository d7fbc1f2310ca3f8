-- What is read again over a connection that gives nothing has just the bytes that were there.
use Rattle.std.proofs.Common.{[]}
use Rattle.adapt_turn.proofs.Together.{no_later}
use Rattle.shard_message.proofs.AgainLemmas.{none_given, still_come, come_with_none}
use Rattle.shard_message.proofs.withdrawal.read_again.Goals as goal

-- the connection gave nothing, so what came is what was there
pub returns-in-Ok-Taken-clause-came : goal.returns-in-Ok-Taken-clause-came
returns-in-Ok-Taken-clause-came c text has_come =
    let came = c.head_turn.ensures.came _ text [] [] (record {
      has_come = come_with_none text c.args.message.side has_come;
      wire_is = λ p before. (p, before, no_later p);
    }) in
    still_come text came.0 c.head_turn.new.self.side (none_given came.0 [] came.1.wire_is) came.1.has_come

-- Where a turn brought no answer and moved no byte, the connection made it wait, or nothing was left to do.
use Rattle.std.proofs.Common.{Ok, ◌∙◌, ap}
use Rattle.shard_message.proofs.WaitLemmas.{hears_none}
use Rattle.shard_message.proofs.options.hear_turn.Goals as goal

-- the service had nothing now
pub returns-in-Ok-None-2 : goal.returns-in-Ok-None-2
returns-in-Ok-None-2 g c =
    let still = c.has_moved.ensures.still c.if-has_moved.false in
    record {
      waits = λ e. hears_none _ c.args.side.now c.turn.new.self _ _ c.turn.result c.turn.ensures.faulted c.turn.ensures.asks
          (c.in-Ok-None.is ∙ ap Ok c.in-Ok-None-2.field-0-is)
          (λ p q b a. (
            (still q a).0 ∙ (c.counts-before.ensures p b).0,
            (still q a).1 ∙ (c.counts-before.ensures p b).1,
          ));
    }

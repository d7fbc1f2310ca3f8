-- A turn at the head is still one where the room for raw bytes is given back.
use Rattle.http_relay.proofs.Heads.{head_given_back}
use Rattle.http_relay.proofs.side.SourceSide.try_head.Goals as goal

pub returns-clause-turn : goal.returns-clause-turn
returns-clause-turn g c =
    head_given_back c.args.self.now c.judge_or_read-result.new.self _ (g.W.Wire.past c.args.wire.now)
    (g.W.Wire.past c.judge_or_read-result.new.wire) c.judge_or_read-result.result c.free_memory.ensures
    c.judge_or_read-result.ensures.turn

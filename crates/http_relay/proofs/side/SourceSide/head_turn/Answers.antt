-- A turn at the head that fails is still one once the side keeps its fault.
use Rattle.std.proofs.Common.{refl}
use Rattle.http_relay.proofs.Heads.{head_kept}
use Rattle.http_relay.proofs.side.SourceSide.head_turn.Goals as goal

pub returns-in-Err-clause-turn : goal.returns-in-Err-clause-turn
returns-in-Err-clause-turn g c = λ no unread.
    head_kept c.args.self.now c.try_head.new.self _ (g.W.Wire.past c.args.wire.now) (g.W.Wire.past c.try_head.new.wire) c.in-Err.fault
    (record { asks = refl; head = refl; body = refl }) (record { judged = refl; interims = refl; head_fault = refl }) refl
    c.in-Err.ensures.turn

-- After a read the judged bytes are still there and judged, and all bytes keep their limit.
use Rattle.std.proofs.Common.{arith}
use Rattle.icap_client.proofs.Judged.{filled_judged}
use Rattle.icap_client.proofs.kept.Kept.fill.Goals as goal

pub invariant_of-self : goal.invariant_of-self
invariant_of-self g c =
    let kept = filled_judged (g.W.Wire.past c.args.wire.now) (g.W.Wire.past c.fill.new.wire) c.self.inside.bytes.items c.fill.new.raw.items
    c.fill.result c.self.inside.judged c.fill.ensures.filled c.self.invariant.1 c.self.invariant.2 in
    (omega (arith, c.fill.ensures.fits), kept.0, kept.1)

-- One that has a mark waits for its turn; else the clock was read, and then the exchange driven.
use Rattle.std.proofs.Common.{[], inl, inr, sym, ◌∙◌}
use Rattle.std.specs.Prelude.{⊤}
use Rattle.event_loop.proofs.Turning.{did_is, did_start, did_then, drives_driven, driven_older}
use Rattle.event_loop.proofs.looping.EventLoop.drive.Goals as goal

pub returns-then-has : goal.returns-then-has
returns-then-has g c = did_start g.K.Work c.args.self.now (inr (sym c.has.ensures ∙ c.if-has.true))

pub returns : goal.returns
returns g c =
    did_then g.K.Work c.args.self.now c.read_clock.new.self c.drive_now.new.self
    (did_is g.K.Work c.args.self.now c.read_clock.new.self {P = λ _. ⊤} [] c.read_clock.ensures tt) c.drive_now.ensures
    (λ first second f d tied p q. inl (driven_older c.args.key first (drives_driven c.args.key q)))

-- It goes on after a pause, and is cut short after the last pass.
use Rattle.std.proofs.Common.{ap, sym, ◌∙◌, arith}
use Rattle.shard_desk.specs.Seats.{sits_alone}
use Rattle.shard_desk.proofs.Passing.{passed_more, drives_cut}
use Rattle.shard_desk.proofs.driving.drive_on.Goals as goal

pub loop-pass-preserved : goal.loop-pass-preserved
loop-pass-preserved g c =
    let pass = c.take_steps-driven.ensures.passes in
    let paused = sym c.is_paused.ensures ∙ c.if-not-is_paused.false in (
      passed_more (g.E.Exchange.Slotted.past c.args.exchange.now) (g.E.Exchange.Slotted.past c.loop-pass.exchange)
          (g.E.Exchange.Slotted.past c.take_steps-driven.new.exchange)
          c.loop-pass._pass c.take_steps-driven.result c.loop-pass.invariant.0 pass paused,
      λ some. c.if-not-alone.false,
    )

pub returns-clause-drives : goal.returns-clause-drives
returns-clause-drives g c =
    let end = c.loop-pass.auto._pass-end in
    let last = c.loop-pass-test.false in
    let lone = c.loop-pass.invariant.1 (omega (arith, last)) in
    let seats = ap sits_alone (c.seats.ensures ∙ ap g.E.Seating.Seating.seats_of c.users.ensures) in
    drives_cut _ (g.E.Exchange.Slotted.past c.args.exchange.now) (g.E.Exchange.Slotted.past c.loop-pass.exchange)
    c.loop-pass._pass (sym (c.sits_alone-alone.ensures ∙ seats) ∙ lone) c.loop-pass.invariant.0 (omega (arith, end, last))

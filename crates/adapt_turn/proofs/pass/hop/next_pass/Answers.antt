-- With no message chosen nothing is done; a chosen one is begun if need be and goes out, or gets no head and fails.
use Rattle.adapt_turn.specs.Passes.{writers}
use Rattle.adapt_turn.proofs.Writers.{unchosen_passes, failed_passes, giving_passes}
use Rattle.std.proofs.Common.{refl}
use Rattle.adapt_turn.proofs.pass.hop.next_pass.Goals as goal

pub returns-then-not-is_chosen-clause-passes : goal.returns-then-not-is_chosen-clause-passes
returns-then-not-is_chosen-clause-passes g c =
    unchosen_passes (writers c.args.hold.now c.args.next.now c.args.next_wire.now c.args.back.now c.args.back_wire.now) c.idle.result
    c.state-state.ensures.tied c.requires.running (c.is_chosen.ensures.unchosen c.if-not-is_chosen.true) refl c.idle.ensures

pub returns-in-Ok-clause-passes : goal.returns-in-Ok-clause-passes
returns-in-Ok-clause-passes g c =
    giving_passes (writers c.args.hold.now c.args.next.now c.args.next_wire.now c.args.back.now c.args.back_wire.now)
    (writers c.give_pass.new.hold c.give_pass.new.next c.give_pass.new.next_wire c.give_pass.new.back c.give_pass.new.back_wire)
    c.begin.new.next c.begin.new.back c.give_pass.result
    c.state-state.ensures.tied c.requires.running (c.is_chosen.ensures.chosen c.if-not-is_chosen.false) c.in-Ok.ensures.begun
    c.give_pass.ensures.gives

pub returns-in-Err-clause-passes : goal.returns-in-Err-clause-passes
returns-in-Err-clause-passes g c =
    failed_passes (writers c.args.hold.now c.args.next.now c.args.next_wire.now c.args.back.now c.args.back_wire.now) c.close.new.hold
    c.begin.new.next c.begin.new.back c.in-Err.cause c.close.result
    c.state-state.ensures.tied c.requires.running (c.is_chosen.ensures.chosen c.if-not-is_chosen.false) c.in-Err.ensures.none
    c.in-Err.ensures.unbegun.0 c.in-Err.ensures.unbegun.1 c.in-Err.ensures.unbegun.2 c.in-Err.ensures.unbegun.3 c.close.ensures.moved
    c.close.ensures.passed

-- Each step leads on, or to the answer.
use Rattle.std.proofs.Common.{◌≡◌, ◌+◌, ℕ, true, sym, ap, subst, inl, inr, arith}
use Rattle.shard_exchange.specs.declared.tasks.Step.TheVariants as steps
use Rattle.shard_desk.specs.Driving.{leads_on}
use Rattle.shard_desk.proofs.Led.{Led, led_none, led_more, passes_blocked, passes_spent, passes_left, passes_lost, passes_waiting}
use Rattle.shard_desk.proofs.Led.{passes_over, adds_read}
use Rattle.shard_desk.proofs.driving.take_steps.Goals as goal

pub loop-taken-init : goal.loop-taken-init
loop-taken-init g c = led_none (g.E.Exchange.Slotted.past c.args.exchange.now)

pub returns-in-Some-clause-passes : goal.returns-in-Some-clause-passes
returns-in-Some-clause-passes g c =
    let most = c.loop-taken-test.true in
    passes_blocked (g.E.Exchange.Slotted.past c.args.exchange.now) (g.E.Exchange.Slotted.past c.loop-taken.exchange)
    c.loop-taken._taken c.loop-taken.noted.rounds _ c.loop-taken.invariant (omega (arith, most))

pub returns-then-is_lost-clause-passes : goal.returns-then-is_lost-clause-passes
returns-then-is_lost-clause-passes g c =
    let most = c.loop-taken-test.true in
    passes_lost (g.E.Exchange.Slotted.past c.args.exchange.now) (g.E.Exchange.Slotted.past c.loop-taken.exchange)
    (g.E.Exchange.Slotted.past c.act.new.exchange)
    c.loop-taken._taken c.loop-taken.noted.rounds (g.E.Exchange.Slotted.phase_of c.loop-taken.exchange) c.act.result
    c.loop-taken.invariant (omega (arith, most)) c.act.ensures.past

pub returns-then-is_spent-clause-passes : goal.returns-then-is_spent-clause-passes
returns-then-is_spent-clause-passes g c =
    let most = c.loop-taken-test.true in
    passes_spent (g.E.Exchange.Slotted.past c.args.exchange.now) (g.E.Exchange.Slotted.past c.loop-taken.exchange)
    c.loop-taken._taken c.loop-taken.noted.rounds c.loop-taken.invariant (omega (arith, most)) (c.is_spent.ensures.spent c.if-is_spent.true)

pub returns-in-Waits-clause-passes : goal.returns-in-Waits-clause-passes
returns-in-Waits-clause-passes g c =
    let most = c.loop-taken-test.true in
    passes_waiting (g.E.Exchange.Slotted.past c.args.exchange.now) (g.E.Exchange.Slotted.past c.loop-taken.exchange)
    (g.E.Exchange.Slotted.past c.act-step.new.exchange)
    c.loop-taken._taken c.loop-taken.noted.rounds c.phase-phase.result
    c.loop-taken.invariant (omega (arith, most)) (c.is_spent.ensures.room c.if-is_spent.false)
    (adds_read (g.E.Exchange.Slotted.past c.loop-taken.exchange) (g.E.Exchange.Slotted.past c.act-step.new.exchange)
    _ _ steps.Waits c.phase-phase.ensures c.in-Waits.ensures.past)

pub returns-in-Over-clause-passes : goal.returns-in-Over-clause-passes
returns-in-Over-clause-passes g c =
    let most = c.loop-taken-test.true in
    passes_over (g.E.Exchange.Slotted.past c.args.exchange.now) (g.E.Exchange.Slotted.past c.loop-taken.exchange)
    (g.E.Exchange.Slotted.past c.act-step.new.exchange)
    c.loop-taken._taken c.loop-taken.noted.rounds c.phase-phase.result
    c.loop-taken.invariant (omega (arith, most)) (c.is_spent.ensures.room c.if-is_spent.false)
    (adds_read (g.E.Exchange.Slotted.past c.loop-taken.exchange) (g.E.Exchange.Slotted.past c.act-step.new.exchange)
    _ _ steps.Over c.phase-phase.ensures c.in-Over.ensures.past)

pub loop-taken-preserved : goal.loop-taken-preserved
loop-taken-preserved g c =
    let on : leads_on c.act-step.result ≡ true = elim c.in-On.is [
      | inl on ↦ ap leads_on on
      | inr other ↦ elim other [ inl turned ↦ ap leads_on turned.1 | inr unmoved ↦ ap leads_on unmoved ]
    ] in
    subst
    (λ (n : ℕ). Led (g.E.Exchange.Slotted.past c.args.exchange.now) (g.E.Exchange.Slotted.past c.act-step.new.exchange)
    (c.loop-taken._taken + 1) n)
    (sym c.note_step.ensures.counted)
    (led_more (g.E.Exchange.Slotted.past c.args.exchange.now) (g.E.Exchange.Slotted.past c.loop-taken.exchange)
    (g.E.Exchange.Slotted.past c.act-step.new.exchange)
    c.loop-taken._taken c.loop-taken.noted.rounds c.phase-phase.result c.act-step.result
    c.loop-taken.invariant (c.is_spent.ensures.room c.if-is_spent.false)
    (adds_read (g.E.Exchange.Slotted.past c.loop-taken.exchange) (g.E.Exchange.Slotted.past c.act-step.new.exchange)
    _ _ c.act-step.result c.phase-phase.ensures c.act-step.ensures.past) on)

pub returns-clause-passes : goal.returns-clause-passes
returns-clause-passes g c =
    let most = c.loop-taken.auto._taken-end in
    let last = c.loop-taken-test.false in
    passes_left (g.E.Exchange.Slotted.past c.args.exchange.now) (g.E.Exchange.Slotted.past c.loop-taken.exchange)
    c.loop-taken._taken c.loop-taken.noted.rounds _ c.loop-taken.invariant (omega (arith, most, last)) c.unfinished.ensures.paused
    c.unfinished.ensures.spent

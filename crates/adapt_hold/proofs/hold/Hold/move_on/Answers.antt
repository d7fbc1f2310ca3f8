-- An event without bytes cuts each tape at a place on it; what is left fits the claim after it, and all of that is one step.
use Rattle.std.proofs.Common.{ℕ, [], ◌≤◌, arith, sym, ◌∙◌, ap, subst}
use Rattle.trace_core.specs.declared.history.Seen.{Seen}
use Rattle.plan_rules.specs.Room.{claim_then}
use Rattle.adapt_hold.specs.Spans.{Stock, span_from}
use Rattle.adapt_hold.specs.Holding.{shows}
use Rattle.adapt_hold.proofs.Closes.{original_cuts, adapted_cuts, held_then, held_adapted_then, then_shows, fits_after, moves_on, took}
use Rattle.adapt_hold.proofs.hold.Hold.move_on.Goals as goal

pub drop_to-requires-clause-original_low : goal.drop_to-requires-clause-original_low
drop_to-requires-clause-original_low g c =
    let k = c.in_ok-step.ensures.stepped in
    (original_cuts _ c.args.event c.step.new.state c.held_original-original.result c.self.invariant c.requires k.0 k.1
    c.held_original-original.ensures.held).low

pub drop_to-requires-clause-original_high : goal.drop_to-requires-clause-original_high
drop_to-requires-clause-original_high g c =
    let k = c.in_ok-step.ensures.stepped in
    (original_cuts _ c.args.event c.step.new.state c.held_original-original.result c.self.invariant c.requires k.0 k.1
    c.held_original-original.ensures.held).high

pub drop_to-requires-clause-adapted_low : goal.drop_to-requires-clause-adapted_low
drop_to-requires-clause-adapted_low g c =
    let k = c.in_ok-step.ensures.stepped in
    (adapted_cuts _ c.args.event c.step.new.state c.held_adapted-adapted.result c.self.invariant c.requires k.0 k.1
    c.held_adapted-adapted.ensures.held).low

pub drop_to-requires-clause-adapted_high : goal.drop_to-requires-clause-adapted_high
drop_to-requires-clause-adapted_high g c =
    let k = c.in_ok-step.ensures.stepped in
    (adapted_cuts _ c.args.event c.step.new.state c.held_adapted-adapted.result c.self.invariant c.requires k.0 k.1
    c.held_adapted-adapted.ensures.held).high

pub lower_claim-requires : goal.lower_claim-requires
lower_claim-requires g c =
    let k = c.in_ok-step.ensures.stepped in
    let oe = ap (λ (q : ℕ × ℕ). q.0) (held_then _ c.args.event c.step.new.state c.held_original-original.result c.self.invariant k.0 k.1
    c.held_original-original.ensures.held) in
    let ae = ap (λ (q : ℕ × ℕ). q.0) (held_adapted_then _ c.args.event c.step.new.state c.held_adapted-adapted.result c.self.invariant k.0
    k.1 c.held_adapted-adapted.ensures.held) in
    let h = c.drop_to.ensures.held in
    let fits = fits_after _ c.args.event c.step.new.state c.drop_to.new.self.held c.self.invariant c.requires k.0 k.1 (omega arith) in
    subst (λ (n : ℕ). c.drop_to.new.self.held ≤ claim_then (shows c.step.new.state) c.args.event n c.self.inside.limits.window)
    (sym c.drop_to.ensures.claim) fits

pub invariant_of-self-2 : goal.invariant_of-self-2
invariant_of-self-2 g c =
    let k = c.in_ok-step.ensures.stepped in
    let oe = ap (λ (q : ℕ × ℕ). q.0) (held_then _ c.args.event c.step.new.state c.held_original-original.result c.self.invariant k.0 k.1
    c.held_original-original.ensures.held) in
    let ae = ap (λ (q : ℕ × ℕ). q.0) (held_adapted_then _ c.args.event c.step.new.state c.held_adapted-adapted.result c.self.invariant k.0
    k.1 c.held_adapted-adapted.ensures.held) in
    let h = c.drop_to.ensures.held in
    let s = c.lower_claim.ensures in
    let held = ap (λ (q : Stock). q.held) s in
    (moves_on _ c.args.event c.step.new.state c.lower_claim.new.store c.self.invariant c.requires k.0 k.1
    (ap (λ (q : Stock). q.original) s ∙ c.drop_to.ensures.original ∙ ap (λ (p : ℕ). span_from c.self.inside.store.original p) oe)
    (ap (λ (q : Stock). q.adapted) s ∙ c.drop_to.ensures.adapted ∙ ap (λ (p : ℕ). span_from c.self.inside.store.adapted p) ae)
    (omega arith)
    (ap (λ (q : Stock). q.claim) s
    ∙ ap (λ (n : ℕ). claim_then (shows c.step.new.state) c.args.event n c.self.inside.limits.window) c.drop_to.ensures.claim
    ∙ ap (λ (x : Seen). claim_then x c.args.event c.self.inside.store.claim c.self.inside.limits.window)
    (then_shows _ c.args.event c.step.new.state c.self.invariant k.0 k.1))).tied

pub returns : goal.returns
returns g c =
    let k = c.in_ok-step.ensures.stepped in
    let oe = ap (λ (q : ℕ × ℕ). q.0) (held_then _ c.args.event c.step.new.state c.held_original-original.result c.self.invariant k.0 k.1
    c.held_original-original.ensures.held) in
    let ae = ap (λ (q : ℕ × ℕ). q.0) (held_adapted_then _ c.args.event c.step.new.state c.held_adapted-adapted.result c.self.invariant k.0
    k.1 c.held_adapted-adapted.ensures.held) in
    let h = c.drop_to.ensures.held in
    let s = c.lower_claim.ensures in
    let held = ap (λ (q : Stock). q.held) s in
    let closes = moves_on _ c.args.event c.step.new.state c.lower_claim.new.store c.self.invariant c.requires k.0 k.1
    (ap (λ (q : Stock). q.original) s ∙ c.drop_to.ensures.original ∙ ap (λ (p : ℕ). span_from c.self.inside.store.original p) oe)
    (ap (λ (q : Stock). q.adapted) s ∙ c.drop_to.ensures.adapted ∙ ap (λ (p : ℕ). span_from c.self.inside.store.adapted p) ae)
    (omega arith)
    (ap (λ (q : Stock). q.claim) s
    ∙ ap (λ (n : ℕ). claim_then (shows c.step.new.state) c.args.event n c.self.inside.limits.window) c.drop_to.ensures.claim
    ∙ ap (λ (x : Seen). claim_then x c.args.event c.self.inside.store.claim c.self.inside.limits.window)
    (then_shows _ c.args.event c.step.new.state c.self.invariant k.0 k.1)) in
    took _ _ _ c.args.event [] c.self.view_is k.0 closes

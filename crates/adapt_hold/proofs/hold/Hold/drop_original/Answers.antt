-- Nothing of an original that isn't kept is held; its tape moves on by the bytes that came, which is one step.
use Rattle.std.proofs.Common.{◌≡◌, ℕ, sym, ◌∙◌, ap, subst, false}
use Rattle.trace_core.specs.Held.{keeps_original}
use Rattle.adapt_hold.specs.Holding.{Holding, shows}
use Rattle.adapt_hold.specs.Spans.{span_from}
use Rattle.adapt_hold.proofs.Closes.{drops_original, end_of_original, held_then, some_bytes, none_to_drop, took}
use Rattle.adapt_hold.proofs.hold.Hold.drop_original.Goals as goal

pub skip_original-requires-clause-empty : goal.skip_original-requires-clause-empty
skip_original-requires-clause-empty g c =
    let keeps = subst (λ (h : Holding). keeps_original (shows h.history) ≡ false) (sym c.self.view_is) c.requires.keeps in
    none_to_drop _ c.self.invariant c.take.ensures.may.0 keeps

pub skip_original-requires-clause-low : goal.skip_original-requires-clause-low
skip_original-requires-clause-low g c = (end_of_original _ c.args.event c.take.new.state c.held_original.result c.self.invariant
    c.take.ensures.may c.take.ensures.taken c.held_original.ensures.held).low

pub skip_original-requires-clause-small : goal.skip_original-requires-clause-small
skip_original-requires-clause-small g c = (end_of_original _ c.args.event c.take.new.state c.held_original.result c.self.invariant
    c.take.ensures.may c.take.ensures.taken c.held_original.ensures.held).small

pub invariant_of-self : goal.invariant_of-self
invariant_of-self g c =
    let keeps = subst (λ (h : Holding). keeps_original (shows h.history) ≡ false) (sym c.self.view_is) c.requires.keeps in
    let to = ap (λ (q : ℕ × ℕ). q.1) (held_then _ c.args.event c.take.new.state c.held_original.result c.self.invariant c.take.ensures.may
    c.take.ensures.taken c.held_original.ensures.held) in
    let some = some_bytes c.args.event c.requires.event in
    (drops_original _ some.bytes c.args.event c.take.new.state c.skip_original.new.self c.self.invariant c.requires.event some.brings keeps
    c.take.ensures.may c.take.ensures.taken
    (c.skip_original.ensures ∙ ap (λ (p : ℕ). record c.self.inside.store { original = span_from c.self.inside.store.original p }) to)).tied

pub returns : goal.returns
returns g c = λ bytes b.
    let keeps = subst (λ (h : Holding). keeps_original (shows h.history) ≡ false) (sym c.self.view_is) c.requires.keeps in
    let to = ap (λ (q : ℕ × ℕ). q.1) (held_then _ c.args.event c.take.new.state c.held_original.result c.self.invariant c.take.ensures.may
    c.take.ensures.taken c.held_original.ensures.held) in
    let closes = drops_original _ bytes c.args.event c.take.new.state c.skip_original.new.self c.self.invariant c.requires.event b keeps
    c.take.ensures.may c.take.ensures.taken
    (c.skip_original.ensures ∙ ap (λ (p : ℕ). record c.self.inside.store { original = span_from c.self.inside.store.original p }) to) in
    took _ _ _ c.args.event bytes c.self.view_is c.take.ensures.may closes

-- Bytes of a kept original that may come and fit the claim find room; put at its tape's end they are one step.
use Rattle.std.proofs.Common.{◌≡◌, ◌≤◌, sym, subst, true}
use Rattle.trace_core.specs.Held.{keeps_original, held_places}
use Rattle.trace_core.specs.Legal.{MayFollow}
use Rattle.adapt_hold.specs.Holding.{Holding, shows, shows_then}
use Rattle.adapt_hold.proofs.Closes.{in_room, keeps_original_bytes, took}
use Rattle.adapt_hold.proofs.hold.Hold.keep_original.Goals as goal

pub keep_original-requires-clause-some : goal.keep_original-requires-clause-some
keep_original-requires-clause-some g c =
    let keeps = subst (λ (h : Holding). keeps_original (shows h.history) ≡ true) (sym c.self.view_is) c.requires.keeps in
    let room = subst (λ (h : Holding). MayFollow h.history.plan h.history.events c.args.event
    → held_places (shows_then h.history c.args.event) ≤ h.claim) (sym c.self.view_is) c.requires.room in
    (in_room _ c.args.bytes.now c.args.event c.self.invariant keeps c.requires.event c.take.ensures.may (room c.take.ensures.may)).some

pub keep_original-requires-clause-room : goal.keep_original-requires-clause-room
keep_original-requires-clause-room g c =
    let keeps = subst (λ (h : Holding). keeps_original (shows h.history) ≡ true) (sym c.self.view_is) c.requires.keeps in
    let room = subst (λ (h : Holding). MayFollow h.history.plan h.history.events c.args.event
    → held_places (shows_then h.history c.args.event) ≤ h.claim) (sym c.self.view_is) c.requires.room in
    (in_room _ c.args.bytes.now c.args.event c.self.invariant keeps c.requires.event c.take.ensures.may (room c.take.ensures.may)).room

pub keep_original-requires-clause-fits : goal.keep_original-requires-clause-fits
keep_original-requires-clause-fits g c =
    let keeps = subst (λ (h : Holding). keeps_original (shows h.history) ≡ true) (sym c.self.view_is) c.requires.keeps in
    let room = subst (λ (h : Holding). MayFollow h.history.plan h.history.events c.args.event
    → held_places (shows_then h.history c.args.event) ≤ h.claim) (sym c.self.view_is) c.requires.room in
    (in_room _ c.args.bytes.now c.args.event c.self.invariant keeps c.requires.event c.take.ensures.may (room c.take.ensures.may)).fits

pub invariant_of-self : goal.invariant_of-self
invariant_of-self g c =
    let keeps = subst (λ (h : Holding). keeps_original (shows h.history) ≡ true) (sym c.self.view_is) c.requires.keeps in
    let room = subst (λ (h : Holding). MayFollow h.history.plan h.history.events c.args.event
    → held_places (shows_then h.history c.args.event) ≤ h.claim) (sym c.self.view_is) c.requires.room in
    (keeps_original_bytes _ c.args.bytes.now c.args.event c.take.new.state c.keep_original.new.self c.self.invariant keeps c.requires.event
    c.keep_original.ensures c.take.ensures.may c.take.ensures.taken (room c.take.ensures.may)).tied

pub returns : goal.returns
returns g c =
    let keeps = subst (λ (h : Holding). keeps_original (shows h.history) ≡ true) (sym c.self.view_is) c.requires.keeps in
    let room = subst (λ (h : Holding). MayFollow h.history.plan h.history.events c.args.event
    → held_places (shows_then h.history c.args.event) ≤ h.claim) (sym c.self.view_is) c.requires.room in
    let closes = keeps_original_bytes _ c.args.bytes.now c.args.event c.take.new.state c.keep_original.new.self c.self.invariant keeps
    c.requires.event c.keep_original.ensures c.take.ensures.may c.take.ensures.taken (room c.take.ensures.may) in
    took _ _ _ c.args.event c.args.bytes.now c.self.view_is c.take.ensures.may closes

-- Adapted bytes that may come and fit the claim find room; put at the end of their tape they are one step.
use Rattle.std.proofs.Common.{◌≤◌, sym, subst}
use Rattle.trace_core.specs.Held.{held_places}
use Rattle.trace_core.specs.Legal.{MayFollow}
use Rattle.adapt_hold.specs.Holding.{Holding, shows_then}
use Rattle.adapt_hold.proofs.Closes.{ad_room, keeps_adapted, took}
use Rattle.adapt_hold.proofs.hold.Hold.keep_adapted.Goals as goal

pub keep_adapted-requires-clause-some : goal.keep_adapted-requires-clause-some
keep_adapted-requires-clause-some g c =
    let room = subst (λ (h : Holding). MayFollow h.history.plan h.history.events c.args.event
    → held_places (shows_then h.history c.args.event) ≤ h.claim) (sym c.self.view_is) c.requires.room in
    (ad_room _ c.args.bytes.now c.args.event c.self.invariant c.requires.event c.take.ensures.may (room c.take.ensures.may)).some

pub keep_adapted-requires-clause-room : goal.keep_adapted-requires-clause-room
keep_adapted-requires-clause-room g c =
    let room = subst (λ (h : Holding). MayFollow h.history.plan h.history.events c.args.event
    → held_places (shows_then h.history c.args.event) ≤ h.claim) (sym c.self.view_is) c.requires.room in
    (ad_room _ c.args.bytes.now c.args.event c.self.invariant c.requires.event c.take.ensures.may (room c.take.ensures.may)).room

pub keep_adapted-requires-clause-fits : goal.keep_adapted-requires-clause-fits
keep_adapted-requires-clause-fits g c =
    let room = subst (λ (h : Holding). MayFollow h.history.plan h.history.events c.args.event
    → held_places (shows_then h.history c.args.event) ≤ h.claim) (sym c.self.view_is) c.requires.room in
    (ad_room _ c.args.bytes.now c.args.event c.self.invariant c.requires.event c.take.ensures.may (room c.take.ensures.may)).fits

pub invariant_of-self : goal.invariant_of-self
invariant_of-self g c =
    let room = subst (λ (h : Holding). MayFollow h.history.plan h.history.events c.args.event
    → held_places (shows_then h.history c.args.event) ≤ h.claim) (sym c.self.view_is) c.requires.room in
    (keeps_adapted _ c.args.bytes.now c.args.event c.take.new.state c.keep_adapted.new.self c.self.invariant c.requires.event
    c.keep_adapted.ensures c.take.ensures.may c.take.ensures.taken (room c.take.ensures.may)).tied

pub returns : goal.returns
returns g c =
    let room = subst (λ (h : Holding). MayFollow h.history.plan h.history.events c.args.event
    → held_places (shows_then h.history c.args.event) ≤ h.claim) (sym c.self.view_is) c.requires.room in
    let closes = keeps_adapted _ c.args.bytes.now c.args.event c.take.new.state c.keep_adapted.new.self c.self.invariant c.requires.event
    c.keep_adapted.ensures c.take.ensures.may c.take.ensures.taken (room c.take.ensures.may) in
    took _ _ _ c.args.event c.args.bytes.now c.self.view_is c.take.ensures.may closes

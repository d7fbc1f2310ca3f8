-- One user after another is taken in.
use Rattle.std.proofs.Common.{◌≡◌, rules, List, [], ◌∷◌, length, inl, inr, refl, sym, ◌∙◌, subst}
use Rattle.std.specs.Vec.Iter.{into_iter_len}
use Rattle.std.proofs.lemmas.List.{map-id}
use Rattle.std.proofs.lemmas.Iterator.Adapters.{YieldsList-from_vec}
use Rattle.std.proofs.lemmas.Iterator.Consumers.{YieldsList-end}
use Rattle.std.specs.Prelude.{All}
use Rattle.event_loop.specs.declared.inbox.Handed.{Handed}
use Rattle.event_loop.specs.declared.work.Admitted.TheVariants.{Seated, Full, Closed}
use Rattle.event_loop.specs.Deeds.{Deed}
use Rattle.event_loop.specs.Deeds.Deed.{TookIn}
use Rattle.event_loop.specs.Turns.{Stands, IsAdmitted}
use Rattle.event_loop.proofs.Turning.{did_then, did_and, did_behind, did_fail, did_due, did_is, did_same, does_one, stands_newest}
use Rattle.event_loop.proofs.Serving.{admitted_next}
use Rattle.event_loop.proofs.looping.EventLoop.take_in.Goals as goal

pub loop-user-preserved-in-Continue-1 : goal.loop-user-preserved-in-Continue-1
loop-user-preserved-in-Continue-1 g c =
    did_then g.K.Work c.args.self.now c.loop-user.self c.drive.new.self c.loop-user.invariant
    (did_due g.K.Work c.loop-user.self _ c.drive.new.self (TookIn c.in-Some.user.number (Seated c.in-Seated.key)) c.in-Seated.key
    (does_one g.K.Work c.loop-user.self _ (TookIn c.in-Some.user.number (Seated c.in-Seated.key)) c.in-Seated.ensures.past
    (λ x key. (refl, refl, tt)) c.in-Seated.ensures.kept refl refl)
    c.in_ok-drive-in-Seated.ensures)
    (λ first second f d tied p q. admitted_next g.K.Work c.loop-user.self c.drive.new.self c.loop-user.yielded c.in-Some.user first second d
    tied p (inl (c.in-Seated.key, q)))

pub returns-in_err-drive-in-Seated : goal.returns-in_err-drive-in-Seated
returns-in_err-drive-in-Seated g c =
    did_fail g.K.Work c.args.self.now c.drive.new.self _ c.from_residual.result c.from_residual.ensures.0
    (did_and g.K.Work c.args.self.now c.loop-user.self c.drive.new.self c.loop-user.invariant
    (did_behind g.K.Work c.loop-user.self _ c.drive.new.self
    (does_one g.K.Work c.loop-user.self _ (TookIn c.in-Some.user.number (Seated c.in-Seated.key)) c.in-Seated.ensures.past
    (λ x key. (refl, refl, tt)) c.in-Seated.ensures.kept refl refl)
    c.drive.ensures))

pub loop-user-preserved-in-Full : goal.loop-user-preserved-in-Full
loop-user-preserved-in-Full g c =
    did_then g.K.Work c.args.self.now c.loop-user.self _ c.loop-user.invariant
    (did_is g.K.Work c.loop-user.self _ {P = λ (deeds : List Deed). Stands (TookIn c.in-Some.user.number (Full c.in-Full.user)) deeds}
    (TookIn c.in-Some.user.number (Full c.in-Full.user) ∷ [])
    (does_one g.K.Work c.loop-user.self _ (TookIn c.in-Some.user.number (Full c.in-Full.user)) c.in-Full.ensures.past
    (λ x key. (refl, refl, tt)) c.in-Full.ensures.kept refl refl)
    (stands_newest (TookIn c.in-Some.user.number (Full c.in-Full.user)) []))
    (λ first second f d tied p q. admitted_next g.K.Work c.loop-user.self _ c.loop-user.yielded c.in-Some.user first second d tied p
    (inr (inl (c.in-Full.user, q))))

pub loop-user-preserved : goal.loop-user-preserved
loop-user-preserved g c =
    did_then g.K.Work c.args.self.now c.loop-user.self _ c.loop-user.invariant
    (did_is g.K.Work c.loop-user.self _ {P = λ (deeds : List Deed). Stands (TookIn c.in-Some.user.number Closed) deeds}
    (TookIn c.in-Some.user.number Closed ∷ [])
    (does_one g.K.Work c.loop-user.self _ (TookIn c.in-Some.user.number Closed) c.in-Closed.ensures.past (λ x key. (refl, refl, tt))
    c.in-Closed.ensures.kept refl refl)
    (stands_newest (TookIn c.in-Some.user.number Closed) []))
    (λ first second f d tied p q. admitted_next g.K.Work c.loop-user.self _ c.loop-user.yielded c.in-Some.user first second d tied p
    (inr (inr q)))

pub returns : goal.returns
returns g c =
    let began = c.into_iter-user-iterator.ensures.into_iter_gives in
    let ok = c.args.users.ok in
    let count : into_iter_len c.into_iter-user-iterator.result ≡ length c.args.users.items = search rules in
    let over = YieldsList-end (YieldsList-from_vec c.args.users.items began.0 count) c.loop-user.yielded c.loop-user.user-iterator
    c.loop-user.yielded_by c.next.result c.next.new.self c.in-None.is c.next.ensures.steps in
    let all : c.loop-user.yielded ≡ c.args.users.items = sym (map-id c.loop-user.yielded) ∙ over.0 in
    did_same g.K.Work c.args.self.now c.loop-user.self c.loop-user.invariant
    (λ deeds p. subst (λ (users : List Handed). All (λ (user : Handed). IsAdmitted user.number deeds c.loop-user.self.ready) users) all p)

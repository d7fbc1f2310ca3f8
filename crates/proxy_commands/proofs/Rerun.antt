-- The events of a history that is kept run again, and a plan answers alike at each vectoring point.
use Rattle.std.proofs.Common.{◌≡◌, List, [], ◌∷◌, ◌++◌, reverse, refl, sym, ap, subst}
use Rattle.std.proofs.lemmas.List.{reverse-append}
use Rattle.trace_core.specs.declared.history.Plan.{Plan}
use Rattle.trace_core.specs.declared.history.Event.{Event}
use Rattle.trace_core.specs.declared.history.Event.TheVariants.{In, End, Svc, Stop, Heard, Continue, NoMod}
use Rattle.trace_core.specs.declared.history.Event.TheVariants.{Mod, Ad, AdEnd, Usr, Done, Fail, Retry}
use Rattle.trace_core.specs.History.{seen}
use Rattle.trace_core.specs.Legal.{MayFollow, IsLegal}
use Rattle.trace_core.specs.Norm.{norm, IsNormal}
use Rattle.trace_core.specs.Faults.{first_fault}
use Rattle.trace_core.proofs.Short.{norm-shows, norm-again, norm-fixed}
use Rattle.trace_core.proofs.Same.{follow_same}
use Rattle.proxy_commands.specs.Printed.{said_plan, Runs, AnswersAlike}

-- The vectoring point.

-- an event's first fault doesn't depend on the vectoring point
same_fault : (plan : Plan) (events : List Event) (event : Event)
    → first_fault (seen (said_plan plan) events) event ≡ first_fault (seen plan events) event
same_fault plan events (In n) = refl
same_fault plan events End = refl
same_fault plan events (Svc n) = refl
same_fault plan events Stop = refl
same_fault plan events Heard = refl
same_fault plan events Continue = refl
same_fault plan events NoMod = refl
same_fault plan events (Mod payload) = refl
same_fault plan events (Ad n) = refl
same_fault plan events AdEnd = refl
same_fault plan events (Usr n) = refl
same_fault plan events Done = refl
same_fault plan events (Fail cause) = refl
same_fault plan events Retry = refl

-- no answer depends on it
pub answers_alike : (plan : Plan) (events : List Event) → AnswersAlike (seen (said_plan plan) events) (seen plan events)
answers_alike plan events = record { original = refl; adapted = refl; fault = same_fault plan events }

-- what may follow may follow there
same_follow : (plan : Plan) (events : List Event) (event : Event) → MayFollow plan events event → MayFollow (said_plan plan) events event
same_follow plan events (In n) m = m
same_follow plan events End m = m
same_follow plan events (Svc n) m = m
same_follow plan events Stop m = m
same_follow plan events Heard m = m
same_follow plan events Continue m = m
same_follow plan events NoMod m = m
same_follow plan events (Mod payload) m = m
same_follow plan events (Ad n) m = m
same_follow plan events AdEnd m = m
same_follow plan events (Usr n) m = m
same_follow plan events Done m = m
same_follow plan events (Fail cause) m = m
same_follow plan events Retry m = m

-- so a legal history is legal there
pub same_legal : (plan : Plan) (events : List Event) → IsLegal plan events → IsLegal (said_plan plan) events
same_legal plan [] l = l
same_legal plan (event ∷ before) l = (same_follow plan before event l.0, same_legal plan before l.1)

-- The run.

-- one event more
one_more : (plan : Plan) (before events kept : List Event) (event : Event) → Runs plan before events kept → MayFollow plan kept event
    → Runs plan before (events ++ event ∷ []) (norm (event ∷ kept))
one_more plan before [] kept event r m =
    (subst (λ (k : List Event). MayFollow plan k event) r m, ap (λ (k : List Event). norm (event ∷ k)) r)
one_more plan before (first ∷ events) kept event r m = (r.0, one_more plan (norm (first ∷ before)) events kept event r.1 m)

-- what is kept after the events of a legal history is its short form
runs : (plan : Plan) (events : List Event) → IsLegal plan events → Runs plan [] (reverse events) (norm events)
runs plan [] l = refl
runs plan (event ∷ before) l =
    let may : MayFollow plan (norm before) event = follow_same plan (norm before) before event (norm-shows plan before l.1).same l.0 in
    let all = one_more plan [] (reverse before) (norm before) event (runs plan before l.1) may in
    let order : reverse (event ∷ before) ≡ reverse before ++ event ∷ [] = reverse-append (event ∷ []) before in
    let short = norm-again plan event before l in
    subst (λ (kept : List Event). Runs plan [] (reverse (event ∷ before)) kept) short
    (subst (λ (events : List Event). Runs plan [] events (norm (event ∷ norm before))) (sym order) all)

-- and that is the history, where it is in short form
pub runs_again : (plan : Plan) (events : List Event)
    → IsLegal plan events → IsNormal events → Runs (said_plan plan) [] (reverse events) events
runs_again plan events l n =
    let legal = same_legal plan events l in
    subst (λ (kept : List Event). Runs (said_plan plan) [] (reverse events) kept) (norm-fixed (said_plan plan) events legal n)
    (runs (said_plan plan) events legal)

-- Each cause for which no head is made lies with a side or with memory: it is no deadline, and no stop.
use Rattle.std.proofs.Common.{◌≡◌, inl, inr, Bool, true, false, List, ℕ, Option, Some, None, sym, subst}
use Rattle.trace_core.specs.declared.history.Cause.{Cause}
use Rattle.trace_core.specs.declared.history.Cause.TheVariants as causes
use Rattle.http_side.specs.Heads.{RequestParts}
use Rattle.http_side.specs.declared.forward.OriginWay.{OriginWay}
use Rattle.trace_core.specs.declared.history.Seen.{Seen}
use Rattle.http_relay.specs.declared.side.head.SourceHead.{SourceHead}
use Rattle.http_relay.specs.declared.side.SourceSide.{SourceSide}
use Rattle.adapt_turn.specs.Reports.{IsOfSide}
use Rattle.proxy_rules.specs.Heads.{MakesNone, MakesNoneOf}
use Rattle.proxy_rules.proofs.laws.a_missing_head_is_of_a_side.Goals as goal

-- want of memory is neither the deadline nor a stop
of_memory : (cause : Cause) → cause ≡ causes.Memory → IsOfSide cause
of_memory cause e = subst IsOfSide (sym e) tt

-- a cause that lies with the source is neither the deadline nor a stop
of_source : (cause : Cause) → cause ≡ causes.Source → IsOfSide cause
of_source cause e = subst IsOfSide (sym e) tt

-- a cause that lies with the service is neither the deadline nor a stop
of_service : (cause : Cause) → cause ≡ causes.Service → IsOfSide cause
of_service cause e = subst IsOfSide (sym e) tt

-- a cause that lies with the next hop is neither the deadline nor a stop
of_next_hop : (cause : Cause) → cause ≡ causes.NextHop → IsOfSide cause
of_next_hop cause e = subst IsOfSide (sym e) tt

-- why no head is made of the chosen message is neither the deadline nor a stop
none_of : (source : SourceHead) (asked : RequestParts) (origin : OriginWay) (adapted : Option (List ℕ)) (is_response has_body : Bool)
    (cause : Cause)
    → MakesNoneOf source asked origin adapted is_response has_body cause → IsOfSide cause
none_of source asked origin None is_response has_body cause (inl e) = of_memory cause e
none_of source asked origin None is_response has_body cause (inr (inl e)) = of_source cause e.0
none_of source asked origin None is_response has_body cause (inr (inr e)) = of_next_hop cause e.0
none_of source asked origin (Some text) true has_body cause (inl e) = of_memory cause e
none_of source asked origin (Some text) true has_body cause (inr e) = of_service cause e.0
none_of source asked origin (Some text) false has_body cause (inl e) = of_memory cause e
none_of source asked origin (Some text) false has_body cause (inr (inl e)) = of_service cause e.0
none_of source asked origin (Some text) false has_body cause (inr (inr e)) = of_next_hop cause e.0

-- why no head is made, also where the user's wasn't read, is neither the deadline nor a stop
of_side : (origin : OriginWay) (user : Option SourceSide) (source : SourceHead) (x : Seen) (adapted : Option (List ℕ)) (is_response : Bool)
    (cause : Cause)
    → MakesNone origin user source x adapted is_response cause → IsOfSide cause
of_side origin user source x adapted is_response cause none = elim none [
  | inl e ↦ of_source cause e.0
  | inr e ↦ none_of source e.0 origin adapted is_response x.has_body cause e.2
]

pub returns-clause-deadline : goal.returns-clause-deadline
returns-clause-deadline c = λ origin user source x adapted is_response none.
    of_side origin user source x adapted is_response causes.Deadline none

pub returns-clause-stopping : goal.returns-clause-stopping
returns-clause-stopping c = λ origin user source x adapted is_response none.
    of_side origin user source x adapted is_response causes.Stopping none

-- For each cause the noted reason has the refusal's status, if the service's fault lies elsewhere and the user isn't gone.
use Rattle.std.proofs.Common.{◌≡◌, Bool, true, false, if◌then◌else◌, refl, ap}
use Rattle.adapt_turn.specs.Refusals.{refusal_status}
use Rattle.exchange_core.specs.Dues as dues
use Rattle.exchange_core.specs.declared.event.RefusalCause.TheVariants.{Elsewhere}
use Rattle.exchange_report.specs.Reasons.{cause_of, status_of}
use Rattle.exchange_report.specs.declared.reason.Reason.TheVariants as reasons
use Rattle.exchange_report.specs.declared.why.Why.TheVariants.{UserGone, Failed}
use Rattle.shard_desk.specs.Failures.{HasStatus}
use Rattle.shard_report.specs.Reasons.{failed_word, broken_source, next_hop_owes, source_owes, service_is_done, sender, taker}
use Rattle.shard_report.specs.declared.reasons.Evidence.{Evidence}
use Rattle.trace_core.specs.declared.history.Cause.{Cause}
use Rattle.trace_core.specs.declared.history.Cause.TheVariants.{Source, Service, NextHop, Memory, Deadline, Stopping}
use Rattle.trace_core.specs.declared.history.Point.{Point}
use Rattle.trace_core.specs.declared.history.Point.TheVariants.{Reqmod, Respmod}
use Rattle.trace_core.specs.declared.history.Seen.{Seen}
use Rattle.shard_desk.proofs.laws.a_failure_has_the_status_of_its_refusal.Goals as goal

-- whoever let a deadline pass
late : (hop_owes source_owes done to_user : Bool) (point : Point)
    → status_of (if hop_owes then taker to_user else if source_owes then sender point else if done then taker to_user else
    reasons.ServiceDeadline) ≡ 504
late true source_owes done true point = refl
late true source_owes done false point = refl
late false true done to_user Reqmod = refl
late false true done to_user Respmod = refl
late false false true true point = refl
late false false true false point = refl
late false false false to_user point = refl

-- whoever the next hop is
broken : (to_user fresh : Bool) (point : Point)
    → HasStatus (refusal_status NextHop point) (if to_user then UserGone else if fresh then Failed reasons.OriginRefused else Failed
    reasons.OriginBroken)
broken true fresh point = tt
broken false true point = refl
broken false false point = refl

-- the word for a broken source has the status of its refusal, at either point
source : (point : Point) → HasStatus (refusal_status Source point) (Failed (broken_source point))
source Reqmod = refl
source Respmod = refl

-- the word of a failed exchange has the status of its refusal, where the service's fault lies elsewhere
has_status : (cause : Cause) (seen : Seen) (evidence : Evidence) → cause_of evidence.service ≡ Elsewhere
    → HasStatus (refusal_status cause seen.plan.point) (failed_word cause seen evidence)
has_status Source seen evidence elsewhere = source seen.plan.point
has_status Service seen evidence elsewhere = ap dues.status_of elsewhere
has_status NextHop seen evidence elsewhere = broken evidence.to_user evidence.next_is_fresh seen.plan.point
has_status Memory seen evidence elsewhere = refl
has_status Deadline seen evidence elsewhere =
    late (next_hop_owes seen) (source_owes seen) (service_is_done seen) evidence.to_user seen.plan.point
has_status Stopping seen evidence elsewhere = refl

pub returns : goal.returns
returns c = has_status

-- What became of a message, and why it failed, as its history shows.
use Rattle.std.specs.Prelude.{Bool, true, false, not, ◌&&◌, ◌||◌, ◌==◌, nat_lt, if◌then◌else◌}
use Rattle.exchange_report.specs.declared.reason.Reason.{Reason}
use Rattle.exchange_report.specs.declared.reason.Reason.TheVariants as reasons
use Rattle.exchange_report.specs.declared.verdict.Reply.{Reply}
use Rattle.exchange_report.specs.declared.verdict.Reply.TheVariants as reply
use Rattle.exchange_report.specs.declared.verdict.Verdict.{Verdict}
use Rattle.exchange_report.specs.declared.why.Why.{Why}
use Rattle.exchange_report.specs.declared.why.Why.TheVariants.{UserGone, Failed}
use Rattle.shard_report.specs.declared.reasons.Evidence.{Evidence}
use Rattle.trace_core.specs.History.{is_plain}
use Rattle.trace_core.specs.declared.history.Seen.{Seen}
use Rattle.trace_core.specs.declared.history.Cause.{Cause}
use Rattle.trace_core.specs.declared.history.Cause.TheVariants.{Source, Service, NextHop, Memory, Deadline, Stopping}
use Rattle.trace_core.specs.declared.history.Point.{Point}
use Rattle.trace_core.specs.declared.history.Point.TheVariants.{Reqmod, Respmod}

abbrev pub reply_of : Seen → Reply
reply_of s = if is_plain s.plan.kind then reply.Plain
    else if s.no_mod then reply.Unchanged
    else if s.modified then reply.Changed
    else reply.Missing

abbrev pub verdict_of : Seen → Verdict
verdict_of s = record { retried = s.retried; continued = s.continued; reply = reply_of s }

-- bytes of the chosen message came that the next hop hasn't taken
abbrev pub next_hop_owes : Seen → Bool
next_hop_owes s = if is_plain s.plan.kind || s.no_mod then nat_lt s.original_delivered s.received
    else nat_lt s.adapted_delivered s.adapted_received

-- the service owes nothing: it isn't asked, or it has answered
abbrev pub service_is_done : Seen → Bool
service_is_done s = is_plain s.plan.kind || s.no_mod || s.adapted_over

-- the original hasn't ended; and the service is done, or it has all that came of the original, and waits for more
abbrev pub source_owes : Seen → Bool
source_owes s = not s.ended && (service_is_done s || (not s.last_stop && s.sent == s.received))

-- who takes the message
abbrev pub taker : (to_user : Bool) → Reason
taker true = reasons.UserDeadline
taker false = reasons.OriginDeadline

-- who sends the original
abbrev pub sender : Point → Reason
sender Reqmod = reasons.UserDeadline
sender Respmod = reasons.OriginDeadline

-- who let a deadline pass
abbrev pub late_of : Seen → (to_user : Bool) → Reason
late_of s to_user = if next_hop_owes s then taker to_user
    else if source_owes s then sender s.plan.point
    else if service_is_done s then taker to_user
    else reasons.ServiceDeadline

-- the source broke: at REQMOD it is the user
abbrev pub broken_source : Point → Reason
broken_source Reqmod = reasons.RequestBroken
broken_source Respmod = reasons.OriginBroken

-- the next hop broke: an origin over whose connection nothing went refused it
abbrev pub broken_next_hop : Evidence → Why
broken_next_hop e = if e.to_user then UserGone else if e.next_is_fresh then Failed reasons.OriginRefused else Failed reasons.OriginBroken

abbrev pub failed_word : Cause → Seen → Evidence → Why
failed_word Source s e = Failed (broken_source s.plan.point)
failed_word Service s e = Failed e.service
failed_word NextHop s e = broken_next_hop e
failed_word Memory s e = Failed reasons.NoMemory
failed_word Deadline s e = Failed (late_of s e.to_user)
failed_word Stopping s e = Failed reasons.Stopping

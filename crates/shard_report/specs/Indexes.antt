-- The index of each number that a loop counts.
use Rattle.std.specs.Prelude.{ℕ, ◌+◌, ◌*◌, ◌/◌, ◌==◌, nat_le, if◌then◌else◌}
use Rattle.exchange_report.specs.Reasons.{number_of}
use Rattle.exchange_report.specs.declared.verdict.Reply.{Reply}
use Rattle.exchange_report.specs.declared.verdict.Reply.TheVariants.{Plain, Unchanged, Changed, Missing}
use Rattle.exchange_report.specs.declared.why.Why.{Why}
use Rattle.exchange_report.specs.declared.why.Why.TheVariants.{Served, UserGone, Failed}
use Rattle.shard_report.specs.declared.tally.Bound.{Bound}
use Rattle.shard_report.specs.declared.tally.Bound.TheVariants.{Milliseconds5, Milliseconds10, Milliseconds25, Milliseconds50}
use Rattle.shard_report.specs.declared.tally.Bound.TheVariants.{Milliseconds100, Milliseconds250, Milliseconds500, Seconds1}
use Rattle.shard_report.specs.declared.tally.Bound.TheVariants.{Milliseconds2500, Seconds5, Seconds10, None}
use Rattle.shard_report.specs.declared.tally.Class.{Class}
use Rattle.shard_report.specs.declared.tally.Class.TheVariants.{Informational, Successful, Redirection, ClientError, ServerError, Other}
use Rattle.shard_report.specs.declared.tally.Count.{Count}
use Rattle.shard_report.specs.declared.tally.Count.TheVariants.{Requests, Retries, Read, Sent, Users, Milliseconds, Answers, Messages}
use Rattle.shard_report.specs.declared.tally.Count.TheVariants.{Refusals, Failures, Times, Origins}
use Rattle.shard_report.specs.declared.tally.Dealing.{Dealing}
use Rattle.shard_report.specs.declared.tally.Dealing.TheVariants.{Opened, Reused, BegunAnew, Idle}
use Rattle.shard_report.specs.declared.tally.TheConstants.{REASON_COUNT, END_COUNT}
use Rattle.trace_core.specs.declared.history.Point.{Point}
use Rattle.trace_core.specs.declared.history.Point.TheVariants.{Reqmod, Respmod}

-- the class of a status (RFC 9110, section 15)
abbrev pub class_of : ℕ → Class
class_of status = if status / 100 == 1 then Informational
    else if status / 100 == 2 then Successful
    else if status / 100 == 3 then Redirection
    else if status / 100 == 4 then ClientError
    else if status / 100 == 5 then ServerError
    else Other

abbrev pub class_number : Class → ℕ
class_number Informational = 0
class_number Successful = 1
class_number Redirection = 2
class_number ClientError = 3
class_number ServerError = 4
class_number Other = 5

-- the least of a histogram's bounds that so many milliseconds don't pass
abbrev pub bound_of : ℕ → Bound
bound_of milliseconds = if nat_le milliseconds 5 then Milliseconds5
    else if nat_le milliseconds 10 then Milliseconds10
    else if nat_le milliseconds 25 then Milliseconds25
    else if nat_le milliseconds 50 then Milliseconds50
    else if nat_le milliseconds 100 then Milliseconds100
    else if nat_le milliseconds 250 then Milliseconds250
    else if nat_le milliseconds 500 then Milliseconds500
    else if nat_le milliseconds 1000 then Seconds1
    else if nat_le milliseconds 2500 then Milliseconds2500
    else if nat_le milliseconds 5000 then Seconds5
    else if nat_le milliseconds 10000 then Seconds10
    else None

abbrev pub bound_number : Bound → ℕ
bound_number Milliseconds5 = 0
bound_number Milliseconds10 = 1
bound_number Milliseconds25 = 2
bound_number Milliseconds50 = 3
bound_number Milliseconds100 = 4
bound_number Milliseconds250 = 5
bound_number Milliseconds500 = 6
bound_number Seconds1 = 7
bound_number Milliseconds2500 = 8
bound_number Seconds5 = 9
bound_number Seconds10 = 10
bound_number None = 11

abbrev pub point_number : Point → ℕ
point_number Reqmod = 0
point_number Respmod = 1

abbrev pub reply_number : Reply → ℕ
reply_number Plain = 0
reply_number Unchanged = 1
reply_number Changed = 2
reply_number Missing = 3

-- two ends without a reason, and then the reasons
abbrev pub why_number : Why → ℕ
why_number Served = 0
why_number UserGone = 1
why_number (Failed reason) = 2 + number_of reason

abbrev pub dealing_number : Dealing → ℕ
dealing_number Opened = 0
dealing_number Reused = 1
dealing_number BegunAnew = 2
dealing_number Idle = 3

-- six numbers, then those of the classes, of the points with four replies each, of the bounds, of the connections to origins, and of the
-- points with the reasons and with the ends
abbrev pub index_of : Count → ℕ
index_of Requests = 0
index_of Retries = 1
index_of Read = 2
index_of Sent = 3
index_of Users = 4
index_of Milliseconds = 5
index_of (Answers class) = 6 + class_number class
index_of (Messages point reply) = 12 + 4 * point_number point + reply_number reply
index_of (Times bound) = 20 + bound_number bound
index_of (Origins dealing) = 32 + dealing_number dealing
index_of (Refusals point reason) = 36 + REASON_COUNT * point_number point + number_of reason
index_of (Failures point why) = 36 + 2 * REASON_COUNT + END_COUNT * point_number point + why_number why

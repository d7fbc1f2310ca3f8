-- Each number that a loop counts has an index of its own: the list of all has it there.
use Rattle.std.proofs.Common.{◌≡◌, ℕ, List, ◌∷◌, ◌++◌, map, get_or, refl, sym, ap, ◌∙◌}
use Rattle.exchange_report.specs.declared.reason.Reason.TheVariants.{BadRequest}
use Rattle.exchange_report.specs.declared.reason.TheConstants.{REASONS}
use Rattle.exchange_report.specs.declared.verdict.Reply.TheVariants.{Plain, Unchanged, Changed, Missing}
use Rattle.exchange_report.specs.declared.why.Why.{Why}
use Rattle.exchange_report.specs.declared.why.Why.TheVariants.{Served, UserGone, Failed}
use Rattle.shard_report.specs.Indexes.{index_of}
use Rattle.shard_report.specs.declared.tally.Bound.TheVariants.{Milliseconds5, Milliseconds10, Milliseconds25, Milliseconds50}
use Rattle.shard_report.specs.declared.tally.Bound.TheVariants.{Milliseconds100, Milliseconds250, Milliseconds500, Seconds1}
use Rattle.shard_report.specs.declared.tally.Bound.TheVariants.{Milliseconds2500, Seconds5, Seconds10, None}
use Rattle.shard_report.specs.declared.tally.Class.TheVariants.{Informational, Successful, Redirection, ClientError, ServerError, Other}
use Rattle.shard_report.specs.declared.tally.Count.{Count}
use Rattle.shard_report.specs.declared.tally.Count.TheVariants.{Requests, Retries, Read, Sent, Users, Milliseconds, Answers, Messages}
use Rattle.shard_report.specs.declared.tally.Count.TheVariants.{Refusals, Failures, Times, Origins}
use Rattle.shard_report.specs.declared.tally.Dealing.TheVariants.{Opened, Reused, BegunAnew, Idle}
use Rattle.trace_core.specs.declared.history.Point.TheVariants.{Reqmod, Respmod}

-- how an exchange may end, in the order of the numbers
abbrev ends : List Why
ends = Served ∷ UserGone ∷ map Failed REASONS

-- all of them, in the order of their indexes
abbrev all : List Count
all = Requests ∷ Retries ∷ Read ∷ Sent ∷ Users ∷ Milliseconds
    ∷ Answers Informational ∷ Answers Successful ∷ Answers Redirection ∷ Answers ClientError ∷ Answers ServerError ∷ Answers Other
    ∷ Messages Reqmod Plain ∷ Messages Reqmod Unchanged ∷ Messages Reqmod Changed ∷ Messages Reqmod Missing
    ∷ Messages Respmod Plain ∷ Messages Respmod Unchanged ∷ Messages Respmod Changed ∷ Messages Respmod Missing
    ∷ Times Milliseconds5 ∷ Times Milliseconds10 ∷ Times Milliseconds25 ∷ Times Milliseconds50 ∷ Times Milliseconds100 ∷ Times
    Milliseconds250
    ∷ Times Milliseconds500 ∷ Times Seconds1 ∷ Times Milliseconds2500 ∷ Times Seconds5 ∷ Times Seconds10 ∷ Times None
    ∷ Origins Opened ∷ Origins Reused ∷ Origins BegunAnew ∷ Origins Idle
    ∷ (map (Refusals Reqmod) REASONS ++ map (Refusals Respmod) REASONS ++ map (Failures Reqmod) ends ++ map (Failures Respmod) ends)

abbrev at : ℕ → Count
at index = get_or all index Requests

-- the list of all counts has each of them at its index
found : (count : Count) → at (index_of count) ≡ count
found Requests = refl
found Retries = refl
found Read = refl
found Sent = refl
found Users = refl
found Milliseconds = refl
found (Answers Informational) = refl
found (Answers Successful) = refl
found (Answers Redirection) = refl
found (Answers ClientError) = refl
found (Answers ServerError) = refl
found (Answers Other) = refl
found (Messages Reqmod Plain) = refl
found (Messages Reqmod Unchanged) = refl
found (Messages Reqmod Changed) = refl
found (Messages Reqmod Missing) = refl
found (Messages Respmod Plain) = refl
found (Messages Respmod Unchanged) = refl
found (Messages Respmod Changed) = refl
found (Messages Respmod Missing) = refl
found (Times Milliseconds5) = refl
found (Times Milliseconds10) = refl
found (Times Milliseconds25) = refl
found (Times Milliseconds50) = refl
found (Times Milliseconds100) = refl
found (Times Milliseconds250) = refl
found (Times Milliseconds500) = refl
found (Times Seconds1) = refl
found (Times Milliseconds2500) = refl
found (Times Seconds5) = refl
found (Times Seconds10) = refl
found (Times None) = refl
found (Origins Opened) = refl
found (Origins Reused) = refl
found (Origins BegunAnew) = refl
found (Origins Idle) = refl
-- the first clause of each has the others checked case by case
found (Refusals Reqmod BadRequest) = refl
found (Refusals Respmod BadRequest) = refl
found (Failures Reqmod (Failed BadRequest)) = refl
found (Failures Respmod (Failed BadRequest)) = refl
found _ = refl

-- counts of the same index are the same
pub one_index : (one other : Count) → index_of one ≡ index_of other → one ≡ other
one_index one other e = sym (found one) ∙ ap at e ∙ found other

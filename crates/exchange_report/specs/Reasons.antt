-- Why the proxy answers itself, or cuts an answer: the one table of reasons.
use Rattle.std.specs.Prelude.{ℕ, List, codes}
use Rattle.exchange_core.specs.Dues as dues
use Rattle.exchange_core.specs.declared.event.RefusalCause.{RefusalCause}
use Rattle.exchange_core.specs.declared.event.RefusalCause.TheVariants.{Faulty, Unserved, Elsewhere, Scarce, Deadline}
use Rattle.exchange_core.specs.declared.event.RefusalCause.TheVariants as causes
use Rattle.exchange_report.specs.declared.reason.Reason.{Reason}
use Rattle.exchange_report.specs.declared.reason.Reason.TheVariants as reasons

-- What the table says of a reason: its number, its word in lines and labels, and the cause that the course of an exchange is told.
pub record Row : Type 0 where
  pub number : ℕ
  pub word : List ℕ
  pub cause : RefusalCause

abbrev pub row : ℕ → List ℕ → RefusalCause → Row
row number word cause = record { number = number; word = word; cause = cause }

abbrev pub row_of : Reason → Row
row_of reasons.BadRequest = row 0 (codes "bad-request") Faulty
row_of reasons.NotServed = row 1 (codes "not-served") Unserved
row_of reasons.RequestBroken = row 2 (codes "request-broken") Faulty
row_of reasons.UnknownHost = row 3 (codes "unknown-host") Elsewhere
row_of reasons.Denied = row 4 (codes "denied") Elsewhere
row_of reasons.OriginRefused = row 5 (codes "origin-refused") Elsewhere
row_of reasons.OriginBroken = row 6 (codes "origin-broken") Elsewhere
row_of reasons.OriginDeadline = row 7 (codes "origin-deadline") Deadline
row_of reasons.ServiceRefused = row 8 (codes "service-refused") Elsewhere
row_of reasons.ServiceStatus = row 9 (codes "service-status") Elsewhere
row_of reasons.ServiceBroken = row 10 (codes "service-broken") Elsewhere
row_of reasons.ServiceDeadline = row 11 (codes "service-deadline") Deadline
row_of reasons.ServicePaused = row 12 (codes "service-paused") Elsewhere
row_of reasons.Busy = row 13 (codes "busy") Scarce
row_of reasons.Full = row 14 (codes "full") Scarce
row_of reasons.NoRow = row 15 (codes "no-row") Scarce
row_of reasons.NoSeat = row 16 (codes "no-seat") Scarce
row_of reasons.NoMemory = row 17 (codes "no-memory") Scarce
row_of reasons.UserDeadline = row 18 (codes "user-deadline") Deadline
row_of reasons.Stopping = row 19 (codes "stopping") causes.Stopping

abbrev pub number_of : Reason → ℕ
number_of reason = (row_of reason).number

abbrev pub reason_word : Reason → List ℕ
reason_word reason = (row_of reason).word

abbrev pub cause_of : Reason → RefusalCause
cause_of reason = (row_of reason).cause

-- a reason has the status of its cause: there is one table of statuses
abbrev pub status_of : Reason → ℕ
status_of reason = dues.status_of (cause_of reason)

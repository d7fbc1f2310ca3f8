-- Why the proxy refuses a request, by the fault that it met.
use Rattle.std.specs.Prelude.{Bool, true, false, Option, Some, None}
use Rattle.exchange_core.specs.Dues as dues
use Rattle.exchange_report.specs.Reasons.{cause_of}
use Rattle.exchange_report.specs.declared.reason.Reason.{Reason}
use Rattle.exchange_report.specs.declared.reason.Reason.TheVariants.{BadRequest, NotServed, OriginBroken, ServiceRefused, ServiceStatus}
use Rattle.exchange_report.specs.declared.reason.Reason.TheVariants.{ServiceBroken, ServicePaused, Busy, Full, NoRow, NoMemory}
use Rattle.adapt_sides.specs.declared.fault.ClientFault.{ClientFault}
use Rattle.adapt_sides.specs.declared.fault.ClientFault.TheVariants as client
use Rattle.adapt_sides.specs.declared.fault.RelayFault.{RelayFault}
use Rattle.adapt_sides.specs.declared.fault.RelayFault.TheVariants as relay
use Rattle.http_side.specs.declared.fault.HttpFault.{HttpFault}
use Rattle.http_side.specs.declared.fault.HttpFault.TheVariants as http
use Rattle.options_book.specs.declared.faults.OptFault.{OptFault}
use Rattle.options_book.specs.declared.faults.OptFault.TheVariants as record_faults
use Rattle.span_bank.specs.declared.step.OpenFault.{OpenFault}
use Rattle.span_bank.specs.declared.step.OpenFault.TheVariants as open_faults
use Rattle.service_pool.specs.declared.connector.LendFault.{LendFault}
use Rattle.service_pool.specs.declared.connector.LendFault.TheVariants as lending
use Rattle.shard_exchange.specs.declared.answers.Unplanned.{Unplanned}
use Rattle.shard_exchange.specs.declared.answers.Unplanned.TheVariants as unplanned

-- a request that is understood but not served, want of memory for it, or any other fault of it
abbrev pub request_reason : HttpFault → Reason
request_reason http.Coding = NotServed
request_reason http.Connect = NotServed
request_reason http.NoMemory = NoMemory
request_reason _ = BadRequest

-- it lies with others, or room, a connection or memory is wanting
abbrev pub lies_elsewhere : Reason → Bool
lies_elsewhere reason = dues.lies_elsewhere (cause_of reason)

-- a user that ends or breaks off before its head is whole gets no answer
abbrev pub user_head_reason : RelayFault → Option HttpFault → Option Reason
user_head_reason relay.Head (Some fault) = Some (request_reason fault)
user_head_reason relay.Head None = Some (request_reason http.Bad)
user_head_reason relay.NoMemory head = Some NoMemory
user_head_reason _ head = None

-- whatever an origin does before its response's head is whole
abbrev pub origin_head_reason : RelayFault → Option HttpFault → Reason
origin_head_reason relay.NoMemory head = NoMemory
origin_head_reason relay.Head (Some http.NoMemory) = NoMemory
origin_head_reason _ head = OriginBroken

-- the wire has ended, or failed: that turn read nothing
abbrev pub is_end_of_wire : RelayFault → Bool
is_end_of_wire relay.Closed = true
is_end_of_wire relay.Device = true
is_end_of_wire _ = false

abbrev pub options_reason : ClientFault → Reason
options_reason client.NoMemory = NoMemory
options_reason client.Status = ServiceStatus
options_reason _ = ServiceBroken

abbrev pub record_reason : OptFault → Reason
record_reason record_faults.NoMemory = NoMemory
record_reason _ = ServiceStatus

abbrev pub open_reason : OpenFault → Reason
open_reason (open_faults.Full claimed) = Full
open_reason open_faults.NoRow = NoRow

-- where no connection to the service can be lent
abbrev pub lend_reason : LendFault → Reason
lend_reason lending.Busy = Busy
lend_reason lending.Unreached = ServiceRefused
lend_reason lending.NoMemory = NoMemory
lend_reason lending.Paused = ServicePaused

-- where a message has no plan though its service was asked
abbrev pub unplanned_reason : Unplanned → Reason
unplanned_reason unplanned.Stale = ServiceRefused
unplanned_reason (unplanned.Refused reason) = reason

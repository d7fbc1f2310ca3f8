-- The faults by their numbers.
use Rattle.std.specs.Prelude.{ℕ}
use Rattle.icap_server.specs.declared.fault.ServerFault.{ServerFault}
use Rattle.icap_server.specs.declared.fault.ServerFault.TheVariants as Closing
use Rattle.icap_server.specs.declared.fault.ServeFault.{ServeFault}
use Rattle.icap_server.specs.declared.fault.ServeFault.TheVariants as Ending

-- why a side gives no answer
abbrev pub server_fault_number : ServerFault → ℕ
server_fault_number Closing.Closed = 1
server_fault_number Closing.NoMemory = 2

-- why serving a connection ended early
abbrev pub serve_fault_number : ServeFault → ℕ
serve_fault_number Ending.Read = 1
serve_fault_number Ending.Write = 2
serve_fault_number Ending.NoMemory = 3

-- The faults of a side by number and name.
use Rattle.std.specs.Prelude.{ℕ, List, codes}
use Rattle.adapt_sides.specs.declared.fault.ClientFault.{ClientFault}
use Rattle.adapt_sides.specs.declared.fault.ClientFault.TheVariants as client
use Rattle.adapt_sides.specs.declared.fault.RelayFault.{RelayFault}
use Rattle.adapt_sides.specs.declared.fault.RelayFault.TheVariants as relay

-- of the service's side
abbrev pub client_fault_number : ClientFault → ℕ
client_fault_number client.Head = 1
client_fault_number client.Layout = 2
client_fault_number client.Chunk = 3
client_fault_number client.NotLegal = 4
client_fault_number client.Status = 5
client_fault_number client.Closed = 6
client_fault_number client.Device = 7
client_fault_number client.NoMemory = 8

abbrev pub client_fault_name : ClientFault → List ℕ
client_fault_name client.Head = codes "Head"
client_fault_name client.Layout = codes "Layout"
client_fault_name client.Chunk = codes "Chunk"
client_fault_name client.NotLegal = codes "NotLegal"
client_fault_name client.Status = codes "Status"
client_fault_name client.Closed = codes "Closed"
client_fault_name client.Device = codes "Device"
client_fault_name client.NoMemory = codes "NoMemory"

-- of a side that speaks HTTP
abbrev pub relay_fault_number : RelayFault → ℕ
relay_fault_number relay.Head = 1
relay_fault_number relay.Chunk = 2
relay_fault_number relay.Closed = 3
relay_fault_number relay.Device = 4
relay_fault_number relay.Length = 5
relay_fault_number relay.NoMemory = 6

abbrev pub relay_fault_name : RelayFault → List ℕ
relay_fault_name relay.Head = codes "Head"
relay_fault_name relay.Chunk = codes "Chunk"
relay_fault_name relay.Closed = codes "Closed"
relay_fault_name relay.Device = codes "Device"
relay_fault_name relay.Length = codes "Length"
relay_fault_name relay.NoMemory = codes "NoMemory"

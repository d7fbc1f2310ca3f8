-- What dialling at the first write comes to.
use Rattle.std.specs.Prelude.{Option, None, Some}
use Rattle.wire_kit.specs.declared.wire.Put.{Put}
use Rattle.wire_kit.specs.declared.wire.Put.TheVariants.{Fault}
use Rattle.socket_wire.specs.declared.socket.Dialled.{Dialled}
use Rattle.socket_wire.specs.declared.socket.Dialled.TheVariants.{Failed}

-- a fault where the system refused
abbrev pub fault_of : Dialled → Option Put
fault_of Failed = Some Fault
fault_of _ = None

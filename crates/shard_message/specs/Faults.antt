-- What is at fault in a message's head.
use Rattle.std.specs.Prelude.{Option, Some, None, Box}
use Rattle.std.specs.declared.alloc.Global.{Global}
use Rattle.http_side.specs.declared.fault.HttpFault.{HttpFault}
use Rattle.proxy_rules.specs.Arrivals.{Arrival}

-- what was found at fault in it; nothing where there is no message
abbrev pub head_fault_of : Option (Box Arrival Global) → Option HttpFault
head_fault_of None = None
head_fault_of (Some message) = message.value.side.head_fault

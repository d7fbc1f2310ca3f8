-- What the end of a message says of its service to the breaker.
use Rattle.std.specs.Prelude.{Bool, false}
use Rattle.exchange_report.specs.declared.reason.Reason.{Reason}
use Rattle.exchange_report.specs.declared.reason.Reason.TheVariants.{ServiceRefused, ServiceStatus, ServiceBroken, ServiceDeadline}
use Rattle.service_pool.specs.declared.breaker.ServiceEnd.{ServiceEnd}
use Rattle.service_pool.specs.declared.breaker.ServiceEnd.TheVariants.{Answered, Failed, Untold}

-- refused, broken or late; one that answers with a status that isn't taken has answered
abbrev pub end_for : Reason → ServiceEnd
end_for ServiceRefused = Failed
end_for ServiceBroken = Failed
end_for ServiceDeadline = Failed
end_for ServiceStatus = Answered
end_for reason = Untold

-- a message that is refused before it moves: where it is late and has no connection, it waited for others
abbrev pub refusal_end : Reason → (is_leased : Bool) → ServiceEnd
refusal_end ServiceDeadline false = Untold
refusal_end reason is_leased = end_for reason

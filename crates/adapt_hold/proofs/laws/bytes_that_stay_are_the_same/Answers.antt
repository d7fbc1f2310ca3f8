-- A byte on a tape that an event doesn't drop is the same after the event as before it.
use Rattle.adapt_hold.specs.Holding.{shows_then, original_in, adapted_in}
use Rattle.trace_core.specs.Held.{original_from, adapted_from}
use Rattle.adapt_hold.proofs.Tied.{original_low, adapted_low, byte_stays}
use Rattle.adapt_hold.proofs.laws.bytes_that_stay_are_the_same.Goals as goal

pub returns-clause-original : goal.returns-clause-original
returns-clause-original c = λ h event bytes place t m low high.
    byte_stays h.original (original_in event bytes) (original_from (shows_then h.history event)) place (original_low h event t m) low high

pub returns-clause-adapted : goal.returns-clause-adapted
returns-clause-adapted c = λ h event bytes place t m low high.
    byte_stays h.adapted (adapted_in event bytes) (adapted_from (shows_then h.history event)) place (adapted_low h event t m) low high

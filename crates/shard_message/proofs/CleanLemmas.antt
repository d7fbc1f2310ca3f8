-- Where an answer begins.
use Rattle.std.proofs.Common.{ℕ, List, [], true, false, Option, Some, None}
use Rattle.std.specs.Prelude.{Box}
use Rattle.std.specs.declared.alloc.Global.{Global}
use Rattle.wire_kit.specs.declared.wire.Wire.{Ghosts as Wire}
use Rattle.proxy_rules.specs.Arrivals.{Arrival, HasCome}
use Rattle.proxy_rules.specs.Grown.{Grown}
use Rattle.shard_exchange.specs.declared.ends.End.{End}
use Rattle.shard_exchange.specs.declared.ends.End.TheVariants as ends
use Rattle.shard_message.specs.Ended.{IsNextBy}
use Rattle.shard_message.specs.Outset.{BeginsClean}

-- a request that is out: its origin's connection gave nothing, and the message that comes next is the response before its first byte
pub clean_next : {O : Type 0} (o : Wire O) (dialed origin : O) (response next again : Arrival → Type 0) (end : End)
    (message : Option (Box Arrival Global))
    → ((m : Arrival) → response m → HasCome [] m.side × ((taken : List ℕ) × Grown (o.past dialed) (o.past origin) [] taken))
    → IsNextBy response next again end message → BeginsClean o end dialed (Some origin) message
clean_next o dialed origin response next again (ends.Sent true) (Some message) clean is = clean message.value is
clean_next o dialed origin response next again (ends.Sent true) None clean is = absurd is
clean_next o dialed origin response next again (ends.Sent false) message clean is = tt
clean_next o dialed origin response next again (ends.Answered keeps lasts) message clean is = tt
clean_next o dialed origin response next again (ends.Withdrawn has_memory) message clean is = tt
clean_next o dialed origin response next again (ends.Failed why) message clean is = tt
clean_next o dialed origin response next again ends.Stopped message clean is = tt
clean_next o dialed origin response next again ends.Lost message clean is = tt

-- How a message ends.
use Rattle.std.specs.Prelude.{◌≡◌, Bool, true, false, ◌||◌, if◌then◌else◌, Option, Some, None, ⊤}
use Rattle.exchange_core.specs.declared.event.RefusalCause.TheVariants as causes
use Rattle.shard_exchange.specs.declared.ends.End.{End}
use Rattle.shard_exchange.specs.declared.ends.End.TheVariants as ends
use Rattle.shard_exchange.specs.declared.ends.EndedBy.{EndedBy}
use Rattle.shard_exchange.specs.declared.ends.EndedBy.TheVariants as ended

-- how a message ends that is ended by this
abbrev pub EndsBy : EndedBy → End → Type 0
EndsBy ended.Deadline end = end ≡ ends.Failed causes.Deadline
EndsBy ended.Stop end = end ≡ ends.Stopped
EndsBy ended.User end = end ≡ ends.Lost
EndsBy _ end = ⊤

-- where nothing else ends it
abbrev pub IfItself : EndedBy → Type 0 → Type 0
IfItself ended.Itself told = told
IfItself ended.Gate told = told
IfItself _ told = ⊤

-- the ends that a message may have that is ended by this: by itself it ends as its transaction did
abbrev pub MayEnd : EndedBy → (itself : End → Type 0) → End → Type 0
MayEnd by itself end = EndsBy by end × IfItself by (itself end)

-- all of the message went on
abbrev pub is_good : End → Bool
is_good (ends.Sent has_memory) = true
is_good (ends.Answered keeps lasts) = true
is_good _ = false

-- What is told of the service's connection with this end: with a good one the service has said all, and the connection may serve again
-- exactly where its exchange was whole; else so much is known only where it was.
abbrev pub served_as : (reusable : Bool) → End → Option Bool
served_as reusable end = if is_good end || reusable then Some reusable else None

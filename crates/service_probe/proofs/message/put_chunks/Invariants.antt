-- The text so far, and the chunks that are still to come of the body's rest, make the whole text.
use Rattle.std.proofs.Common.{◌≡◌, ◌++◌, ◌-◌}
use Rattle.service_probe.specs.Messages.{chunks_of}
use Rattle.service_probe.proofs.message.put_chunks.Given as goal

abbrev pub invariant-loop-chunk : goal.invariant-loop-chunk
invariant-loop-chunk l = l.text.items ++ chunks_of (l.count - l._chunk) l.rest ≡ l.initial.text.items ++ chunks_of l.count l.body

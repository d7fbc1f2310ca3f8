-- The bytes so far are read, with some part of the body in them, and the body goes on.
use Rattle.std.proofs.Common.{◌≡◌, ◌≤◌, ◌-◌, ℕ, List, None, length}
use Rattle.icap_chunks.specs.Machine.{end_of, fault_of}
use Rattle.icap_client.specs.Hearing.{ReadsOn}
use Rattle.icap_client.proofs.options.skip_body.Given as goal

abbrev pub invariant-loop-used : goal.invariant-loop-used
invariant-loop-used l = record {
  within : l.used ≤ length l.raw;
  part : List ℕ;
  reads : ReadsOn l.initial.chunks l.raw l.used part l.chunks;
  going_on : end_of l.chunks ≡ None;
  sound : fault_of l.chunks ≡ None;
}

abbrev pub decreases-loop-used : goal.decreases-loop-used
decreases-loop-used l = length l.raw - l.used

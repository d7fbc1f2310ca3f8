-- What is written, and the place in the head, are those of the bytes so far.
use Rattle.std.proofs.Common.{◌≡◌, take}
use Rattle.icap_head.specs.declared.folds.HeadPlace.TheVariants.{StartLine}
use Rattle.icap_head.specs.Folds.{place_behind, all_added}
use Rattle.icap_head.proofs.folds.unfolded.Given as goal

abbrev pub invariant-loop-byte : goal.invariant-loop-byte
invariant-loop-byte l = (l.out.items ≡ all_added StartLine (take l.byte-index l.seen))
    × (l.place ≡ place_behind StartLine (take l.byte-index l.seen))

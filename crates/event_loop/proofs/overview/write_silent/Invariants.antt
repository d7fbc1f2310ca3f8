-- What is written, with a line for each silent thread still to come, is the text before and all such lines.
use Rattle.std.proofs.Common.{◌≡◌, ◌++◌, drop}
use Rattle.event_loop.specs.Overview.{silent_text}
use Rattle.event_loop.proofs.overview.write_silent.Given as goal

abbrev pub invariant-loop-thread : goal.invariant-loop-thread
invariant-loop-thread l = l.out.items ++ silent_text l.thread (drop l.thread l.sheets) ≡ l.initial.out.items ++ silent_text 0 l.sheets

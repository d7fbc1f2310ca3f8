-- A sort that compares two standstills puts the longest one first, and leaves those of one standstill as they stood.
use Rattle.std.proofs.Common.{rules}
use Rattle.std.proofs.lemmas.List.Sorted.{answers_always, IsStrictWeakOrder-flip, IsStrictWeakOrder-by_number}
use Rattle.event_loop.specs.Overview.{comes_first}
use Rattle.event_loop.specs.declared.overview.Line.{Line}
use Rattle.event_loop.proofs.overview.longest_first.Goals as goal

pub returns : goal.returns
returns c =
    let orders = IsStrictWeakOrder-flip _ (IsStrictWeakOrder-by_number (λ (line : Line). line.still)) in
    let compares = answers_always _ _ _ (λ f a r g h. search rules) in
    record {
      same = c.sort_by.ensures.permutation;
      falling = c.in_ok-sort_by.ensures.sorted comes_first orders compares;
      ties = c.sort_by.ensures.stable comes_first orders compares;
    }

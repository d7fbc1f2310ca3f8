-- A path whose last segment has no dot has no extension.
use Rattle.std.proofs.Common.{ℕ, List, IfNone, None, Some}
use Rattle.adapt_bytes.specs.Text.{Lacks}
use Rattle.options_book.specs.Extension.{IsExtension}
use Rattle.options_book.proofs.LastCuts.{no_extension}
use Rattle.options_book.proofs.path.extension.Goals as goal

pub returns-clause-none : goal.returns-clause-none
returns-clause-none c =
    elim c.behind_last.result as (λ r. IfNone r (Lacks 46 c.last_segment.result.now)
    → IfNone r ((found : List ℕ) → IsExtension c.args.path.now found → ⊥)) [
      | None ↦ λ lacks. no_extension c.args.path.now c.last_segment.result.now c.last_segment.ensures lacks
      | Some x ↦ λ lacks. tt
    ] c.behind_last.ensures.none

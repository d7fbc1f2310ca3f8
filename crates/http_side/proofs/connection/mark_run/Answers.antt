-- Beside the old marks the places of the first names that are the item are marked: up to another name, or all.
use Rattle.std.proofs.Common.{◌≡◌, ◌||◌, false, take, sym, ap, ◌∙◌, arith}
use Rattle.std.specs.Prelude.{slice_index_or}
use Rattle.std.proofs.lemmas.List.{take_all}
use Rattle.http_side.specs.Names.{has_place}
use Rattle.http_side.proofs.NameLemmas.{run_all, run_is}
use Rattle.http_side.proofs.connection.mark_run.Goals as goal

pub returns-then-not-same_ascii-clause-each : goal.returns-then-not-same_ascii-clause-each
returns-then-not-same_ascii-clause-each c i l =
    let run = run_is c.args.names.now c.args.item.now c.loop-placed.placed-index _ (omega arith) c.loop-placed.invariant.same
    (λ _. sym c.same_ascii.ensures ∙ c.if-not-same_ascii.true) in
    c.loop-placed.invariant.each i l ∙ ap (λ ns. slice_index_or c.args.named.now i false || has_place i ns) (sym run)

pub returns-clause-each : goal.returns-clause-each
returns-clause-each c i l =
    let names = c.args.names.now in
    let all : take c.loop-placed.placed-index names ≡ names = take_all c.loop-placed.placed-index names (omega arith) in
    let run = run_all names c.args.item.now (λ j e m. c.loop-placed.invariant.same j e (omega arith)) in
    c.loop-placed.invariant.each i l ∙ ap (λ ns. slice_index_or c.args.named.now i false || has_place i ns) (all ∙ sym run)

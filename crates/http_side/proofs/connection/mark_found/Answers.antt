-- If the first of the names from the item on is marked, so is each field that the item names.
use Rattle.std.proofs.Common.{◌≡◌, true, false, subst, arith, rules}
use Rattle.std.specs.Prelude.{slice_index_or}
use Rattle.http_side.proofs.NameLemmas.{front_marked}
use Rattle.http_side.proofs.connection.mark_found.Goals as goal

pub returns-else-not-named-from-clause-marked : goal.returns-else-not-named-from-clause-marked
returns-else-not-named-from-clause-marked c =
    let fields = c.args.fields.now in
    let marked : slice_index_or c.args.named.now c.from.result false ≡ true = search rules in
    front_marked fields c.args.named.now c.names_from-behind.result.now c.args.item.now _ c.requires.alike
    (c.names_from-behind.ensures.within fields c.requires.placed)
    (c.names_from-behind.ensures.front fields c.requires.placed) (omega arith)
    (subst (λ p. slice_index_or c.args.named.now p false ≡ true) c.from.ensures marked)

-- A sort only moves the names, each with its place, and puts them in their order.
use Rattle.std.proofs.Common.{◌≡◌, rules, of_calls, length, sym, ap, ◌∙◌, subst}
use Rattle.std.specs.List.Sorted.{IsPermutation}
use Rattle.std.specs.Str.{str_to_ascii_lowercase}
use Rattle.std.proofs.lemmas.Cmp.{nat_list_cmp_total}
use Rattle.std.proofs.lemmas.List.Sorted.{ranks_by, answers_always}
use Rattle.http_side.specs.Names.{ArePlaced}
use Rattle.http_side.specs.declared.names.PlacedName.{PlacedName}
use Rattle.http_side.proofs.NameLemmas.{have_sorted, refilled}
use Rattle.http_side.proofs.names.sorted_names.Goals as goal

pub returns : goal.returns
returns c =
    let fields = c.args.fields.now in
    let names = c.placed_names-names.result in
    let after = c.sort_unstable_by.new.self in
    let moved : IsPermutation names.items after = subst (λ xs. IsPermutation xs after) c.deref_mut.ensures.value
    c.sort_unstable_by.ensures.permutation in
    let order = ranks_by nat_list_cmp_total (λ (n : PlacedName). str_to_ascii_lowercase n.name.now) in
    let same : length after ≡ length names.items = c.sort_unstable_by.ensures.len ∙ ap length c.deref_mut.ensures.value in
    subst (ArePlaced fields) (sym (refilled names.items after same)) (record {
      have = have_sorted fields names.items after moved c.placed_names-names.ensures;
      sorted = c.sort_unstable_by.ensures.sorted _ order (answers_always _ _ _ (λ f a r f' k. search (rules, of_calls)));
    })

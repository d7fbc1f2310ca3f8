-- After the lesser names those that are equal come first, with the places of just the fields so named.
use Rattle.std.proofs.Common.{◌≡◌, ◌-◌, length, take, drop, rules, of_calls, arith}
use Rattle.std.specs.Ordering.{is_lt}
use Rattle.std.specs.List.{prefix_len}
use Rattle.std.proofs.lemmas.List.Sums.{prefix_len-le-length}
use Rattle.std.proofs.lemmas.List.{length-drop, take_all}
use Rattle.std.proofs.lemmas.Fn.{always_returns_same}
use Rattle.std.specs.Str.{str_eq_ignore_ascii_case}
use Rattle.http_side.specs.Names.{name_order}
use Rattle.http_side.specs.declared.names.PlacedName.{PlacedName}
use Rattle.http_side.proofs.NameLemmas.{front_parts, parted_less, parted_same, run_has}
use Rattle.http_side.proofs.names.names_from.Goals as goal

pub returns-clause-front : goal.returns-clause-front
returns-clause-front c fields placed =
    let names = c.args.names.now in
    let name = c.args.name.now in
    let from = c.partition_point-from.result in
    let behind = take (length names - from) (drop from names) in
    let is : behind ≡ drop from names = take_all (length names - from) (drop from names) (omega (arith, length-drop from names)) in
    let less = c.partition_point-from.ensures.partitioned (λ n. is_lt (name_order n.name.now name))
    (always_returns_same _ _ _ (λ a r f k. search (rules, of_calls)))
    (parted_less fields names name placed) in
    let test = λ (n : PlacedName). str_eq_ignore_ascii_case name n.name.now in
    run_has fields names name placed from behind is less (prefix_len test behind) (prefix_len-le-length test behind)
    (front_parts test behind (parted_same fields names name placed from behind is less))

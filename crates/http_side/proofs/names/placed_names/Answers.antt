-- With one more each name is still that of the field at its place, and each place up to this one is there.
use Rattle.std.proofs.Common.{◌≡◌, ℕ, ◌<◌, ◌+◌, length, All, sym, refl, subst, arith}
use Rattle.std.specs.List.{Contains}
use Rattle.std.proofs.lemmas.List.Elements.{All-push}
use Rattle.adapt_bytes.specs.Fields.{name_at}
use Rattle.http_side.specs.declared.names.PlacedName.{PlacedName}
use Rattle.http_side.proofs.NameLemmas.{all_more}
use Rattle.http_side.proofs.names.placed_names.Goals as goal

pub loop-at-preserved : goal.loop-at-preserved
loop-at-preserved c =
    let fields = c.args.fields.now in
    let names = c.loop-at.names.items in
    let at = c.loop-at.at in
    let n : PlacedName = record { name = c.name.result; place = at } in
    let P : PlacedName → Type 0 = λ m. (m.place < length fields) × (m.name.now ≡ name_at fields m.place) in
    record {
      few = omega arith;
      places = subst (All P) (sym c.push.ensures.items) (All-push P names n c.loop-at.invariant.places (omega arith, c.name.ensures));
      all = subst (λ xs. (i : ℕ) → i < at + 1 → (m : PlacedName) × Contains xs m × (m.place ≡ i)) (sym c.push.ensures.items)
          (all_more names at n c.loop-at.invariant.all refl);
    }

-- Each name is that of the field at its place, and the place of each field so far is there.
use Rattle.std.proofs.Common.{◌≡◌, ℕ, ◌<◌, ◌≤◌, length, All}
use Rattle.std.specs.List.{Contains}
use Rattle.adapt_bytes.specs.Fields.{name_at}
use Rattle.arrayvec.specs.ArrayVec.{array_vec_len}
use Rattle.http_side.specs.declared.names.PlacedName.{PlacedName}
use Rattle.http_side.proofs.names.placed_names.Given as goal

abbrev pub invariant-loop-at : goal.invariant-loop-at
invariant-loop-at l = record {
  few : array_vec_len l.names ≤ l.at;
  places : All (λ n. (n.place < length l.fields) × (n.name.now ≡ name_at l.fields n.place)) l.names.items;
  all : (i : ℕ) → i < l.at → (n : PlacedName) × Contains l.names.items n × (n.place ≡ i);
}

-- The fields before this one are also marked where the item names them; the others are as they were.
use Rattle.std.proofs.Common.{◌≡◌, ℕ, ◌<◌, ◌≤◌, false, ◌||◌, length}
use Rattle.std.specs.Prelude.{slice_index_or}
use Rattle.std.specs.Str.{str_eq_ignore_ascii_case}
use Rattle.adapt_bytes.specs.Fields.{name_at}
use Rattle.http_side.proofs.connection.mark_item.Given as goal

abbrev pub invariant-loop-at : goal.invariant-loop-at
invariant-loop-at l = record {
  size : length l.named ≡ length l.initial.named;
  done : (i : ℕ) → i < l.at → slice_index_or l.named i false ≡ (slice_index_or l.initial.named i false || str_eq_ignore_ascii_case l.item
      (name_at l.fields i));
  left : (i : ℕ) → l.at ≤ i → slice_index_or l.named i false ≡ slice_index_or l.initial.named i false;
}

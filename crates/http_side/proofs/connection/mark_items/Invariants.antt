-- The marks so far and the items left mark what the old marks and the value do.
use Rattle.std.proofs.Common.{◌≡◌, ℕ, ◌<◌, false, ◌||◌, length}
use Rattle.std.specs.Prelude.{slice_index_or}
use Rattle.std.specs.List.{list_any}
use Rattle.std.specs.Str.{str_eq_ignore_ascii_case}
use Rattle.adapt_bytes.specs.Text.{items_left, has_item}
use Rattle.adapt_bytes.specs.Fields.{name_at}
use Rattle.http_side.proofs.connection.mark_items.Given as goal

abbrev pub invariant-loop-item : goal.invariant-loop-item
invariant-loop-item l = record {
  can : (goal.iterator-loop-item).can_next l.item-iterator;
  ends : (goal.iterator-loop-item).is_finite l.item-iterator;
  size : length l.named ≡ length l.initial.named;
  rest : (i : ℕ) → i < length l.fields → i < length l.initial.named
      → (slice_index_or l.initial.named i false || has_item (name_at l.fields i) l.value)
      ≡ (slice_index_or l.named i false || list_any (λ item. str_eq_ignore_ascii_case item (name_at l.fields i))
      (items_left l.item-iterator));
}

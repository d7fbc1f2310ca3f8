-- All names so far are the item, and the fields at their places are marked beside those before.
use Rattle.std.proofs.Common.{◌≡◌, ℕ, ◌<◌, true, false, ◌||◌, length, take}
use Rattle.std.specs.Prelude.{slice_index_or}
use Rattle.std.specs.Str.{str_eq_ignore_ascii_case}
use Rattle.http_side.specs.Names.{has_place}
use Rattle.http_side.specs.declared.names.PlacedName.{PlacedName}
use Rattle.http_side.proofs.connection.mark_run.Given as goal

abbrev pub invariant-loop-placed : goal.invariant-loop-placed
invariant-loop-placed l = record {
  size : length l.named ≡ length l.initial.named;
  same : (k : ℕ) (d : PlacedName) → k < l.placed-index → str_eq_ignore_ascii_case l.item (slice_index_or l.names k d).name.now ≡ true;
  each : (i : ℕ) → i < length l.initial.named
      → slice_index_or l.named i false ≡ (slice_index_or l.initial.named i false || has_place i (take l.placed-index l.names));
}

-- Just the fields that the Connection fields so far name are marked; those of one name are marked alike.
use Rattle.std.proofs.Common.{◌≡◌, ℕ, ◌<◌, false, length, take}
use Rattle.std.specs.Prelude.{slice_index_or}
use Rattle.adapt_bytes.specs.Fields.{name_at}
use Rattle.http_side.specs.Forward.{is_named_by}
use Rattle.http_side.specs.Names.{AreAlike}
use Rattle.http_side.proofs.connection.searched_fields.Given as goal

abbrev pub invariant-loop-at : goal.invariant-loop-at
invariant-loop-at l = record {
  size : length l.named ≡ 100;
  each : (i : ℕ) → i < length l.fields → i < length l.named
      → slice_index_or l.named i false ≡ is_named_by (take l.at l.fields) (name_at l.fields i);
  alike : AreAlike l.fields l.named;
}

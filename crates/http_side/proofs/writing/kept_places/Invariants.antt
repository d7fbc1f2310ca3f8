-- The places are those of the fields so far that go on, and it is known whether a Content-Length is among them.
use Rattle.std.proofs.Common.{◌≡◌, ◌<◌, ◌≤◌, take, false, map, length, All}
use Rattle.std.specs.List.{list_any, filter}
use Rattle.adapt_bytes.specs.Fields.{field_at}
use Rattle.arrayvec.specs.ArrayVec.{array_vec_len}
use Rattle.http_side.specs.Forward.{stays, is_length, once}
use Rattle.http_side.proofs.writing.kept_places.Given as goal

abbrev pub invariant-loop-at : goal.invariant-loop-at
invariant-loop-at l = record {
  seen : l.seen ≡ list_any is_length (filter (stays l.beside l.fields) (take l.at l.fields));
  few : array_vec_len l.places ≤ l.at;
  within : All (λ at. at < length l.fields) l.places.items;
  kept : map (field_at l.fields) l.places.items ≡ once false (filter (stays l.beside l.fields) (take l.at l.fields));
}

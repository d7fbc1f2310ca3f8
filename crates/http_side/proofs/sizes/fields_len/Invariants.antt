-- The length so far is that of the lines at the places so far, up to the largest number of 64 bits.
use Rattle.std.proofs.Common.{◌≡◌, take}
use Rattle.std.specs.Prelude.{option_copied}
use Rattle.http_side.specs.Forward.{field_lines, sent_fields, size_of}
use Rattle.http_side.proofs.sizes.fields_len.Given as goal

abbrev pub invariant-loop-place : goal.invariant-loop-place
invariant-loop-place l = l.len ≡ size_of (field_lines (sent_fields l.fields (take l.place-index l.places) (option_copied l.authority)))

-- Where the offsets of a layout rise from 0, its parts stand in a row.
use Rattle.std.proofs.Common.{ℕ, Option, Some, None}
use Rattle.encapsulated.specs.declared.parts.BodyPart.{BodyPart}
use Rattle.encapsulated.specs.Layouts.{Rises, offsets, parts_of}
use Rattle.encapsulated.specs.Laws.{StandsInARow}
use Rattle.encapsulated.proofs.laws.stands_in_a_row.Goals as goal

-- the parts of a layout whose offsets rise from 0 stand in a row
in_a_row : (q r : Option ℕ) (b : BodyPart) (o : ℕ) → Rises (offsets (parts_of (record { req_hdr = q; res_hdr = r; body = b; offset = o })))
    → StandsInARow (record { req_hdr = q; res_hdr = r; body = b; offset = o })
in_a_row None None b o h = record { req_hdr = tt; res_hdr = tt; res_first = tt; body_first = h.0 }
in_a_row None (Some r) b o h = record { req_hdr = tt; res_hdr = h.1.0; res_first = h.0; body_first = tt }
in_a_row (Some q) None b o h = record { req_hdr = h.0; res_hdr = tt; res_first = tt; body_first = tt }
in_a_row (Some q) (Some r) b o h = record { req_hdr = h.0; res_hdr = h.1.1.0; res_first = tt; body_first = tt }

pub returns : goal.returns
returns c = λ method direction layout may. in_a_row layout.req_hdr layout.res_hdr layout.body layout.offset may.rises

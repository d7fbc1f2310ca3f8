-- Where the list finds no memory, at most 100 fields and an empty line stand after the start.
use Rattle.std.proofs.Common.{inl, refl, arith}
use Rattle.icap_head.proofs.FieldFaults.{counted_fields}
use Rattle.icap_head.proofs.field_lines.read_within.Goals as goal

pub returns-in-Err-of_lines-clause-err : goal.returns-in-Err-of_lines-clause-err
returns-in-Err-of_lines-clause-err c =
    inl (
      refl,
      counted_fields c.args.seen.now c.args.start c.parse_headers_from.new.headers c.in-Ok-Complete.len c.in-Ok-Complete.count
          (omega (arith, c.parse_headers_from.auto.headers, c.requires.few))
          (rw c.in-Ok-Complete.field-0-is at c.in-Ok-Complete.ensures.complete),
    )

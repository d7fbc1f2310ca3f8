-- Where the record finds no memory, the response is good and says what the record would hold.
use Rattle.std.proofs.Common.{inr, refl}
use Rattle.icap_head.specs.Heads.{response_parts}
use Rattle.options_book.specs.Verified.{judged_options}
use Rattle.options_book.proofs.reading.find_record.Goals as goal

pub returns-in-Err-record-clause-only : goal.returns-in-Err-record-clause-only
returns-in-Err-record-clause-only c =
    let good = c.in-Ok.ensures.ok in
    inr (
      refl,
      (
        judged_options c.in-Ok.judged.tag.now c.in-Ok.judged.numbers (response_parts c.args.response.now).fields c.args.now,
        record {
          success = good.success;
          method = good.method;
          tag = good.tag_is;
          numbers = good.numbers_are;
          encapsulated = good.encapsulated;
          lists = refl;
          read_at = refl;
        },
      ),
    )

-- One more digit goes on the value so far; where that fails, the bytes write no number below 2 to the 64.
use Rattle.std.proofs.Common.{arith, sym, ◌∙◌}
use Rattle.std.proofs.lemmas.Int.Digits.{digits_value_more, digits_more}
use Rattle.adapt_bytes.proofs.Numerals.{refuses}
use Rattle.adapt_bytes.proofs.digits.read_digits.Goals as goal

pub returns-in_err-value-clause-none : goal.returns-in_err-value-clause-none
returns-in_err-value-clause-none c = rw c.from_residual.ensures (λ n small w.
    refuses c.args.base c.args.bytes.now c.loop-byte.byte-index c.loop-byte.value n (omega arith) c.loop-byte-test.true
    c.loop-byte.invariant.value c.in_err-value.ensures small w)

pub loop-byte-preserved : goal.loop-byte-preserved
loop-byte-preserved c =
    let more = digits_value_more c.args.base c.args.bytes.now c.loop-byte.byte-index c.loop-byte-test.true in
    let is = c.loop-byte.invariant.value in
    record {
      digits = digits_more c.args.base c.args.bytes.now c.loop-byte.byte-index c.loop-byte-test.true c.loop-byte.invariant.digits
          c.in_ok-value.ensures.0.0;
      value = c.in_ok-value.ensures.1 ∙ rw is (sym more);
    }

-- A text of the form of a version, with a first digit, is a version just if its last byte is a digit too.
use Rattle.std.proofs.Common.{rules, ap, ◌∙◌, get_or, arith}
use Rattle.std.specs.Char.{is_ascii_digit}
use Rattle.icap_head.proofs.Words.{version_from}
use Rattle.icap_head.proofs.start_lines.is_version.Goals as goal

pub returns-then-is_ascii_digit : goal.returns-then-is_ascii_digit
returns-then-is_ascii_digit c = (
  λ yes. record {
    major = get_or c.args.text.now 5 0;
    minor = get_or c.args.text.now 7 0;
    text_is = version_from c.args.text.now (omega arith) (search rules) (search rules) (search rules) (search rules) (search rules)
        (search rules);
    major_digit = search rules;
    minor_digit = search rules;
  },
  λ v. c.is_ascii_digit-then-is_ascii_digit.ensures.value ∙ ap (λ t. is_ascii_digit (get_or t 7 0)) v.text_is ∙ v.minor_digit,
)

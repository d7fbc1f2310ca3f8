-- A field is writable just if its name is a token and its value has value bytes only, with no blank at its ends.
use Rattle.std.proofs.Common.{sym, ◌∙◌, refl}
use Rattle.icap_head.proofs.Lacking.{false_true}
use Rattle.icap_head.proofs.Trimmed.{name_token, token_name, trimmed_is, is_trimmed, compared}
use Rattle.icap_head.proofs.field_lines.is_writable.Goals as goal

pub returns-then-not-is_token : goal.returns-then-not-is_token
returns-then-not-is_token c = (λ no_case. absurd (false_true no_case), λ h. c.if-not-is_token.ensures.1 (name_token c.args.name.now h.name))

pub returns-then-not-are_value_bytes : goal.returns-then-not-are_value_bytes
returns-then-not-are_value_bytes c = (λ no_case. absurd (false_true no_case), λ h. c.if-not-are_value_bytes.ensures.1 h.value)

pub returns : goal.returns
returns c =
    let name = c.args.name.now in
    let value = c.args.value.now in
    let same = compared c.trim.result.now value c.eq.result c.eq.ensures in (
      λ is.
          let both = is_trimmed value (sym c.trim.ensures ∙ same.0 is) in
          record {
            name = token_name name (c.if-not-is_token.ensures.0 refl);
            value = c.if-not-are_value_bytes.ensures.0 refl;
            front = both.0;
            back = both.1;
          },
      λ h. same.1 (c.trim.ensures ∙ trimmed_is value h.front h.back),
    )

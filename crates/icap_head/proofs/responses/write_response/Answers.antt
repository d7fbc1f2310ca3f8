-- What is written is the response's text, and is a head of the same response.
use Rattle.std.proofs.Common.{◌≡◌, [], ◌∷◌, ◌++◌, subst, sym, rules, ◌∙◌, codes}
use Rattle.icap_head.specs.Fields.{field_list}
use Rattle.icap_head.specs.Heads.{IsResponseHead, response_parts}
use Rattle.adapt_bytes.specs.Numeral.{three_digits}
use Rattle.icap_head.specs.Written.{fields_text}
use Rattle.icap_head.proofs.Back.{response_back, response_text_is}
use Rattle.icap_head.proofs.responses.write_response.Goals as goal

pub returns-clause-text : goal.returns-clause-text
returns-clause-text c =
    let r = c.args.response.now in
    let whole : c.put_fields.new.out.items ≡ (((((codes "ICAP/1.0 " ++ three_digits r.status) ++ 32 ∷ []) ++ r.phrase.items)
    ++ 13 ∷ 10 ∷ []) ++ fields_text (field_list r.fields)) = search rules in
    whole ∙ response_text_is (response_parts r)

pub returns-clause-again : goal.returns-clause-again
returns-clause-again c =
    let text = returns-clause-text c in
    subst (λ t. IsResponseHead t (response_parts c.args.response.now)) (sym text)
    (response_back (response_parts c.args.response.now) c.requires)

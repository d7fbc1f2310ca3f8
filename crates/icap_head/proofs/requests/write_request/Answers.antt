-- What is written is the request's text, and is a head of the same request.
use Rattle.std.proofs.Common.{◌≡◌, [], ◌∷◌, ◌++◌, subst, sym, rules, ◌∙◌, codes}
use Rattle.icap_head.specs.Fields.{field_list}
use Rattle.icap_head.specs.Heads.{IsRequestHead, request_parts}
use Rattle.icap_head.specs.Methods.{request_method_name}
use Rattle.icap_head.specs.Written.{fields_text}
use Rattle.icap_head.proofs.Back.{request_back, request_text_is}
use Rattle.icap_head.proofs.requests.write_request.Goals as goal

pub returns-clause-text : goal.returns-clause-text
returns-clause-text c =
    let r = c.args.request.now in
    let whole : c.put_fields.new.out.items ≡ (((request_method_name r.method ++ 32 ∷ []) ++ r.uri.items)
    ++ (codes " ICAP/1.0" ++ 13 ∷ 10 ∷ [])) ++ fields_text (field_list r.fields) = search rules in
    whole ∙ request_text_is (request_parts r)

pub returns-clause-again : goal.returns-clause-again
returns-clause-again c =
    let text = returns-clause-text c in
    subst (λ t. IsRequestHead t (request_parts c.args.request.now)) (sym text) (request_back (request_parts c.args.request.now) c.requires)

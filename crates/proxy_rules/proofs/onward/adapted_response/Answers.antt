-- A service's text goes on only if it is just a head that may answer; only if it isn't is the service blamed.
use Rattle.std.proofs.Common.{◌≡◌, true, false, rules, refl, sym, ◌∙◌, inl, inr, length, ap}
use Rattle.proxy_rules.specs.Users.{is_head_request}
use Rattle.proxy_rules.specs.Onward.{IsResponse, IsAdaptedResponse, NoAdaptedResponse, part_of, may_answer}
use Rattle.proxy_rules.proofs.OnwardLemmas.{widened, adapted_response_is, blamed}
use Rattle.proxy_rules.proofs.onward.adapted_response.Goals as goal

pub returns-in-Err-clause-err : goal.returns-in-Err-clause-err
returns-in-Err-clause-err c = rw c.cause_of.ensures (blamed c.in-Err.fault
    (NoAdaptedResponse (is_head_request c.args.asked.user.now) c.args.has_body c.args.text.now)
    (λ other parts may. elim (c.in-Err.ensures.found parts (length c.args.text.now) (rw c.is_head_request.ensures may.read))
    [ inl e ↦ other (cc e) | inr none ↦ none ]))

pub returns-then-head-text-clause-err : goal.returns-then-head-text-clause-err
returns-then-head-text-clause-err c = inr (
  refl,
  λ parts may.
      elim (c.in-Ok.ensures.found parts (length c.args.text.now) (rw c.is_head_request.ensures may.read))
      [ inl e ↦ cc e | inr same ↦ c.if-head-text.true same.1 ],
)

-- false and true are different
false_true : false ≡ true → ⊥
false_true e = cc

pub returns-then-not-may_answer-clause-err : goal.returns-then-not-may_answer-clause-err
returns-then-not-may_answer-clause-err c = inr (
  refl,
  λ parts may.
      elim (c.in-Ok.ensures.found parts (length c.args.text.now) (rw c.is_head_request.ensures may.read)) [
        | inl e ↦ cc e
        | inr same ↦ false_true ((let fails : false ≡ c.may_answer.result = search rules in fails) ∙ c.may_answer.ensures
            ∙ ap (may_answer c.args.has_body) same.0 ∙ may.may)
      ],
)

pub returns-clause-ok : goal.returns-clause-ok
returns-clause-ok c = widened c.response_onward.result c.args.asked.user.now c.args.asked.carries_on c.args.asked.origin c.part_of.result
    (part_of c.args.has_body)
    (IsResponse c.in-Ok.head.value) (IsAdaptedResponse (is_head_request c.args.asked.user.now) c.args.has_body c.args.text.now)
    (adapted_response_is (is_head_request c.args.asked.user.now) c.args.has_body c.args.text.now c.in-Ok.head.value c.in-Ok.head.length
    (rw c.is_head_request.ensures at c.in-Ok.ensures.ok) c.if-head-text.false
    (let passes : c.may_answer.result ≡ true = search rules in sym c.may_answer.ensures ∙ passes))
    c.part_of.ensures c.response_onward.ensures.ok

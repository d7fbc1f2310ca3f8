-- A service's text goes on only if it is just a request's head; only if it isn't is the service blamed.
use Rattle.std.proofs.Common.{refl, inl, inr, length}
use Rattle.proxy_rules.specs.Onward.{IsRequest, IsAdaptedRequest, NoAdaptedRequest, part_of}
use Rattle.proxy_rules.proofs.OnwardLemmas.{widened, unmade_of, adapted_request_is, blamed_request}
use Rattle.proxy_rules.proofs.onward.adapted_request.Goals as goal

pub returns-in-Err-clause-err : goal.returns-in-Err-clause-err
returns-in-Err-clause-err c = rw c.cause_of.ensures (blamed_request c.in-Err.fault (NoAdaptedRequest c.args.text.now) _
    (λ other parts read. elim (c.in-Err.ensures.found parts (length c.args.text.now) read) [ inl e ↦ other (cc e) | inr none ↦ none ]))

pub returns-then-head-text-clause-err : goal.returns-then-head-text-clause-err
returns-then-head-text-clause-err c = inr (inl (
  refl,
  λ parts read.
      elim (c.in-Ok.ensures.found parts (length c.args.text.now) read) [ inl e ↦ cc e | inr same ↦ c.if-head-text.true same.1 ],
))

pub returns-clause-ok : goal.returns-clause-ok
returns-clause-ok c = widened c.request_onward.result c.args.asked.user.now c.args.asked.carries_on c.args.asked.origin c.part_of.result
    (part_of c.args.has_body)
    (IsRequest c.in-Ok.head.value) (IsAdaptedRequest c.args.text.now)
    (adapted_request_is c.args.text.now c.in-Ok.head.value c.in-Ok.head.length c.in-Ok.ensures.ok c.if-head-text.false) c.part_of.ensures
    c.request_onward.ensures.ok

pub returns-clause-err : goal.returns-clause-err
returns-clause-err c = unmade_of c.request_onward.result (NoAdaptedRequest c.args.text.now) c.args.asked.user.now c.args.asked.origin
    c.part_of.result
    (part_of c.args.has_body) (IsRequest c.in-Ok.head.value) (IsAdaptedRequest c.args.text.now)
    (adapted_request_is c.args.text.now c.in-Ok.head.value c.in-Ok.head.length c.in-Ok.ensures.ok c.if-head-text.false) c.part_of.ensures
    c.request_onward.ensures.err

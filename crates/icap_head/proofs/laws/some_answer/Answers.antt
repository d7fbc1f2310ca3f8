-- It can't be that a text has neither a head nor a fault, be it read as a request or as a response.
use Rattle.std.proofs.Common.{inl, inr}
use Rattle.icap_head.specs.Folds.{unfolded}
use Rattle.icap_head.proofs.Totals.{some_request, some_response}
use Rattle.icap_head.proofs.laws.some_answer.Goals as goal

pub returns-clause-requests : goal.returns-clause-requests
returns-clause-requests c = λ text no_head no_fault. some_request text (λ found. elim found [
  | inl h ↦ no_head h.0 h.1 h.2
  | inr s ↦ no_fault s.0 s.1
])

pub returns-clause-responses : goal.returns-clause-responses
returns-clause-responses c = λ text no_head no_fault. some_response (unfolded text) (λ found. elim found [
  | inl h ↦ no_head h.0 h.1 h.2
  | inr s ↦ no_fault s.0 s.1
])

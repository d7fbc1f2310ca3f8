-- Two heads that one text begins with have the same parts and the same length.
use Rattle.std.proofs.Common.{sym, ◌∙◌}
use Rattle.http_side.specs.Heads.{judged}
use Rattle.http_side.proofs.RequestAnswers.{one_at}
use Rattle.http_side.proofs.ResponseAnswers.{one_at as one_response_at}
use Rattle.http_side.proofs.laws.one_head.Goals as goal

pub returns-clause-requests : goal.returns-clause-requests
returns-clause-requests c = λ text adapted r p n m x y. one_at (judged text) r p n m x.there y.there

pub returns-clause-responses : goal.returns-clause-responses
returns-clause-responses c = λ text to_head r p n m x y. one_response_at (judged text) r p n m x.there y.there (x.asked ∙ sym y.asked)

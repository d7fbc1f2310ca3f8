-- An answer's head says close just where the user's connection ends, a request's just where its connection is for it alone.
use Rattle.proxy_rules.proofs.CloseLemmas.{answer_says, request_says}
use Rattle.proxy_rules.proofs.laws.says_close_where_it_ends.Goals as goal

pub returns-clause-answer : goal.returns-clause-answer
returns-clause-answer c = answer_says

pub returns-clause-request : goal.returns-clause-request
returns-clause-request c = request_says

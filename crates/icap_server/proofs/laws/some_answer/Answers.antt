-- It can't be that no text answers a stream.
use Rattle.icap_server.proofs.SomeAnswer.{answers_some}
use Rattle.icap_server.proofs.laws.some_answer.Goals as goal

pub returns : goal.returns
returns c = λ given stream none. answers_some given stream (λ found. none found.0 found.1)

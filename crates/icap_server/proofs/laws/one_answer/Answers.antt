-- Two texts that answer the same stream with the same settings are equal.
use Rattle.icap_server.proofs.OneAnswer.{answers_one}
use Rattle.icap_server.proofs.laws.one_answer.Goals as goal

pub returns : goal.returns
returns c = answers_one

-- Two lists of steps joined replay as the second from the numbers after the first.
use Rattle.service_pool.proofs.StepLemmas.{replay-append}
use Rattle.service_pool.proofs.laws.parts_replay_as_the_whole.Goals as goal

pub returns : goal.returns
returns c = replay-append

-- Heard stands in the history just where a byte of a reply was read.
use Rattle.icap_client.specs.OthersHeard.{heard_where}
use Rattle.icap_client.proofs.laws.heard_says_a_byte.Goals as goal

pub returns : goal.returns
returns c = heard_where

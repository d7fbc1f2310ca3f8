-- Where another request may follow, all that was due of this one was taken, and just a whole answer was read.
use Rattle.icap_client.proofs.Reuse.{clean_by}
use Rattle.icap_client.proofs.laws.a_reusable_connection_is_clean.Goals as goal

pub returns : goal.returns
returns c = clean_by

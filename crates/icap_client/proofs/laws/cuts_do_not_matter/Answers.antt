-- Two sides with room that framed all they can of the same bytes are equally far, however reads cut these.
use Rattle.icap_client.proofs.Cuts.{cut_anyhow}
use Rattle.icap_client.proofs.laws.cuts_do_not_matter.Goals as goal

pub returns : goal.returns
returns c = cut_anyhow

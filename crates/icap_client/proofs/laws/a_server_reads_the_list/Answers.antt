-- A server reads a request's list back as the layout with each head after the one before, and the body last.
use Rattle.icap_client.proofs.ReadBack.{read_back}
use Rattle.icap_client.proofs.laws.a_server_reads_the_list.Goals as goal

pub returns : goal.returns
returns c = read_back

-- Bytes are refused with one fault at most, want of memory excepted.
use Rattle.icap_client.proofs.OneFault.{one_fault}
use Rattle.icap_client.proofs.laws.refusals_have_one_fault.Goals as goal

pub returns : goal.returns
returns c = one_fault

-- A fault other than More stays the same whatever bytes follow.
use Rattle.icap_head.specs.StartLines.{RequestForm, StatusForm}
use Rattle.icap_head.proofs.Follows.{fault_stays}
use Rattle.icap_head.proofs.Folding.{folded_fault_stays}
use Rattle.icap_head.proofs.laws.faults_stay.Goals as goal

pub returns-clause-requests : goal.returns-clause-requests
returns-clause-requests c = λ text more fault. fault_stays RequestForm fault text more

pub returns-clause-responses : goal.returns-clause-responses
returns-clause-responses c = λ text more fault. folded_fault_stays StatusForm fault text more

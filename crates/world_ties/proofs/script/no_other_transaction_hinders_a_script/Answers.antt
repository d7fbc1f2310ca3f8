-- What others do changes the answer only to a lease, a beginning or a retry, so scripts go on; of a message only a retry steps a pool.
use Rattle.world_ties.proofs.Amid.{fault_amid, script_amid, no_pool_step}
use Rattle.world_ties.proofs.script.no_other_transaction_hinders_a_script.Goals as goal

pub returns-clause-fault : goal.returns-clause-fault
returns-clause-fault c = fault_amid

pub returns-clause-amid : goal.returns-clause-amid
returns-clause-amid c = script_amid

pub returns-clause-pools : goal.returns-clause-pools
returns-clause-pools c = no_pool_step

-- A new holding has room for its preview, and each event that is taken leaves it that room.
use Rattle.world_ties.proofs.Wide.{wide_first, wide_stays, reached}
use Rattle.world_ties.proofs.script.a_preview_keeps_its_room.Goals as goal

pub returns-clause-begins : goal.returns-clause-begins
returns-clause-begins c = wide_first

pub returns-clause-stays : goal.returns-clause-stays
returns-clause-stays c = wide_stays

pub returns-clause-reached : goal.returns-clause-reached
returns-clause-reached c = reached

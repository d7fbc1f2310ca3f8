-- Two numbers of a loop that are counted at one index are the same.
use Rattle.shard_report.proofs.Indexes.{one_index}
use Rattle.shard_report.proofs.laws.each_count_has_its_index.Goals as goal

pub returns : goal.returns
returns c = one_index

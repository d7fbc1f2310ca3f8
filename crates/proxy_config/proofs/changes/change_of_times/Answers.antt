-- The first key of which the numbers differ is the first change of its rows.
use Rattle.proxy_config.specs.Keys.{time_rows}
use Rattle.proxy_config.proofs.NumberChanges.{differing_between}
use Rattle.proxy_config.proofs.changes.change_of_times.Goals as goal

pub returns : goal.returns
returns c =
    differing_between time_rows c.args.old.now c.args.new.now _ _ _ c.first_differing.ensures c.times.ensures c.times-2.ensures

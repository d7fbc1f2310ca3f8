-- The first key of which the numbers differ is the first change of its rows.
use Rattle.proxy_config.specs.Keys.{size_rows}
use Rattle.proxy_config.proofs.NumberChanges.{differing_between}
use Rattle.proxy_config.proofs.changes.change_of_sizes.Goals as goal

pub returns : goal.returns
returns c =
    differing_between size_rows c.args.old.now c.args.new.now _ _ _ c.first_differing.ensures c.sizes.ensures c.sizes-2.ensures

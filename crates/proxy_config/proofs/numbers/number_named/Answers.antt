-- A key of one of the tables, or else of those after it, is a key of all.
use Rattle.proxy_config.proofs.NumberNames.{key_or}
use Rattle.proxy_config.proofs.numbers.number_named.Goals as goal

pub returns : goal.returns
returns c =
    key_or _ _ c.args.name.now c.or-3.result c.key_in-5.result c.or-4.result c.or-4.ensures
    (key_or _ _ c.args.name.now c.or-2.result c.key_in-4.result c.or-3.result c.or-3.ensures
    (key_or _ _ c.args.name.now c.or.result c.key_in-3.result c.or-2.result c.or-2.ensures
    (key_or _ _ c.args.name.now c.key_in.result c.key_in-2.result c.or.result c.or.ensures c.key_in.ensures c.key_in-2.ensures)
    c.key_in-3.ensures)
    c.key_in-4.ensures)
    c.key_in-5.ensures

-- The ledger of the pool of a call has the name and the parts of its blank.
use Rattle.layer_rows.proofs.resources.pools.put_pool.Given as goal

abbrev pub ghosts-put_on_pool : goal.ghosts-put_on_pool
ghosts-put_on_pool g a = record { name = a.blank.name; parts = a.blank.parts }

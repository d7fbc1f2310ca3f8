-- The ledger of the pool that four threads share beside a bank has the name and the parts of its blank.
use Rattle.layer_rows.proofs.resources.sharing.put_both.Given as goal

abbrev pub ghosts-share : goal.ghosts-share
ghosts-share g a = record { name = a.blank.name; parts = a.blank.parts }

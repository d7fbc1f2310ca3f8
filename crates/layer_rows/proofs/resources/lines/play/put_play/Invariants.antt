-- The ledgers of the row's two pools, for requests and responses, have the names and the parts of their blanks.
use Rattle.layer_rows.proofs.resources.lines.play.put_play.Given as goal

abbrev pub ghosts-put_on_pools-Q-Ledger : goal.ghosts-put_on_pools-Q-Ledger
ghosts-put_on_pools-Q-Ledger g a = record { name = a.blanks.0.name; parts = a.blanks.0.parts }

abbrev pub ghosts-put_on_pools-A-Ledger : goal.ghosts-put_on_pools-A-Ledger
ghosts-put_on_pools-A-Ledger g a = record { name = a.blanks.1.name; parts = a.blanks.1.parts }

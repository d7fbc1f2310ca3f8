-- Each of the four ledgers has the name and the parts of its blank.
use Rattle.layer_bench.proofs.main.Given as goal

abbrev pub ghosts-run-H-Ledger : goal.ghosts-run-H-Ledger
ghosts-run-H-Ledger g a = record { name = a.blanks.held.name; parts = a.blanks.held.parts }

abbrev pub ghosts-run-F-Ledger : goal.ghosts-run-F-Ledger
ghosts-run-F-Ledger g a = record { name = a.blanks.free.name; parts = a.blanks.free.parts }

abbrev pub ghosts-run-S-Ledger : goal.ghosts-run-S-Ledger
ghosts-run-S-Ledger g a = record { name = a.blanks.slack.name; parts = a.blanks.slack.parts }

abbrev pub ghosts-run-P-Ledger : goal.ghosts-run-P-Ledger
ghosts-run-P-Ledger g a = record { name = a.blanks.pages.name; parts = a.blanks.pages.parts }

-- Each ledger of the budget and of the pools has the name and the number of parts of its blank.
use Rattle.shard_loop.proofs.running.serve.Given as goal

abbrev pub ghosts-serve_with-H-Ledger : goal.ghosts-serve_with-H-Ledger
ghosts-serve_with-H-Ledger g a = record { name = a.blanks.held.name; parts = a.blanks.held.parts }

abbrev pub ghosts-serve_with-F-Ledger : goal.ghosts-serve_with-F-Ledger
ghosts-serve_with-F-Ledger g a = record { name = a.blanks.free.name; parts = a.blanks.free.parts }

abbrev pub ghosts-serve_with-S-Ledger : goal.ghosts-serve_with-S-Ledger
ghosts-serve_with-S-Ledger g a = record { name = a.blanks.slack.name; parts = a.blanks.slack.parts }

abbrev pub ghosts-serve_with-P-Ledger : goal.ghosts-serve_with-P-Ledger
ghosts-serve_with-P-Ledger g a = record { name = a.blanks.pages.name; parts = a.blanks.pages.parts }

abbrev pub ghosts-serve_with-Q-Ledger : goal.ghosts-serve_with-Q-Ledger
ghosts-serve_with-Q-Ledger g a = record { name = a.reqmod.name; parts = a.reqmod.parts }

abbrev pub ghosts-serve_with-A-Ledger : goal.ghosts-serve_with-A-Ledger
ghosts-serve_with-A-Ledger g a = record { name = a.respmod.name; parts = a.respmod.parts }

-- Each ledger of the budget has the name and the parts of its blank.
use Rattle.proxy_program.proofs.probing.probe_from.Given as goal

abbrev pub ghosts-probe_on-H-Ledger : goal.ghosts-probe_on-H-Ledger
ghosts-probe_on-H-Ledger g a = record { name = a.blanks.held.name; parts = a.blanks.held.parts }

abbrev pub ghosts-probe_on-F-Ledger : goal.ghosts-probe_on-F-Ledger
ghosts-probe_on-F-Ledger g a = record { name = a.blanks.free.name; parts = a.blanks.free.parts }

abbrev pub ghosts-probe_on-S-Ledger : goal.ghosts-probe_on-S-Ledger
ghosts-probe_on-S-Ledger g a = record { name = a.blanks.slack.name; parts = a.blanks.slack.parts }

abbrev pub ghosts-probe_on-P-Ledger : goal.ghosts-probe_on-P-Ledger
ghosts-probe_on-P-Ledger g a = record { name = a.blanks.pages.name; parts = a.blanks.pages.parts }

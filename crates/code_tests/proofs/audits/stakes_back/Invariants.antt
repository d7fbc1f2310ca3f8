-- The four ledgers of the audited bank have the names and the parts of its blanks.
use Rattle.code_tests.proofs.audits.stakes_back.Given as goal

abbrev pub ghosts-audit_without_one_of-H-Ledger : goal.ghosts-audit_without_one_of-H-Ledger
ghosts-audit_without_one_of-H-Ledger g a = record { name = a.blanks.held.name; parts = a.blanks.held.parts }

abbrev pub ghosts-audit_without_one_of-F-Ledger : goal.ghosts-audit_without_one_of-F-Ledger
ghosts-audit_without_one_of-F-Ledger g a = record { name = a.blanks.free.name; parts = a.blanks.free.parts }

abbrev pub ghosts-audit_without_one_of-S-Ledger : goal.ghosts-audit_without_one_of-S-Ledger
ghosts-audit_without_one_of-S-Ledger g a = record { name = a.blanks.slack.name; parts = a.blanks.slack.parts }

abbrev pub ghosts-audit_without_one_of-P-Ledger : goal.ghosts-audit_without_one_of-P-Ledger
ghosts-audit_without_one_of-P-Ledger g a = record { name = a.blanks.pages.name; parts = a.blanks.pages.parts }

-- The ledger of the audited pool has the name and the parts of its blank.
use Rattle.code_tests.proofs.audits.audit_with_a_missing_lease_hands_all_back.Given as goal

abbrev pub ghosts-audit_without_one : goal.ghosts-audit_without_one
ghosts-audit_without_one g a = record { name = a.blank.name; parts = a.blank.parts }

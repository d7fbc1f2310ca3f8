-- Each of the budget's four ledger types has the name and the number of parts of its new ledger.
use Rattle.edge_rows.proofs.exchanges.banks.put_exchange.Given as goal

abbrev pub ghosts-put_on_bank-H-Ledger : goal.ghosts-put_on_bank-H-Ledger
ghosts-put_on_bank-H-Ledger g a = record { name = a.blanks.held.name; parts = a.blanks.held.parts }

abbrev pub ghosts-put_on_bank-F-Ledger : goal.ghosts-put_on_bank-F-Ledger
ghosts-put_on_bank-F-Ledger g a = record { name = a.blanks.free.name; parts = a.blanks.free.parts }

abbrev pub ghosts-put_on_bank-S-Ledger : goal.ghosts-put_on_bank-S-Ledger
ghosts-put_on_bank-S-Ledger g a = record { name = a.blanks.slack.name; parts = a.blanks.slack.parts }

abbrev pub ghosts-put_on_bank-P-Ledger : goal.ghosts-put_on_bank-P-Ledger
ghosts-put_on_bank-P-Ledger g a = record { name = a.blanks.pages.name; parts = a.blanks.pages.parts }

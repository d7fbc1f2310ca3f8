-- A response has at most one record at a moment, at most one fault, and never both.
use Rattle.options_book.proofs.Exact.{not_both, one_fault}
use Rattle.options_book.proofs.OneRecord.{one_record}
use Rattle.options_book.proofs.laws.reads_one_way.Goals as goal

pub returns-clause-one_record : goal.returns-clause-one_record
returns-clause-one_record c = one_record

pub returns-clause-one_fault : goal.returns-clause-one_fault
returns-clause-one_fault c = one_fault

pub returns-clause-not_both : goal.returns-clause-not_both
returns-clause-not_both c = λ fault point moment response options says stands. not_both fault point response moment options says stands

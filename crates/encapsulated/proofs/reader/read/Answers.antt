-- A text has just one layout or fault, so the one that was found is answered exactly where it applies.
use Rattle.encapsulated.proofs.OneAnswer.{only_layout, only_fault}
use Rattle.encapsulated.proofs.reader.read.Goals as goal

pub returns-clause-ok : goal.returns-clause-ok
returns-clause-ok c = only_layout c.args.method c.args.direction c.args.list.now _ c.find_layout.ensures.ok c.find_layout.ensures.err

pub returns-clause-err : goal.returns-clause-err
returns-clause-err c = only_fault c.args.method c.args.direction c.args.list.now _ c.find_layout.ensures.ok c.find_layout.ensures.err

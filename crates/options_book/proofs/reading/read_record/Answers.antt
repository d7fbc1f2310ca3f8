-- A fault that applies is the answer, since such a response has no record and no other fault.
use Rattle.icap_head.specs.Heads.{response_parts}
use Rattle.options_book.proofs.Exact.{only_fault}
use Rattle.options_book.proofs.reading.read_record.Goals as goal

pub returns-clause-fault : goal.returns-clause-fault
returns-clause-fault c =
    only_fault c.args.point (response_parts c.args.response.now) c.args.now c.find_record.result c.find_record.ensures.ok
    c.find_record.ensures.only

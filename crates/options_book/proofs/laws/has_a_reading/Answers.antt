-- A response that is judged good has a record, and any other has the fault that it was judged to have.
use Rattle.icap_head.specs.Heads.{response_parts}
use Rattle.options_book.proofs.Exact.{has_reading}
use Rattle.options_book.proofs.laws.has_a_reading.Goals as goal

pub returns : goal.returns
returns c = λ moment. has_reading c.args.point (response_parts c.args.response.now) moment c.judge-judged.result c.judge-judged.ensures.ok
    c.judge-judged.ensures.err

-- A head is refused for the first fault of its fields.
use Rattle.std.proofs.Common.{sym, ap, ◌∙◌}
use Rattle.http_side.specs.Heads.{response_at, fields_fault}
use Rattle.http_side.proofs.ResponseLemmas.{refuses}
use Rattle.http_side.proofs.response.judge.Goals as goal

pub returns-in-Err-clause-refused : goal.returns-in-Err-clause-refused
returns-in-Err-clause-refused c =
    let r = response_at c.args.text.now c.args.spans c.args.lines.now c.args.to_head in
    refuses r c.in-Err.fault (ap fields_fault (sym c.new.ensures) ∙ c.in-Err.ensures.err)

-- The length of zero and then the coding are written, each where it is asked for.
use Rattle.std.specs.Prelude.{codes}
use Rattle.http_side.specs.Forward.{when}
use Rattle.http_side.proofs.Writes.{puts_lines}
use Rattle.http_side.proofs.writing.put_framing.Goals as goal

pub returns : goal.returns
returns c =
    let x = c.args.extra in
    puts_lines (when x.empty (codes "Content-Length", codes "0")) (when x.chunked (codes "Transfer-Encoding", codes "chunked"))
    c.put_when.ensures c.put_when-2.ensures

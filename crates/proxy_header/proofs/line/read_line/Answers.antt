-- A line, and one that isn't there yet.
use Rattle.std.proofs.Common.{arith}
use Rattle.proxy_header.proofs.Lines.{line_answers, no_line}
use Rattle.proxy_header.proofs.line.read_line.Goals as goal

pub returns-in-Some : goal.returns-in-Some
returns-in-Some c =
    let found = c.in-Some.ensures.found in
    line_answers c.args.bytes.now c.in-Some.raw.now _ c.read_raw.result found.0 found.1 c.read_raw.ensures

pub returns-in-None-2 : goal.returns-in-None-2
returns-in-None-2 c = (
  (λ from size b. no_line c.args.bytes.now from size c.in-None.ensures.none b),
  (λ part. let short = part.short in let long = c.if-bytes-lt-MAX_LINE.false in omega (arith, short, long)),
)

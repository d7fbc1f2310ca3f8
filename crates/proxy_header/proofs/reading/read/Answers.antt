-- Each version is read by itself.
use Rattle.std.proofs.Common.{refl}
use Rattle.proxy_header.proofs.Versions.{block_is, line_is, neither}
use Rattle.proxy_header.proofs.reading.read.Goals as goal

pub returns-in-Some : goal.returns-in-Some
returns-in-Some c = block_is c.args.bytes.now c.in-Some.rest.now c.read_block.result c.in-Some.ensures.found c.read_block.ensures

pub returns-in-None : goal.returns-in-None
returns-in-None c =
    let front = c.if-begins.ensures.yes refl in
    line_is c.args.bytes.now front.0 c.read_line.result front.1 c.read_line.ensures

pub returns-in-None-3 : goal.returns-in-None-3
returns-in-None-3 c = neither c.args.bytes.now c.in-None.ensures.none (c.if-begins.ensures.no refl) (c.if-is_cut_front.ensures.no refl)

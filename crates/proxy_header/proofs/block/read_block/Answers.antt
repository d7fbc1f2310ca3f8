-- A block by its fixed part, and by how much has come of it.
use Rattle.std.proofs.Common.{arith, subst, sym}
use Rattle.proxy_header.specs.Blocks.{Tells, IsBlock, IsCutBlock}
use Rattle.proxy_header.specs.Headers.{Answers, IsSaid}
use Rattle.proxy_header.proofs.Blocks.{block_answers, cut_behind, cut_short}
use Rattle.proxy_header.proofs.block.read_block.Goals as goal

pub returns-in_default : goal.returns-in_default
returns-in_default c = cut_short c.args.bytes.now c.args.rest.now c.requires c.in_default.ensures.none

pub returns-then-behind-count : goal.returns-then-behind-count
returns-then-behind-count c =
    let fits = c.if-count-gt-MAX_BLOCK.false in
    cut_behind c.args.bytes.now c.args.rest.now _ _ _ _ c.requires c.in-Some.ensures.found (omega (arith, fits)) c.if-behind-count.true

pub returns : goal.returns
returns c =
    let fits = c.if-count-gt-MAX_BLOCK.false in
    let there = c.if-behind-count.false in
    subst (Answers IsBlock IsCutBlock c.args.bytes.now) (sym c.reading_of.ensures)
    (block_answers c.args.bytes.now c.args.rest.now _ _ _ _ c.told_by.result c.requires c.in-Some.ensures.found (omega (arith, fits)) there
    (subst (λ b. IsSaid (Tells c.in-Some.fixed.command c.in-Some.fixed.family b) c.told_by.result) c.front.ensures.front c.told_by.ensures))

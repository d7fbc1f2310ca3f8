-- What follows the byte that was found has no byte of this value: it is the text after the last one.
use Rattle.options_book.proofs.LastCuts.{cut_behind}
use Rattle.options_book.proofs.path.behind_last.Goals as goal

pub returns-then-last-byte-clause-some : goal.returns-then-last-byte-clause-some
returns-then-last-byte-clause-some c =
    cut_behind c.args.text.now c.loop-front.front.now c.args.byte c.loop-front.invariant.within c.loop-front.invariant.same
    c.in-len1-up.len_at_least c.if-last-byte.true c.loop-front.invariant.none

-- The length is that of all parts and the empty line, up to the largest number of 64 bits.
use Rattle.std.proofs.Common.{lit≤}
use Rattle.http_side.proofs.Sums.{parts}
use Rattle.http_side.proofs.sizes.head_len.Goals as goal

pub returns : goal.returns
returns c a b d e f g h i =
    parts _ a b d e c.args.first c.args.host c.args.fields c.args.added _ _ _ _ (lit≤ tt) f g h i c.saturating_add.ensures
    c.saturating_add-2.ensures c.saturating_add-3.ensures c.saturating_add-4.ensures

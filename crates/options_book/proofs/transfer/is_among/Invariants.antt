-- The item is among all of them just if it is among those from this one on.
use Rattle.std.proofs.Common.{◌≡◌, map, drop}
use Rattle.adapt_bytes.specs.Text.{is_among}
use Rattle.options_book.specs.Transfer.{vec_bytes}
use Rattle.options_book.proofs.transfer.is_among.Given as goal

abbrev pub invariant-loop-found : goal.invariant-loop-found
invariant-loop-found l = is_among (map vec_bytes l.items) l.item ≡ is_among (map vec_bytes (drop l.found-index l.items)) l.item

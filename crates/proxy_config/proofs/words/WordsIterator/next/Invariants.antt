-- The words that are still to come stay the same until one comes.
use Rattle.std.proofs.Common.{◌≡◌, length}
use Rattle.proxy_config.specs.HostsFile.{parts_left, words_left}
use Rattle.proxy_config.proofs.words.WordsIterator.next.Given as goal

abbrev pub invariant-loop-self : goal.invariant-loop-self
invariant-loop-self l = words_left l.self ≡ words_left l.fn.self

abbrev pub decreases-loop-self : goal.decreases-loop-self
decreases-loop-self l = length (parts_left l.self.rest)

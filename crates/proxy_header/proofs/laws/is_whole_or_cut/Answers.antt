-- Bytes that begin with a whole header aren't taken for a part of one.
use Rattle.proxy_header.proofs.Parts.{whole_or_cut}
use Rattle.proxy_header.proofs.laws.is_whole_or_cut.Goals as goal

pub returns : goal.returns
returns c = whole_or_cut

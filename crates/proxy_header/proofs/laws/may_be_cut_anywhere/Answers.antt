-- A header that lacks its last byte, or more of its end, is taken for a part of one.
use Rattle.proxy_header.proofs.Parts.{cut_anywhere}
use Rattle.proxy_header.proofs.laws.may_be_cut_anywhere.Goals as goal

pub returns : goal.returns
returns c = cut_anywhere

-- The words of a text that is cut at its first space.
use Rattle.std.proofs.Common.{◌∙◌, ap}
use Rattle.proxy_header.specs.Lines.{words}
use Rattle.proxy_header.proofs.WordCuts.{words_cut, words_whole}
use Rattle.proxy_header.proofs.words.cut_word.Goals as goal

pub returns-in-Some-clause-found : goal.returns-in-Some-clause-found
returns-in-Some-clause-found c =
    let found = c.in-Some.ensures.found in
    ap words found.0 ∙ words_cut c.in-Some.word.now c.in-Some.rest.now found.1

pub returns-in-None-clause-none : goal.returns-in-None-clause-none
returns-in-None-clause-none c = words_whole c.args.text.now c.in-None.ensures.none

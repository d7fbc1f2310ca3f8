-- A fifth word is one too many.
use Rattle.proxy_header.proofs.WordCuts.{no_fifth}
use Rattle.proxy_header.proofs.words.four_words.Goals as goal

pub returns-in-Some-clause-none : goal.returns-in-Some-clause-none
returns-in-Some-clause-none c = no_fifth c.args.text.now c.in_ok-first.rest.now c.in_ok-second.rest.now c.in_ok-third.fourth.now
    c.in-Some.field-0.1.now _ _ _ _
    c.in_ok-first.ensures.found c.in_ok-second.ensures.found c.in_ok-third.ensures.found c.in-Some.ensures.found

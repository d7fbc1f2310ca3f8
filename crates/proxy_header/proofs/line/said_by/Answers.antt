-- A line that says nothing.
use Rattle.std.proofs.Common.{refl}
use Rattle.proxy_header.proofs.Lines.{same_text, says_not}
use Rattle.proxy_header.proofs.line.said_by.Goals as goal

pub returns-in-None-source_in : goal.returns-in-None-source_in
returns-in-None-source_in c = says_not c.args.line.now (c.if-begins.ensures.no refl)
    (λ text ip e h. c.in-None-source_in.ensures.none ip (same_text c.args.line.now c.in-Some.text.now text ip c.in-Some.ensures.found e h))

pub returns-in-None : goal.returns-in-None
returns-in-None c = says_not c.args.line.now (c.if-begins.ensures.no refl) (λ text ip e h. c.in-None.ensures.none text e)

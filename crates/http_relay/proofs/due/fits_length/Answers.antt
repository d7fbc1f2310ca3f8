-- A body breaks its length where more bytes came than that, or fewer and it is over.
use Rattle.std.proofs.Common.{◌≡◌, ◌<◌, arith, ap, true}
use Rattle.std.proofs.lemmas.Bool.Decides.{nat_tests}
use Rattle.http_relay.specs.Message.{length_of}
use Rattle.adapt_sides.specs.Tapes.{chosen_received, chosen_over}
use Rattle.http_relay.specs.Giving.BreaksLength.{longer, shorter}
use Rattle.http_relay.proofs.due.fits_length.Goals as goal

pub returns-in-None-clause-breaks : goal.returns-in-None-clause-breaks
returns-in-None-clause-breaks c h =
    let some : 0 < chosen_received c.args.seen.now = grind (arith, nat_tests, c.requires.came) in
    longer 0 (ap length_of c.in-None.is) some

pub returns-else-not-over-clause-breaks : goal.returns-else-not-over-clause-breaks
returns-else-not-over-clause-breaks c h =
    let less : chosen_received c.args.seen.now < c.in-Length.n = grind (arith, nat_tests, c.requires.came, c.if-came-n.true) in
    let over : chosen_over c.args.seen.now ≡ true = grind (arith, nat_tests, c.requires.over, c.if-not-over.false) in
    shorter c.in-Length.n (ap length_of c.in-Length.is) over less

pub returns-else-came-n-clause-breaks : goal.returns-else-came-n-clause-breaks
returns-else-came-n-clause-breaks c h =
    let more : c.in-Length.n < chosen_received c.args.seen.now = grind (arith, nat_tests, c.requires.came) in
    longer c.in-Length.n (ap length_of c.in-Length.is) more

-- The outcome within a piece or the rest is that of the text; without one, the text is a prefix of a body.
use Rattle.std.proofs.Common.{arith, ap, subst, Option, Ok}
use Rattle.std.specs.Prelude.{IfSome}
use Rattle.icap_chunks.specs.declared.pieces.Outcome.{Outcome}
use Rattle.icap_chunks.specs.declared.pieces.Outcome.TheVariants.{More}
use Rattle.icap_chunks.specs.Reading.{IsReading}
use Rattle.icap_chunks.proofs.Readings.{reading_as, collected}
use Rattle.icap_chunks.proofs.pieces.read_cut.Goals as goal

pub returns-in-Some : goal.returns-in-Some
returns-in-Some c =
    let text = c.args.text.now in
    let collector = c.read_to.new.self in
    let P : Option Outcome → Type 0 = λ o. IfSome o (λ outcome. IsReading text collector.body.items outcome) in
    reading_as text collector.body.items c.reading.result.body.items c.in-Some.outcome c.reading.result.outcome
    (subst P c.in-Some.is c.in_ok-outcome.ensures.found) c.reading.ensures.body c.reading.ensures.outcome

pub returns-in-Some-2 : goal.returns-in-Some-2
returns-in-Some-2 c =
    let text = c.args.text.now in
    let collector = c.read_to-2.new.self in
    let P : Option Outcome → Type 0 = λ o. IfSome o (λ outcome. IsReading text collector.body.items outcome) in
    reading_as text collector.body.items c.reading-in-Some-2.result.body.items c.in-Some-2.outcome
    c.reading-in-Some-2.result.outcome
    (subst P c.in-Some-2.is c.in_ok-outcome-2.ensures.found) c.reading-in-Some-2.ensures.body c.reading-in-Some-2.ensures.outcome

pub returns-in-None : goal.returns-in-None
returns-in-None c =
    let text = c.args.text.now in
    let collector = c.read_to-2.new.self in
    let more = c.in_ok-outcome-2.ensures.more (ap Ok c.in-None.is) in
    reading_as text collector.body.items c.reading-in-None.result.body.items More c.reading-in-None.result.outcome
    (collected text collector more.0 (omega (arith, more.1))) c.reading-in-None.ensures.body c.reading-in-None.ensures.outcome

-- Before a message nothing was taken of one, and where no byte went out, nothing was taken at all.
use Rattle.http_relay.specs.HopLaws.{fresh_given, given_fresh}
use Rattle.http_relay.proofs.laws.nothing_before_the_message.Goals as goal

pub returns : goal.returns
returns c = record {
  given = fresh_given;
  aside = given_fresh;
  untouched = λ x head body taken h n g. g.untouched n;
  untouched_aside = λ taken h n a. a.untouched n;
}

-- An event of another side leaves what was given as it is, also with further bytes of the body.
use Rattle.http_relay.specs.Keeping.{others_of}
use Rattle.http_relay.proofs.laws.other_events_keep_what_was_given.Goals as goal

pub returns : goal.returns
returns c = others_of

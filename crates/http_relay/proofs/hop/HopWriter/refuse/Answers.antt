-- The whole refusal waits in the message's place, and no byte of it was taken.
use Rattle.std.proofs.Common.{◌≡◌, ◌∙◌, ap, rules}
use Rattle.chunk_writer.specs.Writer.{fresh}
use Rattle.http_side.specs.Refusals.{refusal}
use Rattle.http_relay.specs.Giving.{Hop}
use Rattle.http_relay.specs.Keeping.{refused}
use Rattle.http_relay.proofs.hop.HopWriter.refuse.Goals as goal

pub returns-clause-aside : goal.returns-clause-aside
returns-clause-aside c =
    let e : c.constant.result ≡ fresh (refusal c.args.status) = search rules in
    refused c.args.status c.constant.result c.self.inside.framing c.self.inside.touched c.wire_fault-self-inside.result c.self.inside.turn
    (ap (λ (h : Hop). h.touched) c.self.view_is ∙ c.requires.untouched) e

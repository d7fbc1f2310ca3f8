-- A new next hop took nothing, neither of a message nor of a refusal.
use Rattle.std.proofs.Common.{◌≡◌, [], rules}
use Rattle.chunk_writer.specs.Writer.{fresh}
use Rattle.http_relay.specs.Keeping.{hop_begins, hop_aside}
use Rattle.http_relay.proofs.hop.HopWriter.new.Goals as goal

pub returns-clause-given : goal.returns-clause-given
returns-clause-given c = λ x head body u.
    let e : c.new-2.result ≡ fresh [] = search rules in
    hop_begins x head body c.new-2.result 4096 e u

pub returns-clause-aside : goal.returns-clause-aside
returns-clause-aside c =
    let e : c.new-2.result ≡ fresh [] = search rules in
    hop_aside c.new-2.result 4096 e

-- If the connector began with no act, its last ones tell how the connection was got, or what failed.
use Rattle.std.specs.Prelude.{IfOk, IfErr}
use Rattle.std.proofs.Common.{subst}
use Rattle.shard_desk.specs.Asked.{LendsBy, FailsBy}
use Rattle.shard_desk.proofs.Asking.{lends_of, fails_of}
use Rattle.shard_desk.proofs.connections.lent_of.Goals as goal

pub returns-in-Ok-clause-lends : goal.returns-in-Ok-clause-lends
returns-in-Ok-clause-lends g c now most thread old asked start lends =
    subst (λ lent. IfOk lent (λ connection. LendsBy now most asked connection.lease)) c.in-Ok.is
    (lends_of now most thread old asked c.args.lent start lends)

pub returns-in-Err-clause-fails : goal.returns-in-Err-clause-fails
returns-in-Err-clause-fails g c now most thread old asked start fails =
    subst (λ lent. IfErr lent (FailsBy asked)) c.in-Err.is (fails_of now most thread old asked c.args.lent start fails)

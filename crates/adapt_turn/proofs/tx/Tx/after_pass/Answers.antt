-- After a pass at most a refusal is put: what stands goes on, no wire is touched, and no message is begun.
use Rattle.adapt_turn.proofs.tx.Tx.after_pass.Goals as goal

pub returns-clause-goes : goal.returns-clause-goes
returns-clause-goes g c = c.refuse_failed.ensures.goes

pub returns-clause-kept : goal.returns-clause-kept
returns-clause-kept g c = c.refuse_failed.ensures.kept

pub returns-clause-same : goal.returns-clause-same
returns-clause-same g c = c.refuse_failed.ensures.same

pub returns-clause-writers : goal.returns-clause-writers
returns-clause-writers g c = let e = c.refuse_failed.ensures in (e.framings.0, e.framings.1, e.messages.0, e.messages.1)

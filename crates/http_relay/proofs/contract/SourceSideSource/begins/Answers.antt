-- A transaction may begin just where the head was read, no fault stands, and the body agrees with the plan.
use Rattle.std.proofs.Common.{[], inl, inr, refl}
use Rattle.std.proofs.lemmas.Bool.{cases_Bool}
use Rattle.trace_core.specs.History.{seen}
use Rattle.http_relay.proofs.contract.SourceSideSource.begins.Goals as goal

pub returns-clause-may : goal.returns-clause-may
returns-clause-may c = (
  λ h. (c.begins.ensures.read h, c.begins.ensures.fault h, c.begins.ensures.agrees h (seen c.args.plan.now []) refl refl refl),
  λ w. elim (cases_Bool c.begins.result) [ inl is ↦ is | inr off ↦ absurd (c.begins.ensures.refuses off w.1 w.0 w.2) ],
)

pub returns-clause-agrees : goal.returns-clause-agrees
returns-clause-agrees c = λ h. c.begins.ensures.agrees h (seen c.args.plan.now []) refl refl refl

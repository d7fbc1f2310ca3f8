-- A message that the gate doesn't let pass is over, so the gate is due no more.
use Rattle.std.proofs.Common.{◌≡◌, ◌∙◌, true, sym, arith}
use Rattle.std.proofs.lemmas.Bool.{false≢true}
use Rattle.std.proofs.lemmas.Bool.Decides.{nat_tests}
use Rattle.exchange_core.specs.Dues.{due_of}
use Rattle.exchange_core.specs.declared.state.CourseState.{CourseState}
use Rattle.exchange_core.specs.declared.due.Due.TheVariants.{AskGate}
use Rattle.shard_exchange.specs.Ends.{moves}
use Rattle.shard_exchange.proofs.exchange.Exchange.ask_gate.Goals as goal

-- the gate is asked for a message that moves alone
at_gate : (c : CourseState) → due_of c ≡ AskGate → moves c ≡ true
at_gate c due = grind (arith, nat_tests)

pub returns-else-may_pass-clause-goes : goal.returns-else-may_pass-clause-goes
returns-else-may_pass-clause-goes g c = (
  c.settle.ensures.goes,
  λ once same. false≢true (sym c.settle.ensures.over ∙ at_gate c.settle.new.self.course (same ∙ c.requires.due)),
)

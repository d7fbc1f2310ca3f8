-- By a fault at the response's head the request goes back to its plan or fails; where it may not go back, what is held stays.
use Rattle.std.proofs.Common.{Option, Some, sym, subst}
use Rattle.shard_exchange.specs.declared.answers.HeadTurn.{HeadTurn}
use Rattle.shard_exchange.specs.Outcomes.{KeepsTurned, TurnLeads}
use Rattle.shard_exchange.proofs.exchange.Exchange.take_turn.Goals as goal

-- a fault leads where it says
pub returns-in-Some-Fault-clause-leads : goal.returns-in-Some-Fault-clause-leads
returns-in-Some-Fault-clause-leads g c =
    let Leads : Option HeadTurn → Type 0 = λ turn. TurnLeads (g.H.Holder.repeats c.args.self.now.holdings)
    (g.H.Holder.withdraws c.args.self.now.holdings c.response_failed.new.self.holdings) (g.H.Holder.head_fault c.args.self.now.holdings)
    (g.H.Effects.is_late c.args.out.now c.args.at.now) c.args.self.now.course c.response_failed.new.self.course turn in
    let found = rw c.in-Some-Fault.is at c.in-Some-Fault.field-0-is in
    subst Leads (sym c.in-Some-Fault.is) (subst (λ h. Leads (Some h)) (sym found) c.response_failed.ensures.leads)

pub returns-in-Some-Fault-clause-kept : goal.returns-in-Some-Fault-clause-kept
returns-in-Some-Fault-clause-kept g c =
    let Kept : Option HeadTurn → Type 0 = λ turn. KeepsTurned c.args.self.now.course turn c.args.self.now.holdings
    c.response_failed.new.self.holdings in
    let found = rw c.in-Some-Fault.is at c.in-Some-Fault.field-0-is in
    subst Kept (sym c.in-Some-Fault.is) (subst (λ h. Kept (Some h)) (sym found) c.response_failed.ensures.kept)

-- An offer of the waiting text leaves what the wire did not take; where the wire fails, the fault is Device.
use Rattle.std.proofs.Common.{◌∙◌, ap, sym, refl, List, ℕ, drop}
use Rattle.icap_client.proofs.Asked.{asks_took, asks_later, asks_broken}
use Rattle.icap_client.proofs.options.OptionsSide.write.Goals as goal

pub returns-in-Took-clause-asks : goal.returns-in-Took-clause-asks
returns-in-Took-clause-asks g c =
    asks_took c.args.self.now c.count_out.new.self (g.W.Wire.past c.args.wire.now) (g.W.Wire.past c.try_write.new.self) c.rest.result.now
    c.in-Took.count c.rest.ensures c.requires c.in-Took.ensures.fits c.in-Took.ensures.past
    (c.count_out.ensures.waiting ∙ ap (λ (t : List ℕ). drop c.in-Took.count t) (sym c.rest.ensures))
    c.count_out.ensures.stage c.count_out.ensures.response c.count_out.ensures.raw

pub returns-in-Wait-clause-asks : goal.returns-in-Wait-clause-asks
returns-in-Wait-clause-asks g c =
    asks_later c.args.self.now c.args.self.now (g.W.Wire.past c.args.wire.now) (g.W.Wire.past c.try_write.new.self) c.rest.result.now
    c.rest.ensures c.requires c.in-Wait.ensures.past refl refl refl refl

pub returns-in-Fault-clause-asks : goal.returns-in-Fault-clause-asks
returns-in-Fault-clause-asks g c =
    asks_broken c.args.self.now c.args.self.now (g.W.Wire.past c.args.wire.now) (g.W.Wire.past c.try_write.new.self) c.rest.result.now
    c.rest.ensures c.requires c.in-Fault.ensures.past refl

-- Where no text waits, the wire is read only before the answer's end, and if the kept bytes give no head and no fault.
use Rattle.std.proofs.Common.{rules, ◌≡◌}
use Rattle.icap_client.specs.declared.options.OptionsStage.TheVariants.{Over}
use Rattle.icap_client.proofs.Asked.{asks_over, asks_told, asks_refused, asks_behind}
use Rattle.icap_client.proofs.options.OptionsSide.write_or_read.Goals as goal

pub returns-in-Over-clause-asks : goal.returns-in-Over-clause-asks
returns-in-Over-clause-asks g c = asks_over c.args.self.now (g.W.Wire.past c.args.wire.now) (search rules) (search rules)

pub returns-in-Ok-Some-clause-asks : goal.returns-in-Ok-Some-clause-asks
returns-in-Ok-Some-clause-asks g c =
    asks_told c.args.self.now c.frame.new.self (g.W.Wire.past c.args.wire.now) c.in-Ok-Some.head (search rules)
    (rw c.in-Ok-Some.field-0-is at c.in-Ok-Some.ensures.frames)

pub returns-in-Ok-None-clause-asks : goal.returns-in-Ok-None-clause-asks
returns-in-Ok-None-clause-asks g c =
    let going : c.args.self.now.stage ≡ Over → ⊥ = search rules in
    asks_behind c.args.self.now c.frame.new.self c.read_on.new.self (g.W.Wire.past c.args.wire.now) (g.W.Wire.past c.read_on.new.wire)
    c.read_on.result going (rw c.in-Ok-None.field-0-is at c.in-Ok-None.ensures.frames) c.read_on.ensures.asks

pub returns-in-Err-clause-asks : goal.returns-in-Err-clause-asks
returns-in-Err-clause-asks g c =
    asks_refused c.args.self.now c.frame.new.self (g.W.Wire.past c.args.wire.now) c.in-Err.fault (search rules) c.frame.ensures.waiting
    c.in-Err.ensures.refuses

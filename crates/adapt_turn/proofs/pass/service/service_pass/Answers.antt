-- Over a connection that is held the side makes its pass; without a service or a connection nothing is done.
use Rattle.std.proofs.Common.{inl, inr, refl, sym, ap, ◌∙◌}
use Rattle.adapt_turn.specs.ChosenHead.{wire_of}
use Rattle.adapt_turn.proofs.ServiceOver.{held_is}
use Rattle.adapt_turn.proofs.pass.service.service_pass.Goals as goal

pub returns-in-Some-wire-clause-passes : goal.returns-in-Some-wire-clause-passes
returns-in-Some-wire-clause-passes g c = record {
  did = inr (
    c.in-Some.line.side,
    c.held_pass.new.service,
    c.in-Some-wire.wire,
    c.held_pass.new.wire,
    held_is _ _ _ c.in-Some.is c.in-Some-wire.is,
    refl,
    c.held_pass.ensures.passes,
  );
}

pub returns-in-None-wire-clause-passes : goal.returns-in-None-wire-clause-passes
returns-in-None-wire-clause-passes g c = record {
  did = inl (
    ap wire_of c.in-Some.is ∙ c.in-None-wire.is,
    sym c.in-Some.is,
    refl,
    c.idle.ensures,
  );
}

pub returns-in-None-clause-passes : goal.returns-in-None-clause-passes
returns-in-None-clause-passes g c = record { did = inl (ap wire_of c.in-None.is, refl, refl, c.idle-in-None.ensures) }

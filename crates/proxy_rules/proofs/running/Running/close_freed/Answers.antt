-- The wires stay accounted for where the service's connection is closed, with that connection as it was then.
use Rattle.std.proofs.Common.{refl}
use Rattle.proxy_rules.specs.Since.{held_or, freed_wire}
use Rattle.proxy_rules.proofs.running.Running.close_freed.Goals as goal

pub returns-in-Some : goal.returns-in-Some
returns-in-Some g c = record {
  renews = λ s h. (
    s.line,
    held_or (freed_wire c.take_freed.result) s.given,
    refl,
    c.take_freed.ensures.lasts s h,
  );
}

pub returns-in_default : goal.returns-in_default
returns-in_default g c = record {
  renews = λ s h. (
    s.line,
    held_or (freed_wire c.take_freed.result) s.given,
    refl,
    c.take_freed.ensures.lasts s h,
  );
}

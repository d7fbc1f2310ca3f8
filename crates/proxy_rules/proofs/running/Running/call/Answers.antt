-- At each call the wires stay accounted for, and only a retry may put another connection in place of the service's.
use Rattle.std.proofs.Common.{inl, refl}
use Rattle.proxy_rules.proofs.CallLemmas.{fresh_call}
use Rattle.proxy_rules.proofs.running.Running.call.Goals as goal

pub returns-in-Turn : goal.returns-in-Turn
returns-in-Turn g c = record { renews = λ s h. (s.line, s.given, inl refl, c.turn.ensures.lasts s h) }

pub returns-in-Halt : goal.returns-in-Halt
returns-in-Halt g c = record { renews = λ s h. (s.line, s.given, inl refl, c.halt.ensures.lasts s h) }

pub returns-in-Retry : goal.returns-in-Retry
returns-in-Retry g c = record {
  renews = λ s h. let w = c.renew.ensures.renews s h in
      (w.0, w.1, fresh_call s.line c.args.call.now _ _ w.0 c.in-Retry.is c.take.ensures.value w.2, w.3);
}

pub returns-in-TakeBroken : goal.returns-in-TakeBroken
returns-in-TakeBroken g c = record { renews = λ s h. let w = c.close_broken.ensures.renews s h in (w.0, w.1, inl w.2, w.3) }

pub returns-in-FailUnretried : goal.returns-in-FailUnretried
returns-in-FailUnretried g c = record { renews = λ s h. (s.line, s.given, inl refl, c.fail_broken.ensures.lasts s h) }

pub returns-in-TakeFreed : goal.returns-in-TakeFreed
returns-in-TakeFreed g c = record { renews = λ s h. let w = c.close_freed.ensures.renews s h in (w.0, w.1, inl w.2, w.3) }

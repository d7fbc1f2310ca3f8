-- The loop ran, or nothing was done.
use Rattle.std.proofs.Common.{◌≡◌, Some, None, refl}
use Rattle.event_loop.specs.declared.ended.LoopFault.{LoopFault}
use Rattle.event_loop.proofs.Running.{ran_nothing, ran_same}
use Rattle.event_loop.proofs.threads.run_loop.Goals as goal

-- some fault isn't none
some_none : {fault : LoopFault} → Some fault ≡ None → ⊥
some_none e = cc

pub returns-in-Ok-new : goal.returns-in-Ok-new
returns-in-Ok-new g c =
    ran_same g.K.Work c.args.work c.in-Ok-new.one.work c.run_out-fault.new.self.work c.into_work.result c.in-Ok-new.ensures.work
    c.into_work.ensures
    (λ deeds halted none. halted) (c.run_out-fault.ensures c.in-Ok-new.ensures.tied)

pub returns-in-Ok-2 : goal.returns-in-Ok-2
returns-in-Ok-2 g c =
    ran_same g.K.Work c.args.work c.in-Ok-new.one.work c.in-Ok-new.one.work c.into_work-in-Ok-2.result c.in-Ok-new.ensures.work
    c.into_work-in-Ok-2.ensures
    (λ deeds p. p) (ran_nothing g.K.Work c.in-Ok-new.one.work (λ none. absurd (some_none none)))

pub returns-in-Err : goal.returns-in-Err
returns-in-Err g c =
    ran_same g.K.Work c.args.work c.in-Err.work c.in-Err.work c.in-Err.work c.in-Err.ensures.back refl
    (λ deeds p. p) (ran_nothing g.K.Work c.in-Err.work (λ none. absurd (some_none none)))

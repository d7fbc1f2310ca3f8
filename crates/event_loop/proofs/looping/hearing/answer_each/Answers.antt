-- The work answers one after another, or the loop itself does.
use Rattle.std.proofs.Common.{refl}
use Rattle.event_loop.proofs.Turning.{answers_one, answers_then}
use Rattle.event_loop.proofs.looping.hearing.answer_each.Goals as goal
use Rattle.event_loop.proofs.looping.hearing.answer_each.Goals.{in-Some-Bad, in-Some+in-Ok, in-Some+in-Err, in-None}

pub loop-key-preserved : goal.loop-key-preserved
loop-key-preserved g c =
    elim c.match-request.branch [
      | in-Some-Bad w ↦ rw w.work-is c.loop-key.invariant
      | in-Some+in-Ok w ↦
          rw w.work-is
          (answers_then g.K.Work c.args.work.now c.loop-key.work _ c.loop-key.invariant
          (answers_one g.K.Work c.loop-key.work _ _ w.answer.ensures.past (λ x key. (refl, refl, tt)) w.answer.ensures.kept))
      | in-Some+in-Err w ↦
          rw w.work-is
          (answers_then g.K.Work c.args.work.now c.loop-key.work _ c.loop-key.invariant
          (answers_one g.K.Work c.loop-key.work _ _ w.answer.ensures.past (λ x key. (refl, refl, tt)) w.answer.ensures.kept))
      | in-None w ↦ rw w.work-is c.loop-key.invariant
    ]

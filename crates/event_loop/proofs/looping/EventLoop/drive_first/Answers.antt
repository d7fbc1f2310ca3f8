-- One queue after another is asked.
use Rattle.std.proofs.Common.{Some, None, [], ◌∷◌, inl, inr, refl}
use Rattle.event_loop.specs.Deeds.Deed.{Asked}
use Rattle.event_loop.specs.Turns.{Stands}
use Rattle.event_loop.proofs.Turning.{did_then, did_and, did_behind, did_fail, did_due, did_is, does_one, stands_newest}
use Rattle.event_loop.proofs.Serving.{asked_below}
use Rattle.event_loop.proofs.looping.EventLoop.drive_first.Goals as goal
use Rattle.event_loop.proofs.looping.EventLoop.drive_first.Goals.{in-Some+in_ok-drive, in_default}

pub loop-queue-preserved : goal.loop-queue-preserved
loop-queue-preserved g c =
    elim c.match-first_of.branch [
      | in-Some+in_ok-drive w ↦
          rw w.self-is
          (did_then g.K.Work c.args.self.now c.loop-queue.self w.drive.new.self c.loop-queue.invariant
          (did_due g.K.Work c.loop-queue.self _ w.drive.new.self (Asked c.loop-queue.queue (Some w.in-Some.key)) w.in-Some.key
          (does_one g.K.Work c.loop-queue.self _ (Asked c.loop-queue.queue (Some w.in-Some.key)) w.in-Some.ensures.past
          (λ x key. (refl, refl, tt)) w.in-Some.ensures.kept refl refl)
          w.in_ok-drive.ensures)
          (λ first second f d tied p q. asked_below g.K.Work c.loop-queue.self w.drive.new.self c.loop-queue.queue first second d tied p
          (inr (w.in-Some.key, q))))
      | in_default w ↦
          rw w.self-is
          (did_then g.K.Work c.args.self.now c.loop-queue.self _ c.loop-queue.invariant
          (did_is g.K.Work c.loop-queue.self _ {P = λ deeds. Stands (Asked c.loop-queue.queue None) deeds}
          (Asked c.loop-queue.queue None ∷ [])
          (does_one g.K.Work c.loop-queue.self _ (Asked c.loop-queue.queue None) w.in_default.ensures.past (λ x key. (refl, refl, tt))
          w.in_default.ensures.kept refl refl)
          (stands_newest (Asked c.loop-queue.queue None) []))
          (λ first second f d tied p q. asked_below g.K.Work c.loop-queue.self _ c.loop-queue.queue first second d tied p (inl q)))
    ]

pub returns-in_err-drive : goal.returns-in_err-drive
returns-in_err-drive g c =
    did_fail g.K.Work c.args.self.now c.drive.new.self _ c.from_residual.result c.from_residual.ensures.0
    (did_and g.K.Work c.args.self.now c.loop-queue.self c.drive.new.self c.loop-queue.invariant
    (did_behind g.K.Work c.loop-queue.self _ c.drive.new.self
    (does_one g.K.Work c.loop-queue.self _ (Asked c.loop-queue.queue (Some c.in-Some.key)) c.in-Some.ensures.past
    (λ x key. (refl, refl, tt)) c.in-Some.ensures.kept refl refl)
    c.drive.ensures))

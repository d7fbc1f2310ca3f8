-- One event after another is noted.
use Rattle.std.proofs.Common.{refl}
use Rattle.event_loop.proofs.Turning.{did_and, did_behind, did_more, did_start, does_one}
use Rattle.event_loop.proofs.looping.EventLoop.drive_seen.Goals as goal
use Rattle.event_loop.proofs.looping.EventLoop.drive_seen.Goals.{in-Some+in-Some-note+in_ok-drive, in_default, in_default-via-in-None-1}
use Rattle.event_loop.proofs.looping.EventLoop.drive_seen.Goals.{in_default-via-in-Some+in-None-1}

pub loop-at-preserved : goal.loop-at-preserved
loop-at-preserved g c =
    elim c.match-peer_of.branch [
      | in-Some+in-Some-note+in_ok-drive w ↦
          rw w.self-is
          (did_and g.K.Work c.args.self.now c.loop-at.self w.drive.new.self c.loop-at.invariant
          (did_behind g.K.Work c.loop-at.self _ w.drive.new.self (does_one g.K.Work c.loop-at.self _ _ w.note.ensures.past
          (λ x key. (refl, refl, tt)) w.note.ensures.kept refl refl) w.drive.ensures))
      | in_default w ↦
          elim w.in_default.branch [
            | in_default-via-in-None-1 w' ↦ rw w.self-is (rw w'.self-is c.loop-at.invariant)
            | in_default-via-in-Some+in-None-1 w' ↦ rw w.self-is (rw w'.self-is
                (did_more g.K.Work c.args.self.now c.loop-at.self _ c.loop-at.invariant
                (does_one g.K.Work c.loop-at.self _ _ w'.note.ensures.past (λ x key. (refl, refl, tt)) w'.note.ensures.kept refl refl)))
          ]
    ]

pub loop-at-init : goal.loop-at-init
loop-at-init g c = did_start g.K.Work c.args.self.now tt

pub returns-in_err-drive : goal.returns-in_err-drive
returns-in_err-drive g c =
    did_and g.K.Work c.args.self.now c.loop-at.self c.drive.new.self c.loop-at.invariant
    (did_behind g.K.Work c.loop-at.self _ c.drive.new.self (does_one g.K.Work c.loop-at.self _ _ c.note.ensures.past
    (λ x key. (refl, refl, tt)) c.note.ensures.kept refl refl) c.drive.ensures)

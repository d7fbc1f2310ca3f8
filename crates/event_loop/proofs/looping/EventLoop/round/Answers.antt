-- A poll, and then a turn.
use Rattle.std.proofs.Common.{List, [], ◌∷◌, refl}
use Rattle.std.specs.Prelude.{⊤}
use Rattle.event_loop.specs.Deeds.{Deed}
use Rattle.event_loop.specs.Deeds.Deed.{Heard}
use Rattle.event_loop.proofs.Turning.{did_and, did_behind, did_is, did_start, does_then}
use Rattle.event_loop.proofs.Serving.{round_served, polled_did}
use Rattle.event_loop.proofs.looping.EventLoop.round.Goals as goal

pub returns-clause-serves : goal.returns-clause-serves
returns-clause-serves g c still =
    round_served g.K.Work c.args.self.now _ c.begin_turn.new.self c.wait_for_all.new.self c.turn.new.self c.drive_late.new.self
    c.now-before.result
    refl refl c.now-before.ensures c.in_ok-wait.ensures c.begin_turn.ensures c.wait_for_all.ensures c.in_ok-turn.ensures
    c.in_ok-drive_late.ensures

pub returns-in_err-wait-clause-any : goal.returns-in_err-wait-clause-any
returns-in_err-wait-clause-any g c = polled_did g.K.Work c.args.self.now _ _ refl refl
    (did_start g.K.Work _ {P = λ (deeds : List Deed). ⊤} tt)

pub returns-in_err-begin_turn-clause-any : goal.returns-in_err-begin_turn-clause-any
returns-in_err-begin_turn-clause-any g c =
    polled_did g.K.Work c.args.self.now _ c.begin_turn.new.self refl refl
    (did_is g.K.Work _ c.begin_turn.new.self {P = λ (deeds : List Deed). ⊤} _ c.begin_turn.ensures tt)

pub returns-then-is_stopping-clause-any : goal.returns-then-is_stopping-clause-any
returns-then-is_stopping-clause-any g c =
    polled_did g.K.Work c.args.self.now _ c.begin_turn.new.self refl refl
    (did_is g.K.Work _ c.begin_turn.new.self {P = λ (deeds : List Deed). ⊤} _ c.begin_turn.ensures tt)

pub returns-in_err-wait_for_all-clause-any : goal.returns-in_err-wait_for_all-clause-any
returns-in_err-wait_for_all-clause-any g c =
    polled_did g.K.Work c.args.self.now _ c.wait_for_all.new.self refl refl
    (did_is g.K.Work _ c.wait_for_all.new.self {P = λ (deeds : List Deed). ⊤} _
    (does_then g.K.Work _ c.begin_turn.new.self c.wait_for_all.new.self (Heard _ ∷ []) [] c.begin_turn.ensures c.wait_for_all.ensures) tt)

pub returns-in_err-turn-clause-any : goal.returns-in_err-turn-clause-any
returns-in_err-turn-clause-any g c =
    polled_did g.K.Work c.args.self.now _ c.turn.new.self refl refl
    (did_behind g.K.Work _ c.wait_for_all.new.self c.turn.new.self
    (does_then g.K.Work _ c.begin_turn.new.self c.wait_for_all.new.self (Heard _ ∷ []) [] c.begin_turn.ensures c.wait_for_all.ensures)
    c.turn.ensures)

pub returns-in_err-drive_late-clause-any : goal.returns-in_err-drive_late-clause-any
returns-in_err-drive_late-clause-any g c =
    polled_did g.K.Work c.args.self.now _ c.drive_late.new.self refl refl
    (did_and g.K.Work _ c.turn.new.self c.drive_late.new.self
    (did_behind g.K.Work _ c.wait_for_all.new.self c.turn.new.self
    (does_then g.K.Work _ c.begin_turn.new.self c.wait_for_all.new.self (Heard _ ∷ []) [] c.begin_turn.ensures c.wait_for_all.ensures)
    c.turn.ensures)
    c.drive_late.ensures)

pub returns-clause-any : goal.returns-clause-any
returns-clause-any g c =
    polled_did g.K.Work c.args.self.now _ c.drive_late.new.self refl refl
    (did_and g.K.Work _ c.turn.new.self c.drive_late.new.self
    (did_behind g.K.Work _ c.wait_for_all.new.self c.turn.new.self
    (does_then g.K.Work _ c.begin_turn.new.self c.wait_for_all.new.self (Heard _ ∷ []) [] c.begin_turn.ensures c.wait_for_all.ensures)
    c.turn.ensures)
    c.drive_late.ensures)

-- A turn refuses raw bytes, reads after they gave no event, or answers NotLegal where no reply may begin.
use Rattle.std.proofs.Common.{◌≡◌, List, ℕ, [], length, take, subst, rules}
use Rattle.trace_core.specs.declared.history.Event.{Event}
use Rattle.trace_core.specs.History.{shows}
use Rattle.icap_client.specs.Events.{ad_sum}
use Rattle.icap_client.specs.Reading.{SideHears, MayRead, ReadTurn}
use Rattle.icap_client.proofs.ReadTurns.{turn_refused, turn_behind, turn_unheard}
use Rattle.icap_client.proofs.side.ReplySide.frame_or_read.Goals as goal

pub returns-in-Err-clause-turn : goal.returns-in-Err-clause-turn
returns-in-Err-clause-turn g c =
    turn_refused (shows c.args.state.now) c.args.all_sent (length c.args.out.now) c.args.self.now c.frame_raw.new.self
    (g.W.Wire.past c.args.wire.now) c.frame_raw.new.out c.in-Err.fault c.in-Err.ensures.kept c.in-Err.ensures.refuses

pub returns-then-seen-clause-turn : goal.returns-then-seen-clause-turn
returns-then-seen-clause-turn g c =
    let may : MayRead (shows c.args.state.now) c.args.all_sent = search rules in
    let none : c.in-Ok.events.items ≡ [] = search rules in
    let still : SideHears (shows c.args.state.now) c.args.self.now c.frame_raw.new.self [] [] [] =
    subst (λ (es : List Event). SideHears (shows c.args.state.now) c.args.self.now c.frame_raw.new.self es []
    (take (ad_sum es) c.frame_raw.new.out)) none c.in-Ok.ensures.hears in
    turn_behind (shows c.args.state.now) c.args.all_sent (length c.args.out.now) c.args.self.now c.frame_raw.new.self c.read_wire.new.self
    (g.W.Wire.past c.args.wire.now) (g.W.Wire.past c.read_wire.new.wire) c.read_wire.new.out c.read_wire.result still
    (subst (λ (n : ℕ). ReadTurn (shows c.args.state.now) c.args.all_sent n c.frame_raw.new.self c.read_wire.new.self
    (g.W.Wire.past c.args.wire.now) (g.W.Wire.past c.read_wire.new.wire) c.read_wire.new.out c.read_wire.result) c.frame_raw.auto.out
    (c.read_wire.ensures.turn c.args.all_sent may))

pub returns-clause-turn : goal.returns-clause-turn
returns-clause-turn g c =
    let may : MayRead (shows c.args.state.now) c.args.all_sent = search rules in
    let none : c.in-Ok.events.items ≡ [] = search rules in
    let still : SideHears (shows c.args.state.now) c.args.self.now c.frame_raw.new.self [] [] [] =
    subst (λ (es : List Event). SideHears (shows c.args.state.now) c.args.self.now c.frame_raw.new.self es []
    (take (ad_sum es) c.frame_raw.new.out)) none c.in-Ok.ensures.hears in
    turn_behind (shows c.args.state.now) c.args.all_sent (length c.args.out.now) c.args.self.now c.frame_raw.new.self c.read_first.new.self
    (g.W.Wire.past c.args.wire.now) (g.W.Wire.past c.read_first.new.wire) c.read_first.new.out c.read_first.result still
    (subst (λ (n : ℕ). ReadTurn (shows c.args.state.now) c.args.all_sent n c.frame_raw.new.self c.read_first.new.self
    (g.W.Wire.past c.args.wire.now) (g.W.Wire.past c.read_first.new.wire) c.read_first.new.out c.read_first.result) c.frame_raw.auto.out
    (c.read_first.ensures.turn c.args.all_sent may))

pub returns-then-not-may-clause-turn : goal.returns-then-not-may-clause-turn
returns-then-not-may-clause-turn g c =
    let none : c.in-Ok.events.items ≡ [] = search rules in
    let still : SideHears (shows c.args.state.now) c.args.self.now c.frame_raw.new.self [] [] [] =
    subst (λ (es : List Event). SideHears (shows c.args.state.now) c.args.self.now c.frame_raw.new.self es []
    (take (ad_sum es) c.frame_raw.new.out)) none c.in-Ok.ensures.hears in
    turn_unheard (shows c.args.state.now) c.args.all_sent (length c.args.out.now) c.args.self.now c.frame_raw.new.self
    (g.W.Wire.past c.args.wire.now) c.frame_raw.new.out (search rules) (search rules) (search rules) still

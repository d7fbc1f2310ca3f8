-- A side whose body has ended has nothing left to read. Else kept bytes are framed or refused first; where none can be framed, the turn
-- rests or is that of one read.
use Rattle.std.proofs.Common.{◌≡◌, ◌⊎◌, inl, inr, true, false, List, ℕ, [], length, take, refl, sym, subst, ◌∙◌, rules}
use Rattle.trace_core.specs.Turns.{in_sum}
use Rattle.http_relay.specs.Reading.{SideReads, ReadTurn}
use Rattle.adapt_sides.specs.declared.turn.Turn.{Turn}
use Rattle.http_relay.proofs.Turning.{turn_idle, turn_over, turn_spoke, turn_refused, turn_behind}
use Rattle.http_relay.proofs.side.SourceSide.frame_or_read.Goals as goal
use Rattle.http_relay.proofs.side.SourceSide.frame_or_read.Goals.{then-has_ended-2-via-then-has_ended-2}
use Rattle.http_relay.proofs.side.SourceSide.frame_or_read.Goals.{then-has_ended-2-via-else-has_ended-2+then-is_empty}
use Rattle.std.proofs.lemmas.Bool.{eqb-true}
use Rattle.trace_core.specs.declared.history.Event.{Event}

pub returns-then-has_ended-clause-turn : goal.returns-then-has_ended-clause-turn
returns-then-has_ended-clause-turn g c =
    let none : c.new.result.items ≡ [] = search rules in
    turn_over (length c.args.out.now) c.args.self.now (g.W.Wire.past c.args.wire.now) c.args.out.now
    (record { events = c.new.result; waiting = true }) refl none (sym c.has_ended.ensures ∙ c.if-has_ended.true)

pub returns-in-Err-clause-turn : goal.returns-in-Err-clause-turn
returns-in-Err-clause-turn g c =
    let framed = c.frame_raw.new.self in
    turn_refused (length c.args.out.now) c.args.self.now framed (g.W.Wire.past c.args.wire.now) c.frame_raw.new.out
    c.in-Err.fault c.in-Err.ensures.err c.in-Err.ensures.refuses

pub returns-then-not-is_empty-clause-turn : goal.returns-then-not-is_empty-clause-turn
returns-then-not-is_empty-clause-turn g c =
    turn_spoke (length c.args.out.now) c.args.self.now c.frame_raw.new.self (g.W.Wire.past c.args.wire.now) c.frame_raw.new.out
    (record { events = c.in-Ok.events; waiting = false }) c.in-Ok.ensures.reads c.in-Ok.ensures.ends c.in-Ok.ensures.room refl
    (λ none. search rules)

pub returns-then-has_ended-2-clause-turn : goal.returns-then-has_ended-2-clause-turn
returns-then-has_ended-2-clause-turn g c =
    let framed = c.frame_raw.new.self in
    let none : c.in-Ok.events.items ≡ [] = search rules in
    let t : Turn = record { events = c.in-Ok.events; waiting = true } in
    let long : length c.frame_raw.new.out ≡ length c.args.out.now = c.frame_raw.auto.out in
    let rests : (framed.body.ended ≡ true) ⊎ (length c.args.out.now ≡ 0) = elim c.then-has_ended-2.branch [
      | then-has_ended-2-via-then-has_ended-2 w ↦ inl (sym c.has_ended-2.ensures ∙ w.if-has_ended-2.true)
      | then-has_ended-2-via-else-has_ended-2+then-is_empty w ↦
          inr (sym long ∙ eqb-true (length c.frame_raw.new.out) 0 (sym w.is_empty-else-has_ended-2.ensures ∙ w.if-is_empty.true))
    ] in
    turn_idle (length c.args.out.now) c.args.self.now framed (g.W.Wire.past c.args.wire.now) c.frame_raw.new.out t
    c.in-Ok.ensures.reads c.in-Ok.ensures.ends c.in-Ok.ensures.room refl none (c.in-Ok.ensures.waits none) rests

pub returns-clause-turn : goal.returns-clause-turn
returns-clause-turn g c =
    let framed = c.frame_raw.new.self in
    let none : c.in-Ok.events.items ≡ [] = search rules in
    let still : SideReads c.args.self.now framed [] [] [] false =
    subst (λ (es : List Event). SideReads c.args.self.now framed es [] (take (in_sum es) c.frame_raw.new.out) false) none
    c.in-Ok.ensures.reads in
    let going : framed.body.ended ≡ false = search rules in
    turn_behind (length c.args.out.now) c.args.self.now framed c.read_wire.new.self (g.W.Wire.past c.args.wire.now)
    (g.W.Wire.past c.read_wire.new.wire) c.read_wire.new.out c.read_wire.result still going
    (subst (λ (n : ℕ). ReadTurn n framed c.read_wire.new.self (g.W.Wire.past c.args.wire.now)
    (g.W.Wire.past c.read_wire.new.wire) c.read_wire.new.out c.read_wire.result) c.frame_raw.auto.out c.read_wire.ensures.turn)

pub returns-then-runs_past-clause-turn : goal.returns-then-runs_past-clause-turn
returns-then-runs_past-clause-turn g c =
    let framed = c.frame_raw.new.self in
    let none : c.in-Ok.events.items ≡ [] = search rules in
    let still : SideReads c.args.self.now framed [] [] [] false =
    subst (λ (es : List Event). SideReads c.args.self.now framed es [] (take (in_sum es) c.frame_raw.new.out) false) none
    c.in-Ok.ensures.reads in
    let going : framed.body.ended ≡ false = search rules in
    turn_behind (length c.args.out.now) c.args.self.now framed c.read_straight.new.self (g.W.Wire.past c.args.wire.now)
    (g.W.Wire.past c.read_straight.new.wire) c.read_straight.new.out c.read_straight.result still going
    (subst (λ (n : ℕ). ReadTurn n framed c.read_straight.new.self (g.W.Wire.past c.args.wire.now)
    (g.W.Wire.past c.read_straight.new.wire) c.read_straight.new.out c.read_straight.result) c.frame_raw.auto.out
    c.read_straight.ensures.turn)

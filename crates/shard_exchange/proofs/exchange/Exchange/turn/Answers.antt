-- After a round the message moves on, or is over as its transaction ended, or as the deadline passed with nothing moved.
use Rattle.std.proofs.Common.{◌≡◌, ◌⊎◌, inl, inr, Bool, Option, true, false, ◌&&◌, ◌||◌, subst, sym, ap, ◌∙◌, refl, arith}
use Rattle.std.proofs.lemmas.Bool.{false≢true}
use Rattle.std.proofs.lemmas.Bool.Decides.{nat_tests}
use Rattle.exchange_core.specs.declared.connection.Connection.{Connection}
use Rattle.exchange_core.specs.declared.connection.Connection.TheVariants.{Absent, Ready, InUse, Spent}
use Rattle.exchange_core.specs.declared.state.CourseState.{CourseState}
use Rattle.exchange_core.specs.declared.due.Due.TheVariants.{Turn}
use Rattle.exchange_core.specs.declared.event.Event.TheVariants.{Renewed, Withdrawn}
use Rattle.exchange_core.specs.declared.phase.Phase.{Phase}
use Rattle.exchange_core.specs.declared.phase.Phase.TheVariants.{Moving}
use Rattle.exchange_core.specs.Course.{after, renewed}
use Rattle.exchange_core.specs.Dues.{due_of}
use Rattle.exchange_core.specs.May.{may_come, is_at_gate, is_moving, is_refusing, is_withdrawing}
use Rattle.exchange_core.proofs.Stepping.{goes_on}
use Rattle.shard_exchange.specs.declared.answers.Round.{Round}
use Rattle.shard_exchange.specs.declared.ends.End.{End}
use Rattle.shard_exchange.specs.declared.answers.Round.TheVariants as came
use Rattle.shard_exchange.specs.Ends.{moves, begun_with, served_with, IsServedBy}
use Rattle.shard_exchange.specs.Outcomes.{anew_with, has_answer, is_last, IsOver, IsOverdue, IsTurned}
use Rattle.shard_exchange.proofs.exchange.Exchange.turn.Goals as goal

-- the connection broke, and that was told before what the round came to
pub returns-in-Broken-clause-goes : goal.returns-in-Broken-clause-goes
returns-in-Broken-clause-goes g c = goes_on _ _ _ c.take.ensures.goes c.note_round-in-Broken.ensures.goes

-- a connection that broke was in use, and so is the fresh one in its place
served_anew : (usable : Bool) (old new : Connection) → IsServedBy usable (renewed old) new → IsServedBy usable old new
served_anew usable Absent new h = h
served_anew usable (Ready reused) new h = h
served_anew usable (InUse reused) Absent h = h
served_anew usable (InUse reused) (Ready again) h = h
served_anew usable (InUse reused) (InUse again) h = h
served_anew usable (InUse reused) Spent h = h
served_anew usable Spent new h = h

-- a phase in which a message moves is no refusal
not_refusing : (p : Phase) → is_moving p ≡ true → is_refusing p ≡ false
not_refusing (Moving point offered) h = refl
not_refusing _ h = cc

-- a phase in which a message moves is no withdrawal
not_withdrawing : (p : Phase) → is_moving p ≡ true → is_withdrawing p ≡ false
not_withdrawing (Moving point offered) h = refl
not_withdrawing _ h = cc

-- a message that moves can't be one that is neither at the gate nor moving
still_moves : (gate moving : Bool) → moving ≡ true → (gate || moving) ≡ false → false ≡ true
still_moves true moving h k = sym k
still_moves false moving h k = sym k ∙ h

-- where a round of turns is due, the message moves
turning : (c : CourseState) → due_of c ≡ Turn → is_moving c.phase ≡ true
turning c due = grind (arith, nat_tests)

-- what a round came to that isn't over
record Noted (answered usable : Bool) (mid new : CourseState) : Type 0 where
  phase : new.phase ≡ mid.phase
  begun : new.begun ≡ (mid.begun || (answered && has_answer mid.phase))
  served : IsServedBy usable mid.connection new.connection

-- what a round came to over a fresh connection, it came to over the broken one in whose place that stands
noted_anew : (answered usable : Bool) (old new : CourseState) → Noted answered usable (after old Renewed) new
    → Noted answered usable old new
noted_anew answered usable old new n = record {
  phase = n.phase;
  begun = n.begun;
  served = served_anew usable old.connection new.connection n.served;
}

-- what a round came to, it came to from the course before it, also where its connection broke
from_round : (answered usable : Bool) (round : Round) (old new : CourseState) → Noted answered usable (anew_with round old) new
    → Noted answered usable old new
from_round answered usable came.Broken old new n = noted_anew answered usable old new n
from_round answered usable (came.Moved framing) old new n = n
from_round answered usable came.Waiting old new n = n
from_round answered usable came.Over old new n = n

-- where the connection didn't break, the course is as before
still_is : (round : Round) (old : CourseState) → (round ≡ came.Broken → ⊥) → old ≡ anew_with round old
still_is came.Broken old on = absurd (on refl)
still_is (came.Moved framing) old on = refl
still_is came.Waiting old on = refl
still_is came.Over old on = refl

-- where it broke, the course is told so
anew_is : (round : Round) (old mid : CourseState) → round ≡ came.Broken → mid ≡ after old Renewed → mid ≡ anew_with round old
anew_is came.Broken old mid broke anew = anew
anew_is _ old mid broke anew = cc

-- a round that isn't the last, and after which the message moves, is a turn of that message
moving_on : {H O : Type 0} (rounds : H → H → O → Round → Type 0) (frees : H → Option Bool → Type 0) (answered reusable : H → Bool)
    (ends : H → Bool → End → Type 0) (follows : H → O → End → Type 0) (repeats : H → Type 0) (late : O → Bool) (held turned : H) (later : O)
    (round : Round)
    (old mid new : CourseState)
    → is_moving old.phase ≡ true → rounds held turned later round → (is_last (late later) round ≡ true → ⊥) → mid ≡ anew_with round old
    → (usable : Option Bool) × frees turned usable × (new ≡ served_with usable (begun_with (answered turned) mid))
    → Noted (answered turned) (reusable turned) mid new
    → IsTurned rounds frees answered reusable ends follows repeats late held old new
moving_on rounds frees answered reusable ends follows repeats late held turned later round old mid new moved r on same f here =
    let n = from_round (answered turned) (reusable turned) round old new
    (subst (λ (c : CourseState). Noted (answered turned) (reusable turned) c new) same here) in
    let moves = ap (λ (p : Phase). is_moving p) n.phase ∙ moved in
    record {
      turned = turned;
      later = later;
      round = round;
      taken = r;
      freed = λ m. subst (λ (c : CourseState). (usable : Option Bool) × frees turned usable
          × (new ≡ served_with usable (begun_with (answered turned) c))) same f;
      begun = λ m. n.begun;
      alone = λ a. not_refusing new.phase moves;
      served = n.served;
      withdrawn = λ w. absurd (false≢true (sym (not_withdrawing new.phase moves) ∙ w));
      last = λ l. absurd (on l);
      over = λ m. absurd (false≢true (still_moves (is_at_gate new.phase) (is_moving new.phase) moves m));
    }

pub returns-in-Moved-clause-turned : goal.returns-in-Moved-clause-turned
returns-in-Moved-clause-turned g c =
    let noted = c.note_round-in-Moved.ensures in
    moving_on _ _ _ _ _ _ _ (λ out. g.H.Effects.is_late out c.args.at.now) _ c.round.new.self c.round.new.out c.round.result _ _ _
    (turning c.args.self.now.course c.requires.due) c.round.ensures.rounds
    (subst (λ (r : Round). is_last (g.H.Effects.is_late c.round.new.out c.args.at.now) r ≡ true → ⊥) (sym c.in-Moved.is) (λ e. cc))
    (still_is c.round.result c.args.self.now.course (subst (λ (r : Round). r ≡ came.Broken → ⊥) (sym c.in-Moved.is) (λ e. cc)))
    noted.freed
    (record { phase = noted.phase; begun = noted.begun; served = noted.served })

pub returns-in-Broken-clause-turned : goal.returns-in-Broken-clause-turned
returns-in-Broken-clause-turned g c =
    let noted = c.note_round-in-Broken.ensures in
    moving_on _ _ _ _ _ _ _ (λ out. g.H.Effects.is_late out c.args.at.now) _ c.round.new.self c.round.new.out c.round.result _ _ _
    (turning c.args.self.now.course c.requires.due) c.round.ensures.rounds
    (subst (λ (r : Round). is_last (g.H.Effects.is_late c.round.new.out c.args.at.now) r ≡ true → ⊥) (sym c.in-Broken.is) (λ e. cc))
    (anew_is c.round.result c.args.self.now.course c.take.new.self c.in-Broken.is c.take.ensures.after)
    noted.freed
    (record { phase = noted.phase; begun = noted.begun; served = noted.served })

-- each wire waits, and the deadline hasn't passed
pub returns-else-not-note_round-clause-turned : goal.returns-else-not-note_round-clause-turned
returns-else-not-note_round-clause-turned g c =
    let noted = c.note_round.ensures in
    let early : g.H.Effects.is_late c.round.new.out c.args.at.now ≡ false = sym c.is_late.ensures ∙ c.if-is_late.false in
    moving_on _ _ _ _ _ _ _ (λ out. g.H.Effects.is_late out c.args.at.now) _ c.round.new.self c.round.new.out c.round.result _ _ _
    (turning c.args.self.now.course c.requires.due) c.round.ensures.rounds
    (subst (λ (r : Round). is_last (g.H.Effects.is_late c.round.new.out c.args.at.now) r ≡ true → ⊥) (sym c.in-Waiting.is)
    (λ late. absurd (false≢true (sym early ∙ late))))
    (still_is c.round.result c.args.self.now.course (subst (λ (r : Round). r ≡ came.Broken → ⊥) (sym c.in-Waiting.is) (λ e. cc)))
    noted.freed
    (record { phase = noted.phase; begun = noted.begun; served = noted.served })

-- what a message came to that is over
ended_there : {H O : Type 0} (rounds : H → H → O → Round → Type 0) (frees : H → Option Bool → Type 0) (answered reusable : H → Bool)
    (ends : H → Bool → End → Type 0) (follows : H → O → End → Type 0) (repeats : H → Type 0) (late : O → Bool) (held turned : H) (later : O)
    (round : Round) (old new : CourseState)
    → rounds held turned later round → moves new ≡ false → IsServedBy (reusable turned) old.connection new.connection
    → (answered turned ≡ true → is_refusing new.phase ≡ false)
    → (is_withdrawing new.phase ≡ true → repeats turned × (answered turned ≡ false) × (may_come old Withdrawn ≡ true))
    → IsOver (ends turned (may_come old Withdrawn)) (follows turned later) (answered turned) (reusable turned) round old new
    ⊎ IsOverdue late (follows turned later) (answered turned) (reusable turned) round old new
    → IsTurned rounds frees answered reusable ends follows repeats late held old new
ended_there rounds frees answered reusable ends follows repeats late held turned later round old new r over s a w e = record {
  turned = turned;
  later = later;
  round = round;
  taken = r;
  freed = λ m. absurd (false≢true (sym over ∙ m));
  begun = λ m. absurd (false≢true (sym over ∙ m));
  alone = a;
  served = s;
  withdrawn = w;
  last = λ l. over;
  over = λ m. e;
}

-- it ended as its transaction did
pub returns-in-Over-clause-turned : goal.returns-in-Over-clause-turned
returns-in-Over-clause-turned g c =
    let told = c.settle.ensures in
    ended_there _ _ _ _ _ _ _ _ _ c.round.new.self c.round.new.out c.round.result _ _ c.round.ensures.rounds told.over told.served
    told.ended.alone told.withdrawn (inl (record { last = c.in-Over.is; ended = told.ended }))

-- or the deadline passed
pub returns-then-is_late-clause-turned : goal.returns-then-is_late-clause-turned
returns-then-is_late-clause-turned g c =
    let told = c.settle-then-is_late.ensures in
    ended_there _ _ _ _ _ _ _ _ _ c.round.new.self c.round.new.out c.round.result _ _ c.round.ensures.rounds told.over told.served
    told.ended.alone told.withdrawn
    (inr (record {
      out = c.round.new.out;
      is_late = sym c.is_late.ensures ∙ c.if-is_late.true;
      still = c.in-Waiting.is;
      ended = told.ended;
    }))

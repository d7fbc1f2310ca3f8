-- What a pass steps, and that one which moved no byte steps something.
use Rattle.std.proofs.Common.{◌≡◌, ℕ, ◌+◌, Bool, true, false, ◌||◌, List, [], ◌∷◌, ◌++◌, length, take, drop, Option, Some, None, arith}
use Rattle.std.proofs.Common.{refl, sym, ◌∙◌, ap, subst}
use Rattle.std.proofs.lemmas.Bool.{false≢true}
use Rattle.std.proofs.lemmas.List.{length-append, length-drop, length-take-le}
use Rattle.trace_core.specs.declared.history.Seen.{Seen}
use Rattle.trace_core.specs.declared.history.Event.{Event}
use Rattle.trace_core.specs.declared.history.Event.TheVariants.{Fail}
use Rattle.trace_core.specs.declared.history.Cause.{Cause}
use Rattle.trace_core.specs.View.{after}
use Rattle.trace_core.specs.Turns.{MayAllFollow, AllAre, is_of_source, is_of_sending, is_of_replies, is_of_hop}
use Rattle.wire_kit.specs.Past.{Past, IsLater}
use Rattle.adapt_hold.specs.Holding.{Holding, IsTied, shows, moved, history_then}
use Rattle.adapt_hold.specs.Steps.{brought, HasRoomFor, MayRun, moved_all}
use Rattle.adapt_hold.proofs.Row.{no_bytes, stays}
use Rattle.adapt_hold.proofs.Closes.{then_shows}
use Rattle.adapt_turn.specs.declared.pass.PassAnswer.{PassAnswer}
use Rattle.adapt_turn.specs.declared.turn.Side.{Side}
use Rattle.adapt_turn.specs.declared.turn.Side.TheVariants.{Source, Service, NextHop}
use Rattle.adapt_turn.specs.Reports.{View, Report, Reported, stepped}
use Rattle.adapt_turn.specs.Rows.{is_fail, may_step, TookAll, TookBy, Advances, BytesOr}
use Rattle.adapt_turn.proofs.Carry.{all_then}

-- Rows.

-- events that may run take a tied holding to the one after all of them, each in its turn
pub took_all : (h : Holding) (events : List Event) (bytes : List ℕ) → IsTied h → MayRun h events bytes
    → TookAll h events (moved_all h events bytes)
took_all h [] bytes t m = refl
took_all h (event ∷ events) bytes t m =
    let n = m.carried in
    let own = take (brought event) bytes in
    let s = stays h event own t m.roomy (m.may.0, m.may.1) (length-take-le (brought event) bytes (omega (arith, n))) m.room.0 in
    let next : Holding = moved h event own in
    let same : shows next.history ≡ after (shows h.history) event =
    then_shows h event (history_then h.history event) t (m.may.0, m.may.1) refl in (
      own,
      next,
      ((m.may.0, m.may.1), refl),
      took_all next events (drop (brought event) bytes) s.tied (record {
        may = subst (λ (x : Seen). MayAllFollow x events) (sym same) m.may.2;
        carried = let d = length-drop (brought event) bytes in omega (arith, d, n);
        room = subst (λ (x : Seen). HasRoomFor x next.claim next.limits.window next.limits.turn events) (sym same) m.room.1;
        roomy = s.roomy;
      }),
    )

-- events that take a holding to another, and further ones from there, take it all the way in a row
took_then : (h m k : Holding) (first others : List Event) → TookAll h first m → TookAll m others k → TookAll h (first ++ others) k
took_then h m k [] others t u = subst (λ (y : Holding). TookAll y others k) t u
took_then h m k (event ∷ events) others t u = (t.0, t.1, t.2, took_then t.1 m k events others t.3 u)

-- two lists of events that each pass a test pass it together
all_both : (test : Event → Bool) (first others : List Event) → AllAre test first → AllAre test others → AllAre test (first ++ others)
all_both test [] others a b = b
all_both test (event ∷ events) others a b = (a.0, all_both test events others a.1 b)

-- at least one step, and then any steps of the same test, are at least one step
advances_then : (test : Event → Bool) (h m k : Holding) → Advances test h m → TookBy test m k → Advances test h k
advances_then test h m k a b = (a.0, a.1 ++ b.0, all_both test (a.0 ∷ a.1) b.0 a.2 b.1, took_then h m k (a.0 ∷ a.1) b.0 a.3 b.2)

-- events of a test that took a holding to another and aren't none are at least one step
some_stepped : (test : Event → Bool) (h k : Holding) (events : List Event) → AllAre test events → TookAll h events k → (events ≡ [] → ⊥)
    → Advances test h k
some_stepped test h k [] o t n = absurd (n refl)
some_stepped test h k (event ∷ events) o t n = (event, events, o, t)

-- a failure is a step
pub fail_advances : (side : Side) (h k : Holding) (cause : Cause) → (shows h.history).closed ≡ false → k ≡ moved h (Fail cause) []
    → Advances (may_step side) h k
fail_advances side h k cause c e = (Fail cause, [], (refl, tt), ([], k, ((c, tt), e), refl))

-- the failure of an open transaction is a row that any side may step
pub took_fail : (side : Side) (h k : Holding) (cause : Cause) → (shows h.history).closed ≡ false → k ≡ moved h (Fail cause) []
    → TookBy (may_step side) h k
took_fail side h k cause c e = let a = fail_advances side h k cause c e in (a.0 ∷ a.1, a.2, a.3)

-- two rows of events that pass a test, one after the other, are a row of such events
pub took_both : (test : Event → Bool) (h m k : Holding) → TookBy test h m → TookBy test m k → TookBy test h k
took_both test h m k a b = (a.0 ++ b.0, all_both test a.0 b.0 a.1 b.1, took_then h m k a.0 b.0 a.2 b.2)

-- The parts of a turn.

-- one of two is so where the second is
or_right : (a b : Bool) → b ≡ true → a || b ≡ true
or_right true b e = refl
or_right false b e = e

-- one of two is so where the first is
or_left : (a b : Bool) → a ≡ true → a || b ≡ true
or_left true b e = refl
or_left false b e = absurd (false≢true e)

-- a turn of the source may step each event of the source
pub of_source : (event : Event) → is_of_source event ≡ true → may_step Source event ≡ true
of_source event e = or_right (is_fail event) (is_of_source event) e

-- a turn of the service may step each event of sending
pub of_sending : (event : Event) → is_of_sending event ≡ true → may_step Service event ≡ true
of_sending event e = or_right (is_fail event) (is_of_sending event || is_of_replies event)
    (or_left (is_of_sending event) (is_of_replies event) e)

-- a turn of the service may step each event of the replies
pub of_replies : (event : Event) → is_of_replies event ≡ true → may_step Service event ≡ true
of_replies event e = or_right (is_fail event) (is_of_sending event || is_of_replies event)
    (or_right (is_of_sending event) (is_of_replies event) e)

-- a turn of the next hop may step each event of the next hop
pub of_hop : (event : Event) → is_of_hop event ≡ true → may_step NextHop event ≡ true
of_hop event e = or_right (is_fail event) (is_of_hop event) e

-- what a pass steps a turn of its side may step
pub reported_took : {F : Type 0} (side : Side) {v : View F} {h k : Holding} {r : Report} {passed : PassAnswer}
    → ((event : Event) → v.events event ≡ true → may_step side event ≡ true) → IsTied h
    → Reported v h k r passed → TookBy (may_step side) h k
reported_took {F} side {v} {h} {k} {r} {passed} i t p = (
  stepped passed.failed r.events,
  all_then v.events (may_step side) i (λ cause. refl) passed.failed r.events p.only,
  subst (λ (y : Holding). TookAll h (stepped passed.failed r.events) y) (sym p.is)
      (took_all h (stepped passed.failed r.events) r.out t p.runs),
)

-- where nothing is stepped there was no failure and nothing reported
none_stepped : (failed : Option Cause) (reported : List Event) → stepped failed reported ≡ [] → (failed ≡ None) × (reported ≡ [])
none_stepped None reported e = (refl, e)
none_stepped (Some cause) reported e = absurd cc

pub record Grown (p q : Past) (given taken : List ℕ) : Type 0 where
  pub read : length q.read ≡ length p.read + length given
  pub out : length q.taken ≡ length p.taken + length taken

-- what a wire gave and took is longer by the bytes that it gave and took since
pub grown : (p q : Past) (given taken : List ℕ) → IsLater p given taken q → Grown p q given taken
grown p q given taken l = record {
  read = ap (λ (bs : List ℕ). length bs) l.read ∙ length-append p.read given;
  out = ap (λ (bs : List ℕ). length bs) l.out ∙ length-append p.taken taken;
}

-- a pass that neither waits nor met a broken connection moved a byte or took at least one step
pub reported_acts : {F : Type 0} (side : Side) {v : View F} {h k : Holding} {r : Report} {passed : PassAnswer}
    → ((event : Event) → v.events event ≡ true → may_step side event ≡ true) → IsTied h
    → Reported v h k r passed
    → passed.waiting ≡ false → passed.broken ≡ false → BytesOr (Advances (may_step side) h k) v.before v.after
reported_acts {F} side {v} {h} {k} {r} {passed} i t p w b = λ past here.
    let u = p.wire past here in
    let g = grown past u.0 r.given r.taken u.2 in
    let gr = g.read in
    let go = g.out in (
      u.0,
      u.1,
      omega (arith, gr),
      omega (arith, go),
      λ z. some_stepped (may_step side) h k (stepped passed.failed r.events)
          (all_then v.events (may_step side) i (λ cause. refl) passed.failed r.events p.only)
          (subst (λ (y : Holding). TookAll h (stepped passed.failed r.events) y) (sym p.is)
          (took_all h (stepped passed.failed r.events) r.out t p.runs)) (λ e.
          let none = none_stepped passed.failed r.events e in
          p.tells.active w b (no_bytes r.given (omega (arith, gr, go, z)), no_bytes r.taken (omega (arith, gr, go, z))) none.1 none.0),
    )

-- a wire that wasn't touched
pub untouched_or : (this : Type 0) (before : Past → Type 0) → this → BytesOr this before before
untouched_or this before t = λ p b. (p, b, omega arith, omega arith, λ z. t)

-- Two passes of the service's side.

-- after a pass that stepped nothing, one that moves a byte or takes a step does so for both together
pub then_acts : (test : Event → Bool) (h m k : Holding) (before mid after_ : Past → Type 0) (given taken : List ℕ) → m ≡ h
    → ((p : Past) → before p → (q : Past) × mid q × IsLater p given taken q) → BytesOr (Advances test m k) mid after_
    → BytesOr (Advances test h k) before after_
then_acts test h m k before mid after_ given taken e goes act = λ p b.
    let u = goes p b in
    let v = act u.0 u.1 in
    let g = grown p u.0 given taken u.2 in
    let gr = g.read in
    let go = g.out in
    let vr = v.2 in
    let vo = v.3 in (
      v.0,
      v.1,
      omega (arith, gr, vr),
      omega (arith, go, vo),
      λ z. subst (λ (y : Holding). Advances test y k) e (v.4 (omega (arith, gr, go, vr, vo, z))),
    )

-- a pass that moved a byte or took a step, and another one after it, did so together
pub acts_then : (test : Event → Bool) (h m k : Holding) (before mid after_ : Past → Type 0) (given taken : List ℕ)
    → BytesOr (Advances test h m) before mid
    → ((p : Past) → mid p → (q : Past) × after_ q × IsLater p given taken q) → TookBy test m k → BytesOr (Advances test h k) before after_
acts_then test h m k before mid after_ given taken act goes later = λ p b.
    let v = act p b in
    let u = goes v.0 v.1 in
    let g = grown v.0 u.0 given taken u.2 in
    let gr = g.read in
    let go = g.out in
    let vr = v.2 in
    let vo = v.3 in
    (u.0, u.1, omega (arith, gr, vr), omega (arith, go, vo), λ z. advances_then test h m k (v.4 (omega (arith, gr, go, vr, vo, z))) later)

-- The writer's pass, after a beginning that changed neither what is held nor a wire.

-- Which side a turn is for.

-- what is so for the source, for the service and for the next hop is so for each side
pub by_side : (side : Side) (this : Side → Type 0) → (side ≡ Source → this Source) → (side ≡ Service → this Service)
    → (side ≡ NextHop → this NextHop) → this side
by_side Source this a b c = a refl
by_side Service this a b c = b refl
by_side NextHop this a b c = c refl

-- What is due of a refusal, and how a turn of a closed transaction writes it.
use Rattle.std.proofs.Common.{◌≡◌, ℕ, inl, inr, Bool, true, false, List, [], ◌∷◌, Option, Some, Result, Ok, arith, refl, sym, ◌∙◌, subst}
use Rattle.std.proofs.lemmas.Bool.{false≢true}
use Rattle.trace_core.specs.declared.history.Seen.{Seen}
use Rattle.trace_core.specs.declared.history.Event.{Event}
use Rattle.trace_core.specs.declared.history.Point.{Point}
use Rattle.trace_core.specs.declared.history.Point.TheVariants.{Reqmod, Respmod}
use Rattle.trace_core.specs.History.{History}
use Rattle.trace_core.specs.Turns.{MayAllFollow}
use Rattle.span_tape.specs.Tape.{Tape}
use Rattle.wire_kit.specs.Past.{Past}
use Rattle.adapt_sides.specs.Turns.{Gives, Gift, FailsGiving, wire_fault}
use Rattle.adapt_sides.specs.Turns.Gift.{message}
use Rattle.adapt_sides.specs.declared.fault.RelayFault.TheVariants as relay
use Rattle.std.specs.Prelude.{is_some}
use Rattle.adapt_sides.specs.declared.fault.RelayFault.{RelayFault}
use Rattle.adapt_sides.specs.declared.turn.Turn.{Turn}
use Rattle.adapt_hold.specs.Holding.{Holding, shows}
use Rattle.adapt_hold.proofs.Row.{no_bytes}
use Rattle.adapt_turn.specs.Stands.{Waited}
use Rattle.adapt_turn.specs.Rows.{BytesOr}
use Rattle.adapt_turn.proofs.Rows.{grown}

-- What is due.

-- a fault that is kept where only the wire's may be is the wire's
pub wire_failed : (f : Option RelayFault) → is_some f ≡ true → f ≡ wire_fault f → f ≡ Some relay.Device
wire_failed (Some relay.Device) s e = refl
wire_failed _ s e = cc

-- a first fault of a refusal is the wire's
pub first_failed : (breaks : Type 0) (gift : Gift) (fault : RelayFault) → (gift ≡ message → ⊥)
    → FailsGiving ((gift ≡ message) × breaks) fault → fault ≡ relay.Device
first_failed breaks gift fault n (inl d) = d
first_failed breaks gift fault n (inr l) = absurd (n l.1.0)

-- nothing is due of an open one
pub none_due : (closed : Bool) (this due : Type 0) → closed ≡ false → (closed ≡ true) × due → this
none_due closed this due o w = absurd (false≢true (sym o ∙ w.0))

-- Its writing.

-- a write of a writer stands by the holding's own history
gives_now : (h : Holding) (history : History) (tape : Tape) (result : Result Turn RelayFault)
    (so sn : Seen → List ℕ → List ℕ → List ℕ → Type 0) (ao an : List ℕ → Type 0) (whole : List ℕ → List ℕ → List ℕ → Type 0)
    (f0 f1 : Option RelayFault) (rests : Seen → Type 0) (before after_ : Past → Type 0)
    → history ≡ h.history → Gives (shows history) tape so sn ao an whole f0 f1 (rests (shows history)) before after_ result
    → Gives (shows h.history) tape so sn ao an whole f0 f1 (rests (shows h.history)) before after_ result
gives_now h history tape result so sn ao an whole f0 f1 rests before after_ he b =
    subst (λ (y : History). Gives (shows y) tape so sn ao an whole f0 f1 (rests (shows y)) before after_ result) he b

-- a writer's turn that waits had nothing due, or its wire answered Wait
pub refusal_waits : (h : Holding) (history : History) (tape : Tape) (turn : Turn) (so sn : Seen → List ℕ → List ℕ → List ℕ → Type 0)
    (ao an : List ℕ → Type 0) (whole : List ℕ → List ℕ → List ℕ → Type 0) (f0 f1 : Option RelayFault) (rests : Seen → Type 0)
    (before after_ : Past → Type 0)
    → history ≡ h.history → Gives (shows history) tape so sn ao an whole f0 f1 (rests (shows history)) before after_ (Ok turn)
    → turn.waiting ≡ true
    → Waited (rests (shows h.history)) (λ past. past.write_waits) before after_
refusal_waits h history tape turn so sn ao an whole f0 f1 rests before after_ he b0 e = λ p here.
    let b = gives_now h history tape (Ok turn) so sn ao an whole f0 f1 rests before after_ he b0 in
    let w = b.wire p here in
    (w.0, w.1, w.3.waiting e)

-- what may follow a closed history is no event
none_follow : (x : Seen) (events : List Event) → x.closed ≡ true → MayAllFollow x events → events ≡ []
none_follow x [] c m = refl
none_follow x (event ∷ events) c m = absurd (false≢true (sym m.0 ∙ c))

-- nothing is stepped of a closed one, so a turn that doesn't wait wrote a byte
pub refusal_acts : (h : Holding) (history : History) (tape : Tape) (turn : Turn) (so sn : Seen → List ℕ → List ℕ → List ℕ → Type 0)
    (ao an : List ℕ → Type 0) (whole : List ℕ → List ℕ → List ℕ → Type 0) (f0 f1 : Option RelayFault) (rests : Seen → Type 0)
    (before after_ : Past → Type 0)
    → history ≡ h.history → Gives (shows history) tape so sn ao an whole f0 f1 (rests (shows history)) before after_ (Ok turn)
    → (shows h.history).closed ≡ true → turn.waiting ≡ false
    → BytesOr ⊥ before after_
refusal_acts h history tape turn so sn ao an whole f0 f1 rests before after_ he b0 c e = λ p here.
    let b = gives_now h history tape (Ok turn) so sn ao an whole f0 f1 rests before after_ he b0 in
    let w = b.wire p here in
    let g = grown p w.0 [] b.delta w.2 in
    let gr = g.read in
    let go = g.out in (
      w.0,
      w.1,
      omega (arith, gr),
      omega (arith, go),
      λ z. false≢true (sym e ∙ b.waiting.waits turn refl (none_follow (shows h.history) turn.events.items c b.legal)
          (no_bytes b.delta (omega (arith, gr, go, z)))),
    )

-- Whether it is closed.

-- what follows where a history is closed, and also where it is open, holds
pub by_closed : (closed : Bool) (this : Type 0) → (closed ≡ true → this) → (closed ≡ false → this) → this
by_closed true this a b = a refl
by_closed false this a b = b refl

-- what follows at RESPMOD, and also at REQMOD, holds
pub by_point : (point : Point) (this : Type 0) → (point ≡ Respmod → this) → (point ≡ Reqmod → this) → this
by_point Reqmod this a b = b refl
by_point Respmod this a b = a refl

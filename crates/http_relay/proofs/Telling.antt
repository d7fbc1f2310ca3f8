-- The events that tell what was read of a body.
use Rattle.std.proofs.Common.{◌≡◌, ℕ, zero, suc, ◌+◌, ◌<◌, ◌≤◌, Bool, true, false, List, ◌++◌, length, take, refl, sym, subst, ◌∙◌, inl}
use Rattle.std.proofs.Common.{arith, length-append, Option, Some, None as Nothing, IfSome}
use Rattle.std.proofs.lemmas.List.{length-take-le}
use Rattle.adapt_bytes.specs.declared.limits.TheConstants.{COUNT_LIMIT}
use Rattle.http_side.specs.Body.{HasRead, is_over}
use Rattle.http_side.specs.declared.body.Framing.{Framing}
use Rattle.http_side.proofs.Ends.{over_is}
use Rattle.trace_core.specs.declared.history.Plan.{Plan}
use Rattle.trace_core.specs.declared.history.Seen.{Seen}
use Rattle.http_relay.specs.Body.{ReadsOn}
use Rattle.trace_core.specs.Turns.{after_all, MayAllFollow, AllAre, is_of_source, in_sum}
use Rattle.http_relay.specs.Events.{source_events}
use Rattle.http_relay.specs.Source.{MayTell, Agrees, BodyReads}
use Rattle.http_relay.specs.Message.{length_of}
use Rattle.http_relay.specs.declared.source_body.SourceBody.{SourceBody}

-- the events that tell so many bytes of a body tell just as many
pub sum_is : (n : ℕ) (ended : Bool) → in_sum (source_events n ended) ≡ n
sum_is zero false = refl
sum_is (suc n) false = omega arith
sum_is zero true = omega arith
sum_is (suc n) true = omega arith

-- the events that tell what was read of a body are all the source's
only_source : (n : ℕ) (ended : Bool) → AllAre is_of_source (source_events n ended)
only_source zero false = tt
only_source (suc n) false = (refl, tt)
only_source zero true = (refl, tt)
only_source (suc n) true = (refl, (refl, tt))

-- what is told of so many bytes, and then of the end
record Told (x y : Seen) (n : ℕ) (ended : Bool) : Type 0 where
  count : y.received ≡ n + x.received
  end : x.ended ≡ false → y.ended ≡ ended
  plan : y.plan ≡ x.plan

-- the events that tell of a body add its bytes to what came, and its end just if it is told
told : (x : Seen) (n : ℕ) (ended : Bool) → Told x (after_all x (source_events n ended)) n ended
told x zero false = record { count = omega arith; end = λ e. e; plan = refl }
told x (suc n) false = record { count = refl; end = λ e. e; plan = refl }
told x zero true = record { count = omega arith; end = λ e. refl; plan = refl }
told x (suc n) true = record { count = omega arith; end = λ e. refl; plan = refl }

-- a known length of the plan is the framing's
at_len : (o k : Option ℕ) (P : ℕ → Type 0) → IfSome o (λ len. k ≡ Some len) → IfSome k P → IfSome o P
at_len Nothing k P e h = tt
at_len (Some len) k P e h = subst (λ (j : Option ℕ). IfSome j P) e h

-- where a fact of each number gives another, one of a number that may be known does too
pub if_more : (o : Option ℕ) (P Q : ℕ → Type 0) → ((n : ℕ) → P n → Q n) → IfSome o P → IfSome o Q
if_more Nothing P Q f h = tt
if_more (Some n) P Q f h = f n h

-- bytes and an end that may be told may follow an open history that agrees with a body that goes on
may_tell : (s : SourceBody) (n : ℕ) (ended : Bool) (x : Seen) → MayTell s n ended → s.ended ≡ false → Agrees x s → x.closed ≡ false
    → MayAllFollow x (source_events n ended)
may_tell s zero false x f e a c = tt
may_tell s (suc n) false x f e a c =
    let now : x.ended ≡ false = a.ended ∙ e in
    let some : 1 ≤ suc n = omega arith in
    let sum : x.received + suc n < COUNT_LIMIT = subst (λ (r : ℕ). r + suc n < COUNT_LIMIT) (sym a.received) f.sum in
    let len : IfSome x.plan.len (λ len. x.received + suc n ≤ len) =
    subst (λ (r : ℕ). IfSome x.plan.len (λ len. r + suc n ≤ len)) (sym a.received)
    (at_len x.plan.len (length_of s.framing) (λ len. s.received + suc n ≤ len) a.len f.len) in
    (c, (now, (some, sum), len), tt)
may_tell s zero true x f e a c =
    let now : x.ended ≡ false = a.ended ∙ e in
    let at : IfSome (length_of s.framing) (λ len. s.received ≡ len) =
    if_more (length_of s.framing) (λ len. s.received + zero ≡ len) (λ len. s.received ≡ len) (λ n h. omega (arith, h)) (f.end refl) in
    let len : IfSome x.plan.len (λ len. x.received ≡ len) =
    subst (λ (r : ℕ). IfSome x.plan.len (λ len. r ≡ len)) (sym a.received)
    (at_len x.plan.len (length_of s.framing) (λ len. s.received ≡ len) a.len at) in
    (c, (now, len), tt)
may_tell s (suc n) true x f e a c =
    let now : x.ended ≡ false = a.ended ∙ e in
    let some : 1 ≤ suc n = omega arith in
    let sum : x.received + suc n < COUNT_LIMIT = subst (λ (r : ℕ). r + suc n < COUNT_LIMIT) (sym a.received) f.sum in
    let len : IfSome x.plan.len (λ len. x.received + suc n ≤ len) =
    subst (λ (r : ℕ). IfSome x.plan.len (λ len. r + suc n ≤ len)) (sym a.received)
    (at_len x.plan.len (length_of s.framing) (λ len. s.received + suc n ≤ len) a.len f.len) in
    let at : IfSome (length_of s.framing) (λ len. suc n + s.received ≡ len) =
    if_more (length_of s.framing) (λ len. s.received + suc n ≡ len) (λ len. suc n + s.received ≡ len) (λ m h. omega (arith, h))
    (f.end refl) in
    let end : IfSome x.plan.len (λ len. suc n + x.received ≡ len) =
    subst (λ (r : ℕ). IfSome x.plan.len (λ len. suc n + r ≡ len)) (sym a.received)
    (at_len x.plan.len (length_of s.framing) (λ len. suc n + s.received ≡ len) a.len at) in
    (c, (now, (some, sum), len), (c, (now, end), tt))

-- a history that agrees with a body still agrees when what was read of both is told
agrees_then : (s new : SourceBody) (n : ℕ) (ended : Bool) (x y : Seen) → Told x y n ended → s.ended ≡ false → new.framing ≡ s.framing
    → new.received ≡ s.received + n → new.ended ≡ ended → Agrees x s → Agrees y new
agrees_then s new n ended x y t e way count end a = record {
  received = omega (arith, t.count, count, a.received);
  ended = t.end (a.ended ∙ e) ∙ sym end;
  len = subst (λ (p : Plan). IfSome p.len (λ len. length_of new.framing ≡ Some len)) (sym t.plan)
      (subst (λ (w : Framing). IfSome x.plan.len (λ len. length_of w ≡ Some len)) (sym way) a.len);
}

-- so many bytes of the body were read, and its end
pub tells : (s new : SourceBody) (raw out : List ℕ) (used n : ℕ) (ended : Bool) → s.ended ≡ false → new.framing ≡ s.framing
    → new.received ≡ s.received + n → new.ended ≡ ended
    → ReadsOn s.reader raw used (take n out) new.reader → n ≤ length out → ended ≡ is_over new.reader → MayTell s n ended
    → BodyReads s new (source_events n ended) (take used raw) (take n out) false
tells s new raw out used n ended e way count end on l over f = record {
  only = only_source n ended;
  legal = λ x a c. (
    may_tell s n ended x f e a c,
    agrees_then s new n ended x (after_all x (source_events n ended)) (told x n ended) e way
        count end a,
  );
  reads = λ x body text closed h.
      let t = told x n ended in
      let long : length (take n out) ≡ n = length-take-le n out l in
      let here : HasRead s.framing (text ++ take used raw) (body ++ take n out) new.reader = on s.framing text body h.reads in
      let there : HasRead new.framing (text ++ take used raw) (body ++ take n out) new.reader =
      subst (λ (w : Framing). HasRead w (text ++ take used raw) (body ++ take n out) new.reader) (sym way) here in
      record {
        count = omega (arith, t.count, h.count, length-append body (take n out), long);
        ended = t.end (h.ended ∙ e) ∙ sym end;
        reads = there;
        whole = λ w. inl ((over_is new.framing (text ++ take used raw) (body ++ take n out) new.reader there).0 (sym over ∙ (sym end ∙ w)));
      };
}

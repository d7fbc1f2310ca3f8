-- The other sides' events, and the beginning.
use Rattle.std.proofs.Common.{◌≡◌, ℕ, ◌+◌, ◌≤◌, Bool, true, false, List, [], ◌++◌, length, take, refl, ap, sym, subst, ◌∙◌, arith, Option}
use Rattle.std.proofs.Common.{Some, None, IfSome, if◌then◌else◌}
use Rattle.std.proofs.lemmas.List.{take-append-le}
use Rattle.trace_core.specs.declared.history.Plan.{Plan}
use Rattle.trace_core.specs.declared.history.Event.{Event}
use Rattle.trace_core.specs.declared.history.Event.TheVariants.{In, End, Svc, Stop, Heard, Continue, NoMod, Mod, Ad, AdEnd, Usr, Done, Fail}
use Rattle.trace_core.specs.declared.history.Event.TheVariants.{Retry}
use Rattle.trace_core.specs.declared.history.Seen.{Seen}
use Rattle.trace_core.specs.History.{seen, in_bytes, is_retry}
use Rattle.trace_core.specs.Legal.{Allows, open_preview, preview_size}
use Rattle.trace_core.specs.View.{after}
use Rattle.icap_client.specs.RequestText.{is_null, BodyText}
use Rattle.chunk_writer.specs.Cut.IsCut.{no_chunk}
use Rattle.icap_client.specs.Front.{Front, HasBody}
use Rattle.chunk_writer.specs.Cut.Run.{between}
use Rattle.icap_client.specs.Front.Front.{null, first, rest, over}
use Rattle.icap_client.specs.Sending.{HasSent, NothingDue}
use Rattle.icap_client.specs.Events.{is_of_sending}
use Rattle.chunk_writer.specs.Writer.{Writer, waiting, fresh}
use Rattle.chunk_writer.specs.Behind.{WaitsBehind}
use Rattle.chunk_writer.specs.Writer.IsFraming.{none}

begins_by : (plan : Plan) (b : Bool) → is_null plan.len ≡ b → Front (seen plan []) [] [] 0
begins_by plan true e = null e refl refl
begins_by plan false e = first e refl (between refl no_chunk)

zero_fits : (o : Option ℕ) → IfSome o (λ p. 0 ≤ p)
zero_fits None = tt
zero_fits (Some p) = omega arith

pub it_begins : (plan : Plan) (head : List ℕ) → HasSent head (seen plan []) [] []
    (record { head = head; head_out = 0; framing = []; framing_out = 0; left = 0 })
it_begins plan head = record {
  chunks = [];
  fixed = refl;
  front = begins_by plan (is_null plan.len) refl;
  there = omega arith;
  in_preview = zero_fits (open_preview (seen plan []));
  framing = none;
  waits = λ some. absurd (omega (arith, some));
}

-- nothing changed that a request's prefix and its bound depend on
record Same (x y : Seen) : Type 0 where
  plan : y.plan ≡ x.plan
  stopped : y.stopped ≡ x.stopped
  last_stop : y.last_stop ≡ x.last_stop
  ieof : y.ieof ≡ x.ieof
  sent : y.sent ≡ x.sent
  received : x.received ≤ y.received

front_moved : (x y : Seen) (body text : List ℕ) (left : ℕ) → Same x y → Front x body text left → Front y body text left
front_moved x y body text left m (null e t z) = null (ap (λ (p : Plan). is_null p.len) m.plan ∙ e) t z
front_moved x y body text left m (first e o r) = first (ap (λ (p : Plan). is_null p.len) m.plan ∙ e) (m.stopped ∙ o) r
front_moved x y body text left m (rest e o z p k before behind q c r t) =
    rest (ap (λ (p : Plan). is_null p.len) m.plan ∙ e) (m.stopped ∙ o) (m.last_stop ∙ z) p (ap (λ (p : Plan). p.kind) m.plan ∙ k) before
    behind q c r t
front_moved x y body text left m (over e o z b) =
    over (ap (λ (p : Plan). is_null p.len) m.plan ∙ e) (m.last_stop ∙ o) z
    (subst (λ (i : Bool). BodyText y.plan.kind i body text) (sym m.ieof)
    (subst (λ (p : Plan). BodyText p.kind x.ieof body text) (sym m.plan) b))

preview_moved : (x y : Seen) (n : ℕ) → Same x y → IfSome (open_preview x) (λ p. x.sent + n ≤ p)
    → IfSome (open_preview y) (λ p. y.sent + n ≤ p)
preview_moved x y n m h =
    subst (λ (s : ℕ). IfSome (open_preview y) (λ p. s + n ≤ p)) (sym m.sent)
    (subst (λ (b : Bool). IfSome (if b then None else preview_size y.plan.kind) (λ p. x.sent + n ≤ p)) (sym m.stopped)
    (subst (λ (p : Plan). IfSome (if x.stopped then None else preview_size p.kind) (λ p. x.sent + n ≤ p)) (sym m.plan) h))

-- the bytes that were sent stay
same_sent : (x y : Seen) (came more : List ℕ) → Same x y → length came ≡ x.received → x.sent ≤ x.received
    → take y.sent (came ++ more) ≡ take x.sent came
same_sent x y came more m l t = ap (λ (n : ℕ). take n (came ++ more)) m.sent ∙ take-append-le x.sent came more (omega (arith, t))

moved : (head : List ℕ) (x y : Seen) (came more taken : List ℕ) (w : Writer) → Same x y → length came ≡ x.received
    → HasSent head x came taken w → HasSent head y (came ++ more) taken w
moved head x y came more taken w m l h = record {
  chunks = h.chunks;
  fixed = h.fixed;
  front = subst (λ (body : List ℕ). Front y body h.chunks w.left) (sym (same_sent x y came more m l (omega (arith, h.there))))
      (front_moved x y (take x.sent came) h.chunks w.left m h.front);
  there = omega (arith, h.there, m.sent, m.received);
  in_preview = preview_moved x y w.left m h.in_preview;
  framing = h.framing;
  waits = λ some. subst (λ (body : List ℕ). WaitsBehind (HasBody body) h.chunks (waiting w))
      (sym (same_sent x y came more m l (omega (arith, h.there)))) (h.waits (omega (arith, some, m.sent)));
}

same_by : (x y : Seen) → y.plan ≡ x.plan → y.stopped ≡ x.stopped → y.last_stop ≡ x.last_stop → y.ieof ≡ x.ieof → y.sent ≡ x.sent
    → x.received ≤ y.received → Same x y
same_by x y a b c d e f = record { plan = a; stopped = b; last_stop = c; ieof = d; sent = e; received = f }

kept : (x : Seen) (event : Event) → is_of_sending event ≡ false → is_retry event ≡ false → Same x (after x event)
kept x (In k) o n = same_by x _ refl refl refl refl (omega arith) (omega arith)
kept x End o n = same_by x _ refl refl refl refl (omega arith) (omega arith)
kept x (Svc k) o n = cc
kept x Stop o n = cc
kept x Heard o n = same_by x _ refl refl refl refl (omega arith) (omega arith)
kept x Continue o n = same_by x _ refl refl refl refl (omega arith) (omega arith)
kept x NoMod o n = same_by x _ refl refl refl refl (omega arith) (omega arith)
kept x (Mod payload) o n = same_by x _ refl refl refl refl (omega arith) (omega arith)
kept x (Ad k) o n = same_by x _ refl refl refl refl (omega arith) (omega arith)
kept x AdEnd o n = same_by x _ refl refl refl refl (omega arith) (omega arith)
kept x (Usr k) o n = same_by x _ refl refl refl refl (omega arith) (omega arith)
kept x Done o n = same_by x _ refl refl refl refl (omega arith) (omega arith)
kept x (Fail cause) o n = same_by x _ refl refl refl refl (omega arith) (omega arith)
kept x Retry o n = cc

pub others : (head : List ℕ) (x : Seen) (event : Event) (came bytes taken : List ℕ) (w : Writer) → is_of_sending event ≡ false
    → is_retry event ≡ false → length came ≡ x.received → length bytes ≡ in_bytes event
    → HasSent head x came taken w → HasSent head (after x event) (came ++ bytes) taken w
others head x event came bytes taken w o n l b h = moved head x (after x event) came bytes taken w (kept x event o n) l h

again_by : (x : Seen) (b : Bool) → is_null x.plan.len ≡ b → Front (after x Retry) [] [] 0
again_by x true e = null e refl refl
again_by x false e = first e refl (between refl no_chunk)

-- the text begins anew
pub begins_again : (x : Seen) (came : List ℕ) (w : Writer) (head : List ℕ) → w ≡ fresh head → HasSent head (after x Retry) came [] w
begins_again x came w head e = subst (λ (v : Writer). HasSent head (after x Retry) came [] v) (sym e) (record {
  chunks = [];
  fixed = refl;
  front = again_by x (is_null x.plan.len) refl;
  there = omega arith;
  in_preview = zero_fits (open_preview (after x Retry));
  framing = none;
  waits = λ some. absurd (omega (arith, some));
})

-- if nothing is due, no event of sending may follow
pub none_may_send : (x : Seen) (w : Writer) → NothingDue x w → x.closed ≡ false → (event : Event) → is_of_sending event ≡ true
    → Allows x event → ⊥
none_may_send x w n c (In k) o a = cc
none_may_send x w n c End o a = cc
none_may_send x w n c (Svc k) o a = n.none k c a
none_may_send x w n c Stop o a = n.no_stop c a
none_may_send x w n c Heard o a = cc
none_may_send x w n c Continue o a = cc
none_may_send x w n c NoMod o a = cc
none_may_send x w n c (Mod payload) o a = cc
none_may_send x w n c (Ad k) o a = cc
none_may_send x w n c AdEnd o a = cc
none_may_send x w n c (Usr k) o a = cc
none_may_send x w n c Done o a = cc
none_may_send x w n c (Fail cause) o a = cc
none_may_send x w n c Retry o a = cc

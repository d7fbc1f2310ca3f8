-- A turn's moves, as steps of what was sent.
use Rattle.std.proofs.Common.{◌≡◌, ℕ, ◌+◌, ◌-◌, ◌<◌, ◌≤◌, ◌⊎◌, inl, inr, Bool, true, false, not, ◌&&◌, List, [], ◌∷◌, ◌++◌, length, take}
use Rattle.std.proofs.Common.{drop, refl, ap, sym, subst, ◌∙◌, append_assoc, append-nil, arith, Option, Some, None, IfSome, IsSomeAnd}
use Rattle.std.proofs.Common.{if◌then◌else◌, ◌==◌}
use Rattle.std.proofs.lemmas.Bool.Decides.{nat_tests}
use Rattle.std.proofs.lemmas.Bool.{cases_lt}
use Rattle.std.proofs.lemmas.List.{length-take-le, take-take, drop-drop}
use Rattle.icap_chunks.specs.Grammar.{last_chunk}
use Rattle.trace_core.specs.declared.history.Seen.{Seen}
use Rattle.trace_core.specs.declared.history.Event.TheVariants.{Svc, Stop}
use Rattle.trace_core.specs.History.{is_preview}
use Rattle.trace_core.specs.Legal.{Allows, MaySend, open_preview}
use Rattle.trace_core.specs.View.{after}
use Rattle.trace_core.proofs.Sound.{Sound, sound-after}
use Rattle.span_tape.specs.Tape.{Tape}
use Rattle.chunk_writer.specs.declared.next.Next.{Next}
use Rattle.chunk_writer.specs.Writer.{Writer, waiting, fixed, sent_on, after_data, bytes_of, end_text, is_ending, MayGoOn, IsIdle}
use Rattle.chunk_writer.specs.Moves.{Moves}
use Rattle.chunk_writer.specs.Moves.Moves.{start, passed, begun_chunk, sent, ended}
use Rattle.chunk_writer.proofs.Moving.{Reaches, reaches, there}
use Rattle.icap_client.specs.RequestText.{is_null}
use Rattle.icap_client.specs.Sending.{HasSent, Came, KeepsUnsent, NothingDue, Decides, StopsAt, stop_text, stop_text_at, svc_events}
use Rattle.icap_client.specs.Sending.{sending_events}
use Rattle.icap_client.specs.Events.{after_all, MayAllFollow, AllAre, is_of_sending}
use Rattle.icap_client.specs.Turns.{GoesOn}
use Rattle.icap_client.proofs.Sent.{sent_taken, sent_begun, sent_stopped, sent_data}

-- what is seen once so many bytes went out
abbrev pub sent_to : Seen → ℕ → Seen
sent_to x n = after_all x (svc_events n)

-- what is within a bound is so with fewer bytes
less : (o : Option ℕ) (s m n : ℕ) → m ≤ n → IfSome o (λ p. s + n ≤ p) → IfSome o (λ p. s + m ≤ p)
less None s m n l h = tt
less (Some p) s m n l h = omega arith

-- fewer bytes may follow too
fewer : (x : Seen) (m n : ℕ) → 1 ≤ m → m ≤ n → Allows x (Svc n) → Allows x (Svc m)
fewer x m n some l a = (a.0, (some, omega (arith, a.1.1)), omega (arith, a.2), less (open_preview x) x.sent m n l a.3)

-- The last chunk after the bytes of the turn.

-- the sum of a number and 0 is that number
add_zero : (n : ℕ) → n + 0 ≡ n
add_zero n = omega arith

-- a preview that ends at a number ends at any equal one
moved_preview : (o : Option ℕ) (a b : ℕ) → a ≡ b → IsSomeAnd o (λ p. a ≡ p) → IsSomeAnd o (λ p. b ≡ p)
moved_preview o a b e h = subst (λ (n : ℕ). IsSomeAnd o (λ p. n ≡ p)) e h

-- where a body may be sent and a last chunk is due now, a Stop may come
stop_here : (x : Seen) → MaySend x → StopsAt x (x.sent + 0) → Allows x Stop
stop_here x m (inl h) = (m, inl (h.0, sym (add_zero x.sent) ∙ h.1))
stop_here x m (inr h) = (m, inr (moved_preview (open_preview x) (x.sent + 0) x.sent (add_zero x.sent) h))

-- where a body may be sent, it may be after some bytes of it
may_send_on : (x : Seen) (n : ℕ) → MaySend x → MaySend (after x (Svc n))
may_send_on x n m = (m.0, m.1, grind (arith, nat_tests), m.3, m.4, m.5)

-- where a last chunk is due after more bytes, a Stop may come after them
stop_after : (x : Seen) (n : ℕ) → MaySend x → StopsAt x (x.sent + n) → Allows (after x (Svc n)) Stop
stop_after x n m (inl h) = (may_send_on x n m, inl (h.0, omega (arith, h.1)))
stop_after x n m (inr h) = (may_send_on x n m, inr (moved_preview (open_preview x) (x.sent + n) (n + x.sent) (omega arith) h))

-- the text of a last chunk after more bytes is that of the history that has them
text_after : (x : Seen) (n : ℕ) → stop_text_at x (x.sent + n) ≡ stop_text (after x (Svc n))
text_after x n =
    let e : x.sent + n ≡ n + x.sent = omega arith in
    let r : x.received ≡ 0 + x.received = omega arith in
    ap (λ (place : ℕ). stop_text_at x place) e
    ∙ ap (λ (received : ℕ). if is_null x.plan.len then [] else last_chunk
    (is_preview x.plan.kind && not x.stopped && x.ended && (n + x.sent == received))) r

-- the text of a last chunk after no more bytes is that of the history as it is
text_here : (x : Seen) → stop_text_at x (x.sent + 0) ≡ stop_text x
text_here x = ap (λ (place : ℕ). stop_text_at x place) (add_zero x.sent)

-- Of the state that a turn's bytes lead to.
pub record Leads (x y : Seen) (tape : Tape) (n : ℕ) : Type 0 where
  sound : Sound y
  open_still : y.closed ≡ x.closed
  came : (came : List ℕ) → Came x tape came → Came y tape came
  stop : MaySend x → StopsAt x (x.sent + n) → Allows y Stop
  text : stop_text_at x (x.sent + n) ≡ stop_text y

-- a sound history leads on to what it shows after body bytes, whether there are some or none
leads_by : (x : Seen) (tape : Tape) (n : ℕ) → Sound x → (0 < n → Allows x (Svc n)) → (0 < n) ⊎ (n ≤ 0) → Leads x (sent_to x n) tape n
leads_by x tape n s a (inl some) =
    let e : (n == 0) ≡ false = grind (arith, nat_tests) in
    rw e (record {
      sound = sound-after x (Svc n) s (a some);
      open_still = refl;
      came = λ came i. record { count = omega (arith, i.count); bytes = i.bytes };
      stop = stop_after x n;
      text = text_after x n;
    })
leads_by x tape n s a (inr none) =
    let z : n ≡ 0 = omega arith in
    subst (λ (k : ℕ). Leads x (sent_to x k) tape k) (sym z) (record {
      sound = s;
      open_still = refl;
      came = λ came i. i;
      stop = stop_here x;
      text = text_here x;
    })

-- a sound history leads on to what it shows after body bytes that may go
pub leads : (x : Seen) (tape : Tape) (n : ℕ) → Sound x → (0 < n → Allows x (Svc n)) → Leads x (sent_to x n) tape n
leads x tape n s a = leads_by x tape n s a (cases_lt 0 n)

-- after the last chunk
all_then : (x : Seen) (n : ℕ) (b : Bool) → (n == 0) ≡ b → after_all x (sending_events n true) ≡ after (sent_to x n) Stop
all_then x n true e = rw e refl
all_then x n false e = rw e refl

-- Body bytes.
part_is : (tape : Tape) (next : Next) (came : List ℕ) (from k : ℕ) → next.from ≡ from → tape.base ≤ from → drop tape.base came ≡ tape.bytes
    → k ≤ next.count
    → take k (bytes_of tape next) ≡ take k (drop from came)
part_is tape next came from k e b i l =
    let behind_base : tape.base + (next.from - tape.base) ≡ from = omega arith in
    take-take k next.count (drop (next.from - tape.base) tape.bytes) l
    ∙ (ap (λ (xs : List ℕ). take k (drop (next.from - tape.base) xs)) (sym i)
    ∙ (ap (λ (xs : List ℕ). take k xs) (drop-drop (next.from - tape.base) tape.base came)
    ∙ ap (λ (m : ℕ). take k (drop m came)) behind_base))

-- body bytes of the tape that went out within a chunk are sent
data_by : (head : List ℕ) (x : Seen) (tape : Tape) (next : Next) (came taken : List ℕ) (v : Writer) (k : ℕ) → next.from ≡ x.sent
    → tape.base ≤ x.sent → Came x tape came → length (bytes_of tape next) ≡ next.count
    → waiting v ≡ [] → 0 < k → k ≤ next.count → k ≤ v.left → HasSent head x came taken v
    → HasSent head (sent_to x k) came (taken ++ take k (bytes_of tape next)) (sent_on v k)
data_by head x tape next came taken v k f b i l o some few within h =
    let part = take k (bytes_of tape next) in
    let long : length part ≡ k = length-take-le k (bytes_of tape next) (omega arith) in
    let here : part ≡ take k (drop x.sent came) = part_is tape next came x.sent k f b i.bytes few in
    let e : (k == 0) ≡ false = grind (arith, nat_tests) in
    rw e (subst (λ (n : ℕ). HasSent head (after x (Svc n)) came (taken ++ part) (sent_on v n)) long
    (sent_data head x came taken v part o (here ∙ ap (λ (n : ℕ). take n (drop x.sent came)) (sym long)) (omega arith) (omega arith) h))

-- in chunks, body bytes that went out are those of a chunk
chunked_data : (b : Bool) (v : Writer) (k : ℕ) → b ≡ true → after_data b v k ≡ sent_on v k
chunked_data true v k e = refl
chunked_data false v k e = cc

-- What is given to all moves of a turn.
pub record Given (x : Seen) (tape : Tape) (next : Next) (old : Writer) (came : List ℕ) : Type 0 where
  sound : Sound x
  most : ℕ
  decided : Decides most x old next
  base : 0 < next.count → tape.base ≤ x.sent
  long : length (bytes_of tape next) ≡ next.count
  came_is : Came x tape came

-- after all bytes that come next, the end fixes the last chunk after what was sent
ended_at : (head : List ℕ) (x : Seen) (tape : Tape) (next : Next) (old v : Writer) (came taken : List ℕ) → Given x tape next old came
    → waiting v ≡ [] → is_ending next.end ≡ true
    → HasSent head (sent_to x next.count) came taken v
    → HasSent head (after_all x (sending_events next.count true)) came taken (fixed v (end_text next.end))
ended_at head x tape next old v came taken g o i h =
    let y = sent_to x next.count in
    let due = g.decided.stop i in
    let l = leads x tape next.count g.sound (λ some. (g.decided.svc some).1) in
    let text : end_text next.end ≡ stop_text y = g.decided.text i ∙ l.text in
    subst (λ (z : Seen). HasSent head z came taken (fixed v (end_text next.end))) (sym (all_then x next.count (next.count == 0) refl))
    (subst (λ (xs : List ℕ). HasSent head (after y Stop) came taken (fixed v xs)) (sym text)
    (sent_stopped head y came taken v o (l.came came g.came_is).count l.sound (l.stop due.1 due.2) h))

-- a turn's moves and events lead from what was sent before it to what is sent after it
pub carried : (head : List ℕ) (x : Seen) (tape : Tape) (next : Next) (old w : Writer) (came taken : List ℕ) (k : ℕ) (e : Bool) (d : List ℕ)
    → Given x tape next old came → Moves tape next old k e d w
    → HasSent head x came taken old → HasSent head (after_all x (sending_events k e)) came (taken ++ d) w
carried head x tape next old w came taken k e d g start h = subst (λ (xs : List ℕ). HasSent head x came xs old) (sym (append-nil taken)) h
carried head x tape next old w came taken k e d g (passed {d = d'} {v = v} m part w' p) h =
    let before = carried head x tape next old v came taken k e d' g m h in
    subst (λ (xs : List ℕ). HasSent head (after_all x (sending_events k e)) came xs w) (append_assoc taken d' part)
    (sent_taken head (after_all x (sending_events k e)) came (taken ++ d') part v w p.rest p.framing p.left before)
carried head x tape next old w came taken k e d g (begun_chunk {v = v} m c o l s) h =
    sent_begun head x came (taken ++ d) v next.count s o l g.sound (g.decided.svc s).1
    (carried head x tape next old v came taken 0 false d g m h)
carried head x tape next old w came taken k e d g (sent {d = d'} {v = v} m k' o s few within) h =
    let before = carried head x tape next old v came taken 0 false d' g m h in
    let part = take k (bytes_of tape next) in
    subst (λ (u : Writer). HasSent head (sent_to x k) came (taken ++ (d' ++ part)) u)
    (sym (chunked_data next.chunked v k g.decided.chunked))
    (subst (λ (xs : List ℕ). HasSent head (sent_to x k) came xs (sent_on v k)) (append_assoc taken d' part)
    (data_by head x tape next came (taken ++ d') v k g.decided.from (g.base (omega arith)) g.came_is g.long o s few
    (within g.decided.chunked) before))
carried head x tape next old w came taken k e d g (ended {v = v} m o a i) h =
    let before = carried head x tape next old v came taken k false d g m h in
    subst (λ (n : ℕ). HasSent head (after_all x (sending_events n true)) came (taken ++ d) (fixed v (end_text next.end))) (sym a)
    (ended_at head x tape next old v came (taken ++ d) g o i (subst (λ (n : ℕ). HasSent head (sent_to x n) came (taken ++ d) v) a before))

-- The events are legal.
svc_legal : (x : Seen) (n : ℕ) → (0 < n → (x.closed ≡ false) × Allows x (Svc n)) → (0 < n) ⊎ (n ≤ 0) → MayAllFollow x (svc_events n)
svc_legal x n a (inl some) = let e : (n == 0) ≡ false = grind (arith, nat_tests) in rw e ((a some).0, (a some).1, tt)
svc_legal x n a (inr none) = let e : (n == 0) ≡ true = grind (arith, nat_tests) in rw e tt

-- a Stop that may come after body bytes, or after none, makes legal events with them
stop_by : (x : Seen) (n : ℕ) (b : Bool) → MayAllFollow x (if b then [] else Svc n ∷ [])
    → (after_all x (if b then [] else Svc n ∷ [])).closed ≡ false
    → Allows (after_all x (if b then [] else Svc n ∷ [])) Stop → MayAllFollow x ((if b then [] else Svc n ∷ []) ++ Stop ∷ [])
stop_by x n true l o a = (o, a, tt)
stop_by x n false l o a = (l.0, l.1, (o, a, tt))

-- a turn's events may follow, as far as it went in what was decided
legal_by : {most : ℕ} (x : Seen) (tape : Tape) (next : Next) (old : Writer) (k : ℕ) (e : Bool) → Sound x → Decides most x old next
    → Reaches next k e → MayAllFollow x (sending_events k e)
legal_by x tape next old k false s c r =
    svc_legal x k (λ some. let all = c.svc (omega (arith, r.few)) in (all.0, fewer x k next.count some r.few all.1)) (cases_lt 0 k)
legal_by x tape next old k true s c r =
    let due = c.stop (r.all refl).1 in
    let l = leads x tape next.count s (λ some. (c.svc some).1) in
    subst (λ (n : ℕ). MayAllFollow x (sending_events n true)) (sym (r.all refl).0)
    (stop_by x next.count (next.count == 0) (svc_legal x next.count c.svc (cases_lt 0 next.count)) (l.open_still ∙ due.0)
    (l.stop due.1 due.2))

-- where bytes come next, the tape begins at most where the body was sent to
from_base : {most : ℕ} (x : Seen) (tape : Tape) (next : Next) (old : Writer) → KeepsUnsent x tape → Decides most x old next → 0 < next.count
    → tape.base ≤ x.sent
from_base x tape next old k c some = k.base (c.svc some).0 (c.svc some).1.0

-- a turn may be made by what was decided
pub may_go_on : {most : ℕ} (x : Seen) (tape : Tape) (next : Next) (old : Writer) → KeepsUnsent x tape → Decides most x old next
    → MayGoOn old tape next
may_go_on x tape next old k c = record {
  low = λ some. omega (arith, from_base x tape next old k c some, c.from);
  there = λ some. omega (arith, c.from, k.end, (c.svc some).1.2);
  few = c.fits.0;
  within = λ h. c.fits.1 refl;
}

-- body bytes, or none, are events of sending alone
only_svc : (n : ℕ) (b : Bool) → AllAre is_of_sending (if b then [] else Svc n ∷ [])
only_svc n true = tt
only_svc n false = (refl, tt)

-- body bytes, or none, and then a Stop are events of sending alone
only_stop : (n : ℕ) (b : Bool) → AllAre is_of_sending ((if b then [] else Svc n ∷ []) ++ Stop ∷ [])
only_stop n true = (refl, tt)
only_stop n false = (refl, (refl, tt))

-- the events of a turn are all of sending
only_by : (k : ℕ) (e : Bool) → AllAre is_of_sending (sending_events k e)
only_by k true = only_stop k (k == 0)
only_by k false = only_svc k (k == 0)

-- a side goes on by a turn's moves of what was decided, with its events
pub goes_on : {most : ℕ} (x : Seen) (tape : Tape) (next : Next) (old w : Writer) (k : ℕ) (e : Bool) (d : List ℕ) → Sound x
    → KeepsUnsent x tape → Decides most x old next → Moves tape next old k e d w
    → GoesOn x tape old w (sending_events k e) d
goes_on {most} x tape next old w k e d s u c m = record {
  legal = legal_by x tape next old k e s c (reaches tape next old w k e d m);
  only = only_by k e;
  sent = λ head came taken i h. carried head x tape next old w came taken k e d (record {
    sound = s;
    most = most;
    decided = c;
    base = from_base x tape next old u c;
    long = there old tape next (may_go_on x tape next old u c);
    came_is = i;
  }) m h;
}

-- two texts that together have no byte have none each
append_none : (xs ys : List ℕ) → xs ++ ys ≡ [] → (xs ≡ []) × (ys ≡ [])
append_none [] ys e = (refl, e)
append_none (x ∷ xs) ys e = cc

-- no body byte and no Stop make no event
no_events : (n : ℕ) → n ≡ 0 → sending_events n false ≡ []
no_events n e = rw e refl

-- where nothing waits and nothing comes next, nothing waits after the moves
pub still_out : (tape : Tape) (next : Next) (v w : Writer) (k : ℕ) (d : List ℕ) → waiting v ≡ [] → next.count ≡ 0
    → Moves tape next v k false d w → waiting w ≡ []
still_out tape next v w k d o c start = o
still_out tape next v w k d o c (passed {d = d'} {v = u} m part w' p) =
    (append_none part (waiting w) (p.rest ∙ still_out tape next v u k d' o c m)).1
still_out tape next v w k d o c (begun_chunk m a b l some) = absurd (omega (arith, c, some))
still_out tape next v w k d o c (sent m k' a some few inside) = absurd (omega (arith, c, some, few))

-- where no byte comes next, none may follow
none_fits : {most : ℕ} (x : Seen) (w : Writer) (next : Next) → Decides most x w next → next.count ≡ 0 → (n : ℕ) → x.closed ≡ false
    → Allows x (Svc n) → ⊥
none_fits x w next c z n o a =
    let one : 0 < next.count = c.some n (o, a) in
    omega (arith, one, z)

-- a last chunk that may follow is due where the body has gone
stop_from : (x : Seen) (n : ℕ) → n ≡ 0 → Allows x Stop → StopsAt x (x.sent + n)
stop_from x n z (m, inl h) = inl (h.0, omega (arith, h.1, z))
stop_from x n z (m, inr h) = inr (moved_preview (open_preview x) x.sent (x.sent + n) (omega (arith, z)) h)

-- nothing was offered, and no event stands: nothing is due
pub nothing_due : {most : ℕ} (x : Seen) (tape : Tape) (next : Next) (w new : Writer) (k : ℕ) (e : Bool) (d : List ℕ) → Decides most x w next
    → Moves tape next w k e d new → IsIdle w next k e → sending_events 0 e ≡ [] → NothingDue x new
nothing_due x tape next w new k true d c m i n = cc
nothing_due x tape next w new k false d c m i n = record {
  flushed = still_out tape next w new k d i.out i.none m;
  none = none_fits x w next c i.none;
  no_stop = λ o a. c.no_stop (sym i.end_fixed) (o, a.0, stop_from x next.count i.none a);
}

-- a turn that does nothing
pub goes_same : (x : Seen) (tape : Tape) (w : Writer) → GoesOn x tape w w [] []
goes_same x tape w = record {
  legal = tt;
  only = tt;
  sent = λ head came taken i h. subst (λ (xs : List ℕ). HasSent head x came xs w) (sym (append-nil taken)) h;
}

-- What a turn answers, by what its wire answered.
use Rattle.std.proofs.Common.{◌≡◌, ℕ, ◌+◌, ◌<◌, arith, Bool, true, false, ◌||◌, List, [], ◌++◌, length, length-append, refl, ap, sym}
use Rattle.std.proofs.Common.{subst, ◌∙◌, append-nil, Option, Some, None, IfSome, Result, Ok, Err, ◌⊎◌, inl, inr, ◌==◌}
use Rattle.std.proofs.lemmas.Bool.Decides.{nat_tests}
use Rattle.std.proofs.lemmas.List.{length-take-le}
use Rattle.trace_core.specs.declared.history.Seen.{Seen}
use Rattle.trace_core.specs.declared.history.Event.{Event}
use Rattle.trace_core.specs.declared.history.Event.TheVariants.{Usr, Done}
use Rattle.trace_core.specs.Legal.{Allows}
use Rattle.trace_core.specs.History.{is_plain}
use Rattle.trace_core.specs.Faults.{chooses_original}
use Rattle.trace_core.specs.View.{after}
use Rattle.trace_core.proofs.Sound.{Sound}
use Rattle.span_tape.specs.Tape.{Tape}
use Rattle.wire_kit.specs.Past.{Past, Offers, FitsPut, delta_of}
use Rattle.wire_kit.specs.declared.wire.Put.{Put}
use Rattle.wire_kit.specs.declared.wire.Put.TheVariants as put
use Rattle.chunk_writer.specs.declared.next.Next.{Next}
use Rattle.chunk_writer.specs.Writer.{Writer, waiting, is_ending, offered, IsIdle}
use Rattle.chunk_writer.specs.Moves.{Moves, IsStill}
use Rattle.chunk_writer.proofs.Moving.{Reaches, reaches}
use Rattle.adapt_sides.specs.declared.turn.Turn.{Turn}
use Rattle.http_side.specs.declared.body.Framing.{Framing}
use Rattle.http_relay.specs.declared.hop.HopStage.{HopStage}
use Rattle.http_relay.specs.declared.hop.HopStage.TheVariants as at
use Rattle.adapt_sides.specs.declared.fault.RelayFault.{RelayFault}
use Rattle.adapt_sides.specs.declared.fault.RelayFault.TheVariants.{Length}
use Rattle.adapt_sides.specs.Tapes.{chosen_delivered}
use Rattle.http_relay.specs.Giving.{Hop, DropsText, GivesMessage, HasGiven, GivenAt, IsAside, AsideAt, Decides, NothingDue, hop_events}
use Rattle.http_relay.specs.Giving.{stage_then, is_message, is_whole, gift_of}
use Rattle.adapt_sides.specs.Tapes.{IsUndelivered}
use Rattle.trace_core.specs.Turns.{after_all}
use Rattle.adapt_sides.specs.Tapes.{Follows, KeepsUndelivered}
use Rattle.adapt_sides.specs.Turns.{events_of}
use Rattle.http_relay.proofs.Counted.{took_body}
use Rattle.http_relay.specs.Writing.{GoesOn, WriteTurn, FitsOffer, FitsAnswer}
use Rattle.http_relay.proofs.Chosen.{done_means}
use Rattle.http_relay.proofs.Given.{gives_passed}
use Rattle.http_relay.proofs.Carried.{given_on, aside_on, done_given, undelivered_done, legal_by, held_by, usr_to}

-- the events of a turn with Done lead where its bytes lead, and then Done
all_then : (x : Seen) (n : ℕ) (b : Bool) → (n == 0) ≡ b → after_all x (hop_events n true) ≡ after (usr_to x n) Done
all_then x n true e = rw e refl
all_then x n false e = rw e refl

-- what is given after the bytes of a turn is given after its events, with Done or without
with_done : (stage : HopStage) (x : Seen) (f : Framing) (head body taken : List ℕ) (w : Writer) (n : ℕ) (done : Bool)
    → GivenAt stage (usr_to x n) f head body taken w → GivenAt stage (after_all x (hop_events n done)) f head body taken w
with_done stage x f head body taken w n true g = subst (λ (y : Seen). GivenAt stage y f head body taken w)
    (sym (all_then x n (n == 0) refl)) (done_given stage (usr_to x n) f head body taken w g)
with_done stage x f head body taken w n false g = g

-- where nothing was taken before, and nothing now, nothing was taken
nothing_taken : (taken d : List ℕ) → taken ≡ [] → d ≡ [] → taken ++ d ≡ []
nothing_taken taken d t e = ap (λ (xs : List ℕ). xs ++ d) t ∙ e

-- where a byte was taken before or now, one was taken
some_taken : (taken d : List ℕ) → (0 < length taken) ⊎ (0 < length d) → 0 < length (taken ++ d)
some_taken taken d (inl s) = omega (arith, length-append taken d, s)
some_taken taken d (inr s) = omega (arith, length-append taken d, s)

-- what the turn counts
pub record Settles (x : Seen) (next : Next) (old new : Hop) (k : ℕ) (e done : Bool) (d : List ℕ) : Type 0 where
  framing : new.framing ≡ old.framing
  stage : new.stage ≡ stage_then old.stage e
  touched : new.touched ≡ false → (old.touched ≡ false) × (d ≡ []) × (k ≡ 0)
  reached : new.touched ≡ true → (old.touched ≡ true) ⊎ (0 < length d)
  done_at : done ≡ true → (new.stage ≡ at.Whole) × (waiting new.writer ≡ [])
  may : done ≡ true → (e ≡ true) ⊎ ((x.closed ≡ false) × Allows x Done × (k ≡ 0))

-- where nothing was delivered, nothing is after a turn without bytes, with Done or without
undelivered_then : (x : Seen) (done : Bool) → IsUndelivered x → IsUndelivered (after_all x (hop_events 0 done))
undelivered_then x true h = undelivered_done x h
undelivered_then x false h = h

-- what a side is where no byte went out
untouched_then : (x : Seen) (k : ℕ) (done : Bool) (taken d : List ℕ) → k ≡ 0 → d ≡ [] → (taken ≡ []) × IsUndelivered x
    → (taken ++ d ≡ []) × IsUndelivered (after_all x (hop_events k done))
untouched_then x k done taken d z e h = (
  nothing_taken taken d h.0 e,
  subst (λ (n : ℕ). IsUndelivered (after_all x (hop_events n done))) (sym z) (undelivered_then x done h.1),
)

-- what was taken of a message, and what a turn's moves send of it, is given after the turn's events
given_by : (x : Seen) (tape : Tape) (next : Next) (old new : Hop) (k : ℕ) (e done : Bool) (d head body taken : List ℕ) → Sound x
    → KeepsUndelivered x tape → Decides old.turn x old.writer old.framing old.stage next
    → Moves tape next old.writer k e d new.writer → Settles x next old new k e done d → Follows tape body → HasGiven x head body taken old
    → HasGiven (after_all x (hop_events k done)) head body (taken ++ d) new
given_by x tape next old new k e done d head body taken s u c m t i h =
    record {
      given = subst (λ (stage : HopStage). GivenAt stage (after_all x (hop_events k done)) new.framing head body (taken ++ d) new.writer)
          (sym t.stage)
          (subst (λ (f : Framing). GivenAt (stage_then old.stage e) (after_all x (hop_events k done)) f head body (taken ++ d) new.writer)
          (sym t.framing)
          (with_done (stage_then old.stage e) x old.framing head body (taken ++ d) new.writer k done
          (given_on old.stage x tape old.framing old.writer new.writer next head body taken k e d
          (held_by x tape old.framing old.writer old.stage next body s u c i) m h.given)));
      untouched = λ n.
          let q = t.touched n in
          untouched_then x k done taken d q.2 q.1 (h.untouched q.0);
      touched = λ n. some_taken taken d (elim (t.reached n) [ inl o ↦ inl (h.touched o) | inr s ↦ inr s ]);
    }

-- what was taken while no message is written goes on by what a turn's moves send
aside_by : (x : Seen) (tape : Tape) (next : Next) (old new : Hop) (k : ℕ) (e done : Bool) (d taken : List ℕ)
    → Decides old.turn x old.writer old.framing old.stage next
    → Moves tape next old.writer k e d new.writer → Settles x next old new k e done d → IsAside taken old → IsAside (taken ++ d) new
aside_by x tape next old new k e done d taken c m t h = record {
  text = subst (λ (stage : HopStage). AsideAt stage (taken ++ d) new.writer) (sym t.stage)
      (aside_on old.stage x tape old.framing old.writer new.writer next taken k e d c m h.text);
  untouched = λ n.
      let q = t.touched n in
      nothing_taken taken d (h.untouched q.0) q.1;
  touched = λ n. some_taken taken d (elim (t.reached n) [ inl o ↦ inl (h.touched o) | inr s ↦ inr s ]);
}

-- the end of a body is fixed of a message alone
gift_then : (stage : HopStage) (e : Bool) → (e ≡ true → is_message stage ≡ true) → gift_of (stage_then stage e) ≡ gift_of stage
gift_then stage false h = refl
gift_then at.Empty true h = let odd : false ≡ true = h refl in cc
gift_then at.Message true h = refl
gift_then at.Whole true h = refl
gift_then (at.Refusal status) true h = let odd : false ≡ true = h refl in cc

-- a turn fixes the end of a body only where a message is written
begun_at_end : (x : Seen) (next : Next) (old : Hop) (k : ℕ) (e : Bool) → Decides old.turn x old.writer old.framing old.stage next
    → Reaches next k e → e ≡ true → is_message old.stage ≡ true
begun_at_end x next old k e c r i = (c.ends (r.all i).1).0

-- a side goes on by the moves of a turn that was decided, and by the events that these settle
pub goes_on : (x : Seen) (tape : Tape) (next : Next) (old new : Hop) (k : ℕ) (e done : Bool) (d : List ℕ) → Sound x
    → KeepsUndelivered x tape → Decides old.turn x old.writer old.framing old.stage next
    → Moves tape next old.writer k e d new.writer → Settles x next old new k e done d → GoesOn x tape old new (hop_events k done) d
goes_on x tape next old new k e done d s u c m t = record {
  legal = legal_by x old.framing old.writer old.stage next k e done s c (reaches tape next old.writer new.writer k e d m) t.may;
  given = λ head body taken i h. given_by x tape next old new k e done d head body taken s u c m t i h;
  aside = λ taken h. aside_by x tape next old new k e done d taken c m t h;
  sent = k;
  done = done;
  events_are = refl;
  counted = took_body x tape next old.writer new.writer k e d c.from m;
  whole = t.done_at;
  framing = t.framing;
  gift = ap gift_of t.stage ∙ gift_then old.stage e (begun_at_end x next old k e c (reaches tape next old.writer new.writer k e d m));
}

-- a side that keeps its writer, framing, stage and whether a byte went out goes on without an event or a byte
pub goes_same : (x : Seen) (tape : Tape) (old new : Hop) → new.writer ≡ old.writer → new.framing ≡ old.framing → new.stage ≡ old.stage
    → new.touched ≡ old.touched → GoesOn x tape old new [] []
goes_same x tape old new w f s t = record {
  legal = tt;
  given = λ head body taken i h. record {
    given = subst (λ (xs : List ℕ). GivenAt new.stage x new.framing head body xs new.writer) (sym (append-nil taken))
        (subst (λ (stage : HopStage). GivenAt stage x new.framing head body taken new.writer) (sym s)
        (subst (λ (f' : Framing). GivenAt old.stage x f' head body taken new.writer) (sym f)
        (subst (λ (v : Writer). GivenAt old.stage x old.framing head body taken v) (sym w) h.given)));
    untouched = λ n. (append-nil taken ∙ (h.untouched (sym t ∙ n)).0, (h.untouched (sym t ∙ n)).1);
    touched = λ n. some_taken taken [] (inl (h.touched (sym t ∙ n)));
  };
  aside = λ taken h. record {
    text = subst (λ (xs : List ℕ). AsideAt new.stage xs new.writer) (sym (append-nil taken))
        (subst (λ (stage : HopStage). AsideAt stage taken new.writer) (sym s)
        (subst (λ (v : Writer). AsideAt old.stage taken v) (sym w) h.text));
    untouched = λ n. append-nil taken ∙ h.untouched (sym t ∙ n);
    touched = λ n. some_taken taken [] (inl (h.touched (sym t ∙ n)));
  };
  sent = 0;
  done = false;
  events_are = refl;
  counted = record { before = []; behind = []; bytes_are = refl };
  whole = λ h. cc;
  framing = f;
  gift = ap gift_of s;
}

-- what was given at a stage stays so for a writer with the same text waiting and as much left of its chunk
drop_text_at : (stage : HopStage) (x : Seen) (f : Framing) (head body taken : List ℕ) (v w : Writer) → waiting w ≡ waiting v
    → w.left ≡ v.left → GivenAt stage x f head body taken v → GivenAt stage x f head body taken w
drop_text_at at.Empty x f head body taken v w e l g = (ap (λ (xs : List ℕ). taken ++ xs) e ∙ g.0, g.1)
drop_text_at at.Message x f head body taken v w e l g =
    subst (λ (xs : List ℕ). GivesMessage x f false head body xs w) (append-nil taken) (gives_passed x f false head body taken [] v w e l g)
drop_text_at at.Whole x f head body taken v w e l g =
    subst (λ (xs : List ℕ). GivesMessage x f true head body xs w) (append-nil taken) (gives_passed x f true head body taken [] v w e l g)
drop_text_at (at.Refusal status) x f head body taken v w e l g = absurd g

-- what was taken while no message is written stays so for a writer with the same text waiting
aside_drop_text_at : (stage : HopStage) (taken : List ℕ) (v w : Writer) → waiting w ≡ waiting v → AsideAt stage taken v
    → AsideAt stage taken w
aside_drop_text_at at.Empty taken v w e a = ap (λ (xs : List ℕ). taken ++ xs) e ∙ a
aside_drop_text_at at.Message taken v w e a = absurd a
aside_drop_text_at at.Whole taken v w e a = absurd a
aside_drop_text_at (at.Refusal status) taken v w e a = ap (λ (xs : List ℕ). taken ++ xs) e ∙ a

-- memory that is given back changes nothing of what was given
drop_text_given : (x : Seen) (head body taken : List ℕ) (old new : Hop) → DropsText old new → HasGiven x head body taken old
    → HasGiven x head body taken new
drop_text_given x head body taken old new l h = record {
  given = subst (λ (stage : HopStage). GivenAt stage x new.framing head body taken new.writer) (sym l.stage)
      (subst (λ (f : Framing). GivenAt old.stage x f head body taken new.writer) (sym l.framing)
      (drop_text_at old.stage x old.framing head body taken old.writer new.writer l.waiting_is l.left h.given));
  untouched = λ n. h.untouched (sym l.touched ∙ n);
  touched = λ n. h.touched (sym l.touched ∙ n);
}

-- memory that is given back changes nothing of what was taken while no message is written
drop_text_aside : (taken : List ℕ) (old new : Hop) → DropsText old new → IsAside taken old → IsAside taken new
drop_text_aside taken old new l a = record {
  text = subst (λ (stage : HopStage). AsideAt stage taken new.writer) (sym l.stage)
      (aside_drop_text_at old.stage taken old.writer new.writer l.waiting_is a.text);
  untouched = λ n. a.untouched (sym l.touched ∙ n);
  touched = λ n. a.touched (sym l.touched ∙ n);
}

-- a side that goes on still does so where memory is given back after it
goes_drop_text : (x : Seen) (tape : Tape) (old mid new : Hop) (events : List Event) (delta : List ℕ) → DropsText mid new
    → GoesOn x tape old mid events delta → GoesOn x tape old new events delta
goes_drop_text x tape old mid new events delta l g = record {
  legal = g.legal;
  given = λ head body taken f h. drop_text_given (after_all x events) head body (taken ++ delta) mid new l (g.given head body taken f h);
  aside = λ taken a. drop_text_aside (taken ++ delta) mid new l (g.aside taken a);
  sent = g.sent;
  done = g.done;
  events_are = g.events_are;
  counted = g.counted;
  whole = λ d. (l.stage ∙ (g.whole d).0, l.waiting_is ∙ (g.whole d).1);
  framing = l.framing ∙ g.framing;
  gift = ap gift_of l.stage ∙ g.gift;
}

-- where nothing is due, nothing is once memory was given back
due_drop_text : (x : Seen) (old new : Hop) → DropsText old new → NothingDue x old → NothingDue x new
due_drop_text x old new l d = record {
  one = d.one;
  flushed = l.waiting_is ∙ d.flushed;
  none = λ m. d.none (ap is_message (sym l.stage) ∙ m);
  no_done = λ m. d.no_done (ap (λ (stage : HopStage). is_message stage || is_whole stage) (sym l.stage) ∙ m);
}

-- a result that fits what was offered still fits once memory was given back
fits_drop_text : (x : Seen) (old mid new : Hop) (answer : Option Put) (result : Result Turn RelayFault) → DropsText mid new
    → FitsOffer x old mid answer result → FitsOffer x old new answer result
fits_drop_text x old mid new answer (Ok turn) l f = record {
  no_fault = f.no_fault;
  wait = f.wait;
  idle = λ a n. due_drop_text x mid new l (f.idle a n);
  waiting_is = f.waiting_is;
  moved = f.moved;
  woke = f.woke;
}
fits_drop_text x old mid new answer (Err fault) l f = f

-- the same turn, and then memory is given back
pub turned_drop_text : (x : Seen) (tape : Tape) (old mid new : Hop) (before after' : Past → Type 0) (result : Result Turn RelayFault)
    → DropsText mid new → WriteTurn x tape old mid before after' result → WriteTurn x tape old new before after' result
turned_drop_text x tape old mid new before after' result l t = record {
  text = t.text;
  answer = t.answer;
  wire = t.wire;
  goes_on = goes_drop_text x tape old mid new (events_of result) (delta_of t.text t.answer) l t.goes_on;
  offers = t.offers;
  fits = λ n. fits_drop_text x old mid new t.answer result l (t.fits n);
}

-- what is decided over the parts of a side is decided over the side
pub decides_at : (x : Seen) (old : Hop) (v : Writer) (f : Framing) (stage : HopStage) (turn : ℕ) (next : Next) → v ≡ old.writer
    → f ≡ old.framing → stage ≡ old.stage → turn ≡ old.turn → Decides turn x v f stage next
    → Decides old.turn x old.writer old.framing old.stage next
decides_at x old v f stage turn next w fe se te c =
    subst (λ (v' : Writer). Decides old.turn x v' old.framing old.stage next) w
    (subst (λ (f' : Framing). Decides old.turn x v f' old.stage next) fe
    (subst (λ (s' : HopStage). Decides old.turn x v f s' next) se (subst (λ (n : ℕ). Decides n x v f stage next) te c)))

-- the writer and the rest of the side, by their parts
pub turned : (x : Seen) (tape : Tape) (next : Next) (old new : Hop) (v : Writer) (f : Framing) (stage : HopStage) (bytes : ℕ)
    (before after' : Past → Type 0) (result : Result Turn RelayFault) (answer : Option Put) (k : ℕ) (e done : Bool)
    → v ≡ old.writer → f ≡ old.framing → stage ≡ old.stage → bytes ≡ old.turn → Sound x → KeepsUndelivered x tape
    → Decides bytes x v f stage next → Offers before after' (offered v tape next) answer → (answer ≡ None → offered v tape next ≡ [])
    → (offered v tape next ≡ [] → answer ≡ None)
    → Moves tape next v k e (delta_of (offered v tape next) answer) new.writer
    → Settles x next old new k e done (delta_of (offered v tape next) answer) → events_of result ≡ hop_events k done
    → (old.fault ≡ None → FitsOffer x old new answer result) → WriteTurn x tape old new before after' result
turned x tape next old new v f stage bytes before after' result answer k e done w fe se be s u c o silent asks m t h fit =
    let text = offered v tape next in
    let decides : Decides old.turn x old.writer old.framing old.stage next = decides_at x old v f stage bytes next w fe se be c in
    record {
      text = text;
      answer = answer;
      wire = o;
      goes_on = subst (λ (events : List Event). GoesOn x tape old new events (delta_of text answer)) (sym h)
          (goes_on x tape next old new k e done (delta_of text answer) s u decides
          (subst (λ (v' : Writer). Moves tape next v' k e (delta_of text answer) new.writer) w m) t);
      offers = λ none. inr (record {
        next = next;
        decides = decides;
        all = ap (λ (v' : Writer). offered v' tape next) w;
        asks = (silent, asks);
      });
      fits = fit;
    }

-- no write is made
pub unmoved : (x : Seen) (tape : Tape) (old new : Hop) (before : Past → Type 0) (fault : RelayFault) → new.writer ≡ old.writer
    → new.framing ≡ old.framing → new.stage ≡ old.stage → new.touched ≡ old.touched
    → (old.fault ≡ None → fault ≡ Length) → (old.fault ≡ None → FitsOffer x old new None (Err fault))
    → WriteTurn x tape old new before before (Err fault)
unmoved x tape old new before fault w f s t only fit = record {
  text = [];
  answer = None;
  wire = record { each = λ p h. h; fits = tt };
  goes_on = goes_same x tape old new w f s t;
  offers = λ none. inl (ap (λ (g : RelayFault). Err g) (only none));
  fits = fit;
}

-- a side that had a fault answers it again, makes no write and stays the same
pub faulted : (x : Seen) (tape : Tape) (old : Hop) (before : Past → Type 0) (fault : RelayFault) → old.fault ≡ Some fault
    → WriteTurn x tape old old before before (Err fault)
faulted x tape old before fault e = unmoved x tape old old before fault refl refl refl refl (λ none. cc) (λ none. cc)

-- where the wire waits, a still turn counts no body byte and fixes no end
pub still_wait : (answer : Option Put) (k : ℕ) (e : Bool) → answer ≡ Some put.Wait → IsStill answer k e → (k ≡ 0) × (e ≡ false)
still_wait None k e a s = cc
still_wait (Some (put.Took n)) k e a s = cc
still_wait (Some put.Wait) k e a s = s
still_wait (Some put.Fault) k e a s = s

-- where the wire fails, a still turn counts no body byte and fixes no end
pub still_fault : (answer : Option Put) (k : ℕ) (e : Bool) → answer ≡ Some put.Fault → IsStill answer k e → (k ≡ 0) × (e ≡ false)
still_fault None k e a s = cc
still_fault (Some (put.Took n)) k e a s = cc
still_fault (Some put.Wait) k e a s = s
still_fault (Some put.Fault) k e a s = s

-- a wire that waits took no byte
pub no_delta_wait : (answer : Option Put) (text : List ℕ) → answer ≡ Some put.Wait → delta_of text answer ≡ []
no_delta_wait answer text a = ap (delta_of text) a

-- a wire that fails took no byte
pub no_delta_fault : (answer : Option Put) (text : List ℕ) → answer ≡ Some put.Fault → delta_of text answer ≡ []
no_delta_fault answer text a = ap (delta_of text) a

-- a wire that wasn't asked took no byte
pub no_delta_none : (answer : Option Put) (text : List ℕ) → answer ≡ None → delta_of text answer ≡ []
no_delta_none answer text a = ap (delta_of text) a

-- where no byte was counted and no end was fixed
pub settles_still : (x : Seen) (next : Next) (old new : Hop) (k : ℕ) (e : Bool) (d : List ℕ) → (k ≡ 0) × (e ≡ false) → d ≡ []
    → new.framing ≡ old.framing → new.stage ≡ old.stage → new.touched ≡ old.touched
    → Settles x next old new k e false d
settles_still x next old new k e d n z f s t = record {
  framing = f;
  stage = s ∙ ap (stage_then old.stage) (sym n.1);
  touched = λ u. (sym t ∙ u, z, n.0);
  reached = λ u. inl (sym t ∙ u);
  done_at = λ h. cc;
  may = λ h. cc;
}

-- what the wire took is a byte at least
pub took_some : (text : List ℕ) (answer : Option Put) (n : ℕ) → answer ≡ Some (put.Took n) → IfSome answer (FitsPut (length text))
    → 0 < length (delta_of text answer)
took_some text None n a f = cc
took_some text (Some (put.Took k)) n a f = omega (arith, length-take-le k text f.1, f.0)
took_some text (Some put.Wait) n a f = cc
took_some text (Some put.Fault) n a f = cc

-- a turn that counts no body byte has no event, without Done
pub none_still : (k : ℕ) (e : Bool) → (k ≡ 0) × (e ≡ false) → [] ≡ hop_events k false
none_still k e s = subst (λ (n : ℕ). [] ≡ hop_events n false) (sym s.0) refl

-- a turn that doesn't wait fits a wire that took bytes
pub fits_took : (x : Seen) (new : Hop) (answer : Option Put) (n : ℕ) (turn : Turn) → answer ≡ Some (put.Took n)
    → (turn.waiting ≡ true → true ≡ false) → FitsAnswer x new answer turn
fits_took x new answer n turn a t = record {
  no_fault = λ h. cc;
  wait = λ h. cc;
  idle = λ h. cc;
  waiting_is = λ h. absurd (let no : true ≡ false = t h in cc);
  moved = λ h i none. cc;
  woke = λ h i. cc;
}

-- a turn that waits and has no event fits a wire that waits
pub fits_wait : (x : Seen) (new : Hop) (answer : Option Put) (turn : Turn) → answer ≡ Some put.Wait → turn.events.items ≡ []
    → (turn.waiting ≡ false → turn.events.items ≡ [] → ⊥) → FitsAnswer x new answer turn
fits_wait x new answer turn a n t = record {
  no_fault = λ h. cc;
  wait = λ h. n;
  idle = λ h. cc;
  waiting_is = λ h. (n, inl a);
  moved = λ h i none. cc;
  woke = λ h i. t h n;
}

-- where the plan is plain, or a 204 came, no message was modified
plain_or : (x : Seen) (b c : Bool) → is_plain x.plan.kind ≡ b → x.no_mod ≡ c → b || c ≡ true → Sound x → x.modified ≡ false
plain_or x true c p m h s = grind (arith, nat_tests, s.plain p)
plain_or x false true p m h s = s.one m
plain_or x false false p m h s = cc

-- at most one message is chosen
chosen_once : (x : Seen) → Sound x → chooses_original x ≡ true → x.modified ≡ false
chosen_once x s h = plain_or x (is_plain x.plan.kind) x.no_mod refl refl h s

-- where a turn without bytes has no event, it has no Done
no_done : (done : Bool) → hop_events 0 done ≡ [] → done ≡ false
no_done true e = cc
no_done false e = refl

-- where no byte and no end comes next of a message, nor Done after its end, Done may not follow
due_by : (stage : HopStage) (x : Seen) (old : Hop) (next : Next) (e : Bool) → stage ≡ old.stage → Sound x
    → Decides old.turn x old.writer old.framing old.stage next → next.count ≡ 0 → e ≡ is_ending next.end → e ≡ false
    → (is_whole old.stage ≡ true → x.closed ≡ false → Allows x Done → ⊥) → is_message old.stage || is_whole old.stage ≡ true
    → x.closed ≡ false → Allows x Done → ⊥
due_by at.Empty x old next e s v c z i n m b o a = let t : (is_message at.Empty || is_whole at.Empty) ≡ true =
    ap (λ (st : HopStage). is_message st || is_whole st) s ∙ b in cc
due_by at.Message x old next e s v c z i n m b o a =
    let all = done_means x v a in
    c.no_end (ap is_message (sym s)) (sym i ∙ n) o all.0 (ap (λ (k : ℕ). chosen_delivered x + k) z ∙ (omega arith ∙ all.1))
due_by at.Whole x old next e s v c z i n m b o a = m (ap is_whole (sym s)) o a
due_by (at.Refusal status) x old next e s v c z i n m b o a =
    let t : (is_message (at.Refusal status) || is_whole (at.Refusal status)) ≡ true =
    ap (λ (st : HopStage). is_message st || is_whole st) s ∙ b in cc

-- where no byte comes next none may go
no_usr : (x : Seen) (old : Hop) (next : Next) → Decides old.turn x old.writer old.framing old.stage next → is_message old.stage ≡ true
    → next.count ≡ 0 → (n : ℕ) → x.closed ≡ false → Allows x (Usr n) → ⊥
no_usr x old next c m z n o a =
    absurd (omega (arith, z, c.some m n o a))

-- an idle turn, with its events and its waiting, fits a wire that wasn't asked
pub fits_none : (x : Seen) (old new : Hop) (next : Next) (answer : Option Put) (k : ℕ) (e done : Bool) (turn : Turn) → answer ≡ None
    → Sound x → Decides old.turn x old.writer old.framing old.stage next → IsIdle old.writer next k e
    → turn.events.items ≡ hop_events 0 done → (done ≡ false → e ≡ true → ⊥)
    → (done ≡ false → is_whole old.stage ≡ true → x.closed ≡ false → Allows x Done → ⊥)
    → (turn.waiting ≡ true → turn.events.items ≡ []) → (turn.waiting ≡ false → turn.events.items ≡ [] → ⊥) → waiting new.writer ≡ []
    → new.stage ≡ stage_then old.stage e → FitsAnswer x new answer turn
fits_none x old new next answer k e done turn a v c i h ne nm t f out st = record {
  no_fault = λ b. cc;
  wait = λ b. cc;
  idle = λ b n.
      let no = no_done done (sym h ∙ n) in
      let going : e ≡ false = not_true e (ne no) in
      let same : new.stage ≡ old.stage = st ∙ ap (stage_then old.stage) going in
      record {
        one = chosen_once x v;
        flushed = out;
        none = λ m. no_usr x old next c (ap is_message (sym same) ∙ m) i.none;
        no_done = λ m. due_by old.stage x old next e refl v c i.none i.end_fixed going (nm no)
            (ap (λ (stage : HopStage). is_message stage || is_whole stage) (sym same) ∙ m);
      };
  waiting_is = λ b. (t b, inr a);
  moved = λ b n none. f b n;
  woke = λ b o. cc;
}
  where
    not_true : (b : Bool) → (b ≡ true → ⊥) → b ≡ false
    not_true true n = absurd (n refl)
    not_true false n = refl

-- the events of an idle turn are those of no bytes
pub idle_events : (next : Next) (w : Writer) (k : ℕ) (e done : Bool) → IsIdle w next k e → hop_events 0 done ≡ hop_events k done
idle_events next w k e done i = ap (λ (n : ℕ). hop_events n done) (sym i.none_sent)

-- a Done may stand where the end is fixed, or where it may follow and no byte is counted
may_by : (x : Seen) (e may : Bool) (k s : ℕ) → (may ≡ true → (x.closed ≡ false) × Allows x Done) → (s ≡ 0 → k ≡ 0)
    → (e ≡ true) ⊎ ((may ≡ true) × (s ≡ 0)) → (e ≡ true) ⊎ ((x.closed ≡ false) × Allows x Done × (k ≡ 0))
may_by x e may k s a z (inl i) = inl i
may_by x e may k s a z (inr i) = inr ((a i.0).0, (a i.0).1, z i.1)

-- a side made of its parts settles what its turn counts, if each part fits
pub settles_by : (x : Seen) (next : Next) (old new : Hop) (w : Writer) (f : Framing) (stage : HopStage) (touched : Bool)
    (fault : Option RelayFault) (turn k s : ℕ) (e done may : Bool) (d : List ℕ)
    → new ≡ record { writer = w; framing = f; stage = stage_then stage e; touched = touched; fault = fault; turn = turn } → f ≡ old.framing
    → stage ≡ old.stage → (touched ≡ false → (old.touched ≡ false) × (d ≡ []) × (k ≡ 0))
    → (touched ≡ true → (old.touched ≡ true) ⊎ (0 < length d))
    → (done ≡ true → (stage_then stage e ≡ at.Whole) × (waiting w ≡ []) × ((e ≡ true) ⊎ ((may ≡ true) × (s ≡ 0))))
    → (may ≡ true → (x.closed ≡ false) × Allows x Done) → (s ≡ 0 → k ≡ 0)
    → Settles x next old new k e done d
settles_by x next old new w f stage touched fault turn k s e done may d n fe se t r g a z = record {
  framing = ap (λ (h : Hop). h.framing) n ∙ fe;
  stage = ap (λ (h : Hop). h.stage) n ∙ ap (λ (st : HopStage). stage_then st e) se;
  touched = λ u. t (sym (ap (λ (h : Hop). h.touched) n) ∙ u);
  reached = λ u. r (sym (ap (λ (h : Hop). h.touched) n) ∙ u);
  done_at = λ h. (ap (λ (hop : Hop). hop.stage) n ∙ (g h).0, ap (λ (hop : Hop). waiting hop.writer) n ∙ (g h).1);
  may = λ h. may_by x e may k s a z (g h).2;
}

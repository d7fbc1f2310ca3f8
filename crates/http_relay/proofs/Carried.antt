-- A turn's moves, as steps of what was given.
use Rattle.std.proofs.Common.{◌≡◌, ℕ, ◌+◌, ◌-◌, ◌<◌, ◌≤◌, ◌⊎◌, inl, inr, Bool, true, false, List, [], ◌∷◌, ◌++◌, length, take, drop, refl}
use Rattle.std.proofs.Common.{ap, sym, subst, ◌∙◌, append_assoc, append-nil, arith, IfSome, if◌then◌else◌, ◌==◌, Option}
use Rattle.std.proofs.lemmas.Bool.Decides.{nat_tests}
use Rattle.std.proofs.lemmas.Bool.{cases_lt}
use Rattle.std.proofs.lemmas.List.{length-take-le, take-take, drop-drop}
use Rattle.trace_core.specs.declared.history.Seen.{Seen}
use Rattle.trace_core.specs.declared.history.Event.TheVariants.{Usr, Done}
use Rattle.trace_core.specs.Legal.{Allows}
use Rattle.http_side.specs.Refusals.{refusal}
use Rattle.trace_core.specs.View.{after}
use Rattle.trace_core.proofs.Sound.{Sound}
use Rattle.span_tape.specs.Tape.{Tape}
use Rattle.chunk_writer.specs.declared.next.Next.{Next}
use Rattle.chunk_writer.specs.Writer.{Writer, waiting, fixed, after_data, bytes_of, end_text, is_ending, MayGoOn}
use Rattle.chunk_writer.specs.Moves.{Moves}
use Rattle.chunk_writer.specs.Moves.Moves.{start, passed, begun_chunk, sent, ended}
use Rattle.chunk_writer.proofs.Moving.{Reaches, there}
use Rattle.http_side.specs.declared.body.Framing.{Framing}
use Rattle.http_relay.specs.declared.hop.HopStage.{HopStage}
use Rattle.http_relay.specs.declared.hop.HopStage.TheVariants as at
use Rattle.http_relay.specs.Message.{is_chunks, length_of}
use Rattle.adapt_sides.specs.Tapes.{chosen_delivered, chosen_received}
use Rattle.http_relay.specs.Giving.{Front, GivesMessage, Waits, GivenAt, AsideAt, Decides, is_message, usr_events, hop_events, stage_then}
use Rattle.adapt_sides.specs.Tapes.{IsUndelivered}
use Rattle.trace_core.specs.Turns.{after_all, MayAllFollow}
use Rattle.adapt_sides.specs.Tapes.{Follows, KeepsUndelivered}
use Rattle.http_relay.proofs.Chosen.{Moved, fewer, usr_moves, usr_room, done_allowed, done_moves}
use Rattle.http_relay.proofs.Given.{gives_passed, gives_begun, gives_ended, gives_data}

abbrev pub usr_to : Seen → ℕ → Seen
usr_to x n = after_all x (usr_events n)

-- a number is itself with nothing added
add_zero : (n : ℕ) → n ≡ n + 0
add_zero n = omega arith

-- the event of bytes that may be given moves what went out by them, be they some or none
moved_by : (x : Seen) (n : ℕ) → Sound x → (0 < n → Allows x (Usr n)) → (0 < n) ⊎ (n ≤ 0) → Moved x (usr_to x n) n
moved_by x n s a (inl some) = let e : (n == 0) ≡ false = grind (arith, nat_tests) in rw e (usr_moves x n s (a some))
moved_by x n s a (inr none) =
    let z : n ≡ 0 = omega arith in
    subst (λ (k : ℕ). Moved x (usr_to x k) k) (sym z) (record {
      out = add_zero (chosen_delivered x);
      came = refl;
      over = refl;
      still = refl;
      sound = s;
    })

-- the event of bytes that may be given, if there are any, moves what went out by just these
pub moved_to : (x : Seen) (n : ℕ) → Sound x → (0 < n → Allows x (Usr n)) → Moved x (usr_to x n) n
moved_to x n s a = moved_by x n s a (cases_lt 0 n)

-- What is given to all moves of a turn.
pub record Held (x : Seen) (tape : Tape) (f : Framing) (old : Writer) (stage : HopStage) (next : Next) (body : List ℕ) : Type 0 where
  sound : Sound x
  turn : ℕ
  decided : Decides turn x old f stage next
  base : 0 < next.count → tape.base ≤ chosen_delivered x
  long : length (bytes_of tape next) ≡ next.count
  follows : Follows tape body

-- the first body bytes of a turn are those of the body from where they begin, on a tape that follows it
part_is : (tape : Tape) (next : Next) (body : List ℕ) (from k : ℕ) → next.from ≡ from → tape.base ≤ from → drop tape.base body ≡ tape.bytes
    → k ≤ next.count
    → take k (bytes_of tape next) ≡ take k (drop from body)
part_is tape next body from k e b i l =
    let behind_base : tape.base + (next.from - tape.base) ≡ from = omega arith in
    take-take k next.count (drop (next.from - tape.base) tape.bytes) l
    ∙ (ap (λ (xs : List ℕ). take k (drop (next.from - tape.base) xs)) (sym i)
    ∙ (ap (λ (xs : List ℕ). take k xs) (drop-drop (next.from - tape.base) tape.base body)
    ∙ ap (λ (m : ℕ). take k (drop m body)) behind_base))

-- one or more of the bytes that were decided may be given
pub allowed : {turn : ℕ} (x : Seen) (f : Framing) (old : Writer) (stage : HopStage) (next : Next) (k : ℕ) → Decides turn x old f stage next
    → k ≤ next.count → 0 < k → Allows x (Usr k)
allowed x f old stage next k c l some = fewer x k next.count some l (c.usr (omega arith)).2

-- body bytes of a turn that go out, where nothing waits, are given of the message
data_sent : (x : Seen) (tape : Tape) (f : Framing) (old v : Writer) (stage : HopStage) (next : Next) (head body taken : List ℕ) (k : ℕ)
    → Held x tape f old stage next body → waiting v ≡ []
    → 0 < k → k ≤ next.count → (next.chunked ≡ true → k ≤ v.left) → GivesMessage x f false head body taken v
    → GivesMessage (usr_to x k) f false head body (taken ++ take k (bytes_of tape next)) (after_data next.chunked v k)
data_sent x tape f old v stage next head body taken k g o some few within h =
    let part = take k (bytes_of tape next) in
    let long : length part ≡ k = length-take-le k (bytes_of tape next) (omega (arith, g.long)) in
    let here : part ≡ take k (drop (chosen_delivered x) body) =
    part_is tape next body (chosen_delivered x) k g.decided.from (g.base (omega arith)) (sym g.follows.bytes) few in
    let can : Allows x (Usr k) = allowed x f old stage next k g.decided few some in
    let m : Moved x (usr_to x k) k = moved_to x k g.sound (λ h'. can) in
    subst (λ (n : ℕ). GivesMessage (usr_to x k) f false head body (taken ++ part) (after_data next.chunked v n)) long
    (gives_data x (usr_to x k) f head body taken part v next.chunked (sym g.decided.chunked)
    (subst (λ (n : ℕ). Moved x (usr_to x k) n) (sym long) m) o
    (here ∙ ap (λ (n : ℕ). take n (drop (chosen_delivered x) body)) (sym long)) (omega arith) (λ c. omega (arith, long, within c))
    (omega (arith, long, usr_room x k g.sound can)) (g.decided.room (omega arith)) h)

-- where all that came is out, a length that is what came is what went out
exact_at : (o : Option ℕ) (came out : ℕ) → out ≡ came → IfSome o (λ n. came ≡ n) → IfSome o (λ n. out ≡ n)
exact_at o came out e h = subst (λ (m : ℕ). IfSome o (λ n. m ≡ n)) (sym e) h

-- the body's end, fixed after all bytes of a turn, makes the message whole
ended_at : (x : Seen) (tape : Tape) (f : Framing) (old v : Writer) (stage : HopStage) (next : Next) (head body taken : List ℕ)
    → Held x tape f old stage next body → waiting v ≡ [] → is_ending next.end ≡ true
    → GivesMessage (usr_to x next.count) f false head body taken v
    → GivesMessage (usr_to x next.count) f true head body taken (fixed v (end_text next.end))
ended_at x tape f old v stage next head body taken g o i h =
    let m = moved_to x next.count g.sound (λ some. (g.decided.usr some).2) in
    let due = g.decided.ends i in
    let all : chosen_delivered (usr_to x next.count) ≡ chosen_received (usr_to x next.count) = m.out ∙ (due.3 ∙ sym m.came) in
    subst (λ (xs : List ℕ). GivesMessage (usr_to x next.count) f true head body taken (fixed v xs)) (sym (g.decided.text i))
    (gives_ended (usr_to x next.count) f head body taken v o (m.over ∙ due.2) all
    (exact_at (length_of f) (chosen_received x) (chosen_delivered (usr_to x next.count)) (all ∙ m.came) (g.decided.exact i)) h)

-- a message's moves
pub carried : (x : Seen) (tape : Tape) (f : Framing) (stage : HopStage) (next : Next) (old w : Writer) (head body taken : List ℕ) (k : ℕ)
    (e : Bool) (d : List ℕ) → Held x tape f old stage next body
    → Moves tape next old k e d w → GivesMessage x f false head body taken old → GivesMessage (usr_to x k) f e head body (taken ++ d) w
carried x tape f stage next old w head body taken k e d g start h =
    subst (λ (xs : List ℕ). GivesMessage x f false head body xs old) (sym (append-nil taken)) h
carried x tape f stage next old w head body taken k e d g (passed {d = d'} {v = v} m part w' p) h =
    let before = carried x tape f stage next old v head body taken k e d' g m h in
    subst (λ (xs : List ℕ). GivesMessage (usr_to x k) f e head body xs w) (append_assoc taken d' part)
    (gives_passed (usr_to x k) f e head body (taken ++ d') part v w p.rest p.left before)
carried x tape f stage next old w head body taken k e d g (begun_chunk {v = v} m c o l s) h =
    gives_begun x f head body (taken ++ d) v next.count (sym g.decided.chunked ∙ c) s o l
    (usr_room x next.count g.sound (g.decided.usr s).2)
    (carried x tape f stage next old v head body taken 0 false d g m h)
carried x tape f stage next old w head body taken k e d g (sent {d = d'} {v = v} m k' o s few within) h =
    let before = carried x tape f stage next old v head body taken 0 false d' g m h in
    let part = take k (bytes_of tape next) in
    subst (λ (xs : List ℕ). GivesMessage (usr_to x k) f false head body xs (after_data next.chunked v k)) (append_assoc taken d' part)
    (data_sent x tape f old v stage next head body (taken ++ d') k g o s few within before)
carried x tape f stage next old w head body taken k e d g (ended {v = v} m o a i) h =
    let before = carried x tape f stage next old v head body taken k false d g m h in
    subst (λ (n : ℕ). GivesMessage (usr_to x n) f true head body (taken ++ d) (fixed v (end_text next.end))) (sym a)
    (ended_at x tape f old v stage next head body (taken ++ d) g o i (subst
    (λ (n : ℕ). GivesMessage (usr_to x n) f false head body (taken ++ d) v) a before))

-- Where nothing may come next, what waits passes, and nothing else.
pub record OnlyPasses (old w : Writer) (d : List ℕ) (k : ℕ) (e : Bool) : Type 0 where
  pub rest : d ++ waiting w ≡ waiting old
  pub left : w.left ≡ old.left
  pub none : k ≡ 0
  pub not_ended : e ≡ false

-- where no byte and no end comes next, the moves of a turn only pass what waited
pub only_passes : (tape : Tape) (next : Next) (old w : Writer) (k : ℕ) (e : Bool) (d : List ℕ) → next.count ≡ 0 → is_ending next.end ≡ false
    → Moves tape next old k e d w → OnlyPasses old w d k e
only_passes tape next old w k e d z n start = record { rest = refl; left = refl; none = refl; not_ended = refl }
only_passes tape next old w k e d z n (passed {d = d'} {v = v} m part w' p) =
    let before = only_passes tape next old v k e d' z n m in
    record {
      rest = append_assoc d' part (waiting w) ∙ (ap (λ (xs : List ℕ). d' ++ xs) p.rest ∙ before.rest);
      left = p.left ∙ before.left;
      none = before.none;
      not_ended = before.not_ended;
    }
only_passes tape next old w k e d z n (begun_chunk m c o l s) = absurd (omega arith)
only_passes tape next old w k e d z n (sent m k' o s few within) = absurd (omega arith)
only_passes tape next old w k e d z n (ended m o a i) = cc

-- where no message is written, no body byte comes next
not_begun : {turn : ℕ} (x : Seen) (f : Framing) (old : Writer) (stage : HopStage) (next : Next) → is_message stage ≡ false
    → Decides turn x old f stage next → (0 < next.count) ⊎ (next.count ≤ 0) → next.count ≡ 0
not_begun x f old stage next m c (inl some) = let t : is_message stage ≡ true = (c.usr some).0 in cc
not_begun x f old stage next m c (inr none) = omega arith

-- where no message is written, no end of a body comes next
not_ending : {turn : ℕ} (x : Seen) (f : Framing) (old : Writer) (stage : HopStage) (next : Next) (b : Bool) → is_ending next.end ≡ b
    → is_message stage ≡ false → Decides turn x old f stage next → b ≡ false
not_ending x f old stage next true i m c = let t : is_message stage ≡ true = (c.ends i).0 in cc
not_ending x f old stage next false i m c = refl

-- where no message is written, the moves of a turn only pass what waited
passes_by : {turn : ℕ} (x : Seen) (tape : Tape) (f : Framing) (old w : Writer) (stage : HopStage) (next : Next) (k : ℕ) (e : Bool)
    (d : List ℕ) → is_message stage ≡ false → Decides turn x old f stage next → Moves tape next old k e d w → OnlyPasses old w d k e
passes_by x tape f old w stage next k e d m c v =
    only_passes tape next old w k e d (not_begun x f old stage next m c (cases_lt 0 next.count))
    (not_ending x f old stage next (is_ending next.end) refl m c) v

-- what was taken and what waits are the same text when some of this goes out
text_passed : (taken d all : List ℕ) (old w : Writer) → d ++ waiting w ≡ waiting old → taken ++ waiting old ≡ all
    → (taken ++ d) ++ waiting w ≡ all
text_passed taken d all old w p e = append_assoc taken d (waiting w) ∙ (ap (λ (xs : List ℕ). taken ++ xs) p ∙ e)

-- by the stage
pub given_on : (stage : HopStage) (x : Seen) (tape : Tape) (f : Framing) (old w : Writer) (next : Next) (head body taken : List ℕ) (k : ℕ)
    (e : Bool) (d : List ℕ) → Held x tape f old stage next body
    → Moves tape next old k e d w → GivenAt stage x f head body taken old
    → GivenAt (stage_then stage e) (usr_to x k) f head body (taken ++ d) w
given_on at.Empty x tape f old w next head body taken k e d g m h =
    let p = passes_by x tape f old w at.Empty next k e d refl g.decided m in
    subst (λ (b : Bool). GivenAt (stage_then at.Empty b) (usr_to x k) f head body (taken ++ d) w) (sym p.not_ended)
    (subst (λ (n : ℕ). GivenAt at.Empty (usr_to x n) f head body (taken ++ d) w) (sym p.none)
    (text_passed taken d [] old w p.rest h.0, h.1))
given_on at.Message x tape f old w next head body taken k true d g m h =
    carried x tape f at.Message next old w head body taken k true d g m h
given_on at.Message x tape f old w next head body taken k false d g m h =
    carried x tape f at.Message next old w head body taken k false d g m h
given_on at.Whole x tape f old w next head body taken k e d g m h =
    let p = passes_by x tape f old w at.Whole next k e d refl g.decided m in
    subst (λ (b : Bool). GivenAt (stage_then at.Whole b) (usr_to x k) f head body (taken ++ d) w) (sym p.not_ended)
    (subst (λ (n : ℕ). GivesMessage (usr_to x n) f true head body (taken ++ d) w) (sym p.none)
    (gives_passed x f true head body taken d old w p.rest p.left h))
given_on (at.Refusal status) x tape f old w next head body taken k e d g m h = absurd h

-- and of a refusal
pub aside_on : {turn : ℕ} (stage : HopStage) (x : Seen) (tape : Tape) (f : Framing) (old w : Writer) (next : Next) (taken : List ℕ) (k : ℕ)
    (e : Bool) (d : List ℕ) → Decides turn x old f stage next
    → Moves tape next old k e d w → AsideAt stage taken old → AsideAt (stage_then stage e) (taken ++ d) w
aside_on at.Empty x tape f old w next taken k e d c m h =
    let p = passes_by x tape f old w at.Empty next k e d refl c m in
    subst (λ (b : Bool). AsideAt (stage_then at.Empty b) (taken ++ d) w) (sym p.not_ended) (text_passed taken d [] old w p.rest h)
aside_on at.Message x tape f old w next taken k e d c m h = absurd h
aside_on at.Whole x tape f old w next taken k e d c m h = absurd h
aside_on (at.Refusal status) x tape f old w next taken k e d c m h =
    let p = passes_by x tape f old w (at.Refusal status) next k e d refl c m in
    subst (λ (b : Bool). AsideAt (stage_then (at.Refusal status) b) (taken ++ d) w) (sym p.not_ended)
    (text_passed taken d (refusal status) old w p.rest h)

-- Done changes nothing of what was given
same_message : (x : Seen) (f : Framing) (b : Bool) (head body taken : List ℕ) (w : Writer) → GivesMessage x f b head body taken w
    → GivesMessage (after x Done) f b head body taken w
same_message x f b head body taken w g =
    let s = done_moves x in
    record {
      behind = g.behind;
      fixed_is = g.fixed_is;
      front = subst (λ (n : ℕ). Front f b (take n body) g.behind w.left) (sym s.0) g.front;
      there = omega (arith, g.there, s.0, s.1);
      within = subst (λ (m : ℕ). IfSome (length_of f) (λ n. m ≤ n)) (sym s.0) g.within;
      waits = λ some. subst (λ (n : ℕ). Waits (is_chunks f) (take n body) g.behind (waiting w)) (sym s.0)
          (g.waits (omega (arith, some, s.0)));
      all_out = λ h. (
        s.2 ∙ (g.all_out h).0,
        s.0 ∙ ((g.all_out h).1 ∙ sym s.1),
        subst (λ (m : ℕ). IfSome (length_of f) (λ n. m ≡ n)) (sym s.0) (g.all_out h).2,
      );
    }

-- Done sends no byte
pub undelivered_done : (x : Seen) → IsUndelivered x → IsUndelivered (after x Done)
undelivered_done x h = (grind (arith, nat_tests, h.0), grind (arith, nat_tests, h.1))

-- at each stage, Done changes nothing of what was given
pub done_given : (stage : HopStage) (x : Seen) (f : Framing) (head body taken : List ℕ) (w : Writer) → GivenAt stage x f head body taken w
    → GivenAt stage (after x Done) f head body taken w
done_given at.Empty x f head body taken w g = (g.0, undelivered_done x g.1)
done_given at.Message x f head body taken w g = same_message x f false head body taken w g
done_given at.Whole x f head body taken w g = same_message x f true head body taken w g
done_given (at.Refusal status) x f head body taken w g = g

-- The events are legal.
usr_legal : (x : Seen) (n : ℕ) → (0 < n → (x.closed ≡ false) × Allows x (Usr n)) → (0 < n) ⊎ (n ≤ 0) → MayAllFollow x (usr_events n)
usr_legal x n a (inl some) = let e : (n == 0) ≡ false = grind (arith, nat_tests) in rw e ((a some).0, (a some).1, tt)
usr_legal x n a (inr none) = let e : (n == 0) ≡ true = grind (arith, nat_tests) in rw e tt

-- where Done may follow the event of a turn's bytes, both may follow in a row
done_by : (x : Seen) (n : ℕ) (b : Bool) → MayAllFollow x (if b then [] else Usr n ∷ [])
    → (after_all x (if b then [] else Usr n ∷ [])).closed ≡ false
    → Allows (after_all x (if b then [] else Usr n ∷ [])) Done → MayAllFollow x ((if b then [] else Usr n ∷ []) ++ Done ∷ [])
done_by x n true l o a = (o, a, tt)
done_by x n false l o a = (l.0, l.1, (o, a, tt))

-- Done may come after the turn's bytes: the end was fixed in this turn, or Done may follow at once
pub record MayEnd (x : Seen) (next : Next) (k : ℕ) (e : Bool) : Type 0 where
  pub now : (e ≡ true) ⊎ ((x.closed ≡ false) × Allows x Done × (k ≡ 0))

-- where one or more of the bytes that were decided go out, the history is open and they may be given
open_usr : {turn : ℕ} (x : Seen) (f : Framing) (old : Writer) (stage : HopStage) (next : Next) (k : ℕ) → Decides turn x old f stage next
    → k ≤ next.count → 0 < k → (x.closed ≡ false) × Allows x (Usr k)
open_usr x f old stage next k c l some = ((c.usr (omega arith)).1, allowed x f old stage next k c l some)

-- a turn's events with Done may follow where it fixed the end, or where Done may follow at once
legal_done : {turn : ℕ} (x : Seen) (f : Framing) (old : Writer) (stage : HopStage) (next : Next) (k : ℕ) (e : Bool) → Sound x
    → Decides turn x old f stage next → Reaches next k e
    → (e ≡ true) ⊎ ((x.closed ≡ false) × Allows x Done × (k ≡ 0)) → MayAllFollow x (hop_events k true)
legal_done x f old stage next k e s c r (inl i) =
    let all = r.all i in
    let due = c.ends all.1 in
    let m = moved_to x next.count s (λ some. (c.usr some).2) in
    subst (λ (n : ℕ). MayAllFollow x (hop_events n true)) (sym all.0)
    (done_by x next.count (next.count == 0) (usr_legal x next.count (open_usr x f old stage next next.count c (omega arith))
    (cases_lt 0 next.count))
    (m.still ∙ due.1) (done_allowed (usr_to x next.count) m.sound (m.over ∙ due.2) (m.out ∙ (due.3 ∙ sym m.came))))
legal_done x f old stage next k e s c r (inr i) = subst (λ (n : ℕ). MayAllFollow x (hop_events n true)) (sym i.2) (i.0, i.1, tt)

-- a turn's events may follow, with Done where it may stand, or without it
pub legal_by : {turn : ℕ} (x : Seen) (f : Framing) (old : Writer) (stage : HopStage) (next : Next) (k : ℕ) (e done : Bool) → Sound x
    → Decides turn x old f stage next → Reaches next k e
    → (done ≡ true → (e ≡ true) ⊎ ((x.closed ≡ false) × Allows x Done × (k ≡ 0))) → MayAllFollow x (hop_events k done)
legal_by x f old stage next k e true s c r a = legal_done x f old stage next k e s c r (a refl)
legal_by x f old stage next k e false s c r a = usr_legal x k (open_usr x f old stage next k c r.few) (cases_lt 0 k)

-- where body bytes come next, the tape begins no later than what was delivered ends
base_of : {turn : ℕ} (x : Seen) (tape : Tape) (f : Framing) (old : Writer) (stage : HopStage) (next : Next) → KeepsUndelivered x tape
    → Decides turn x old f stage next → 0 < next.count → tape.base ≤ chosen_delivered x
base_of x tape f old stage next u c some = omega (arith, u.base (c.usr some).1)

-- a turn may be made by what was decided
pub may_go_on : {turn : ℕ} (x : Seen) (tape : Tape) (f : Framing) (old : Writer) (stage : HopStage) (next : Next) → Sound x
    → KeepsUndelivered x tape → Decides turn x old f stage next → MayGoOn old tape next
may_go_on x tape f old stage next s u c = record {
  low = λ some. omega (arith, base_of x tape f old stage next u c some, c.from);
  there = λ some. omega (arith, c.from, u.end, usr_room x next.count s (c.usr some).2);
  few = c.fits.0;
  within = c.fits.1;
}

-- a turn that was decided has all that its moves need, on a tape that keeps what is undelivered
pub held_by : {turn : ℕ} (x : Seen) (tape : Tape) (f : Framing) (old : Writer) (stage : HopStage) (next : Next) (body : List ℕ) → Sound x
    → KeepsUndelivered x tape → Decides turn x old f stage next → Follows tape body → Held x tape f old stage next body
held_by {turn} x tape f old stage next body s u c i = record {
  sound = s;
  turn = turn;
  decided = c;
  base = base_of x tape f old stage next u c;
  long = there old tape next (may_go_on x tape f old stage next s u c);
  follows = i;
}

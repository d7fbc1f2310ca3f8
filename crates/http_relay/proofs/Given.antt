-- What was given, over the moves of a turn.
use Rattle.std.proofs.Common.{◌≡◌, ℕ, ◌+◌, ◌-◌, ◌<◌, ◌≤◌, Bool, true, false, List, [], ◌∷◌, ◌++◌, length, take, drop, refl, ap, sym, subst}
use Rattle.std.proofs.Common.{◌∙◌, append_assoc, append-nil, arith, IfSome, if◌then◌else◌, nat_lt, Option, Some, None}
use Rattle.std.proofs.lemmas.Bool.Decides.{nat_tests}
use Rattle.std.proofs.Math.Seq.{take-add}
use Rattle.icap_chunks.specs.Grammar.{chunk_head, last_chunk, crlf}
use Rattle.trace_core.specs.declared.history.Seen.{Seen}
use Rattle.chunk_writer.specs.Cut.{IsCut, Run}
use Rattle.chunk_writer.specs.Cut.Run.{between, inside}
use Rattle.chunk_writer.specs.Writer.{Writer, waiting, begun, fixed, after_data}
use Rattle.chunk_writer.proofs.Rests.{waits_passed, waits_none, waits_end, waits_next, waits_last}
use Rattle.chunk_writer.proofs.Runs.{run_begun, run_on, run_closed}
use Rattle.chunk_writer.proofs.Moving.{fixed_next}
use Rattle.http_side.specs.declared.body.Framing.{Framing}
use Rattle.http_relay.specs.Message.{is_chunks, length_of}
use Rattle.adapt_sides.specs.Tapes.{chosen_delivered, chosen_received, chosen_over}
use Rattle.http_relay.specs.Giving.{Front, GivesMessage, Waits, body_end}
use Rattle.http_relay.specs.Giving.Front.{plain, run, over}
use Rattle.http_relay.proofs.Chosen.{Moved}

-- What is fixed of the body's text.
front_begun : (f : Framing) (body text : List ℕ) (n : ℕ) → is_chunks f ≡ true → 0 < n → Front f false body text 0
    → Front f false body (text ++ chunk_head n) n
front_begun f body text n c some (plain p z t) = cc
front_begun f body text n c some (run p w r) = run p w (run_begun body text n some r)
front_begun f body text n c some (over p w z k i t) = cc

-- what is fixed of a body's text goes on by fewer bytes than its chunk waits for, and waits for the others
front_on : (f : Framing) (body text d : List ℕ) (left : ℕ) → length d < left → Front f false body text left
    → Front f false (body ++ d) (text ++ d) (left - length d)
front_on f body text d left more (plain p z t) = absurd (omega arith)
front_on f body text d left more (run p w r) = run p w (run_on body text d left more r)
front_on f body text d left more (over p w z k i t) = absurd (omega arith)

-- what is fixed of a body's text goes on by all bytes for which its chunk waits, and CR LF, which close the chunk
front_closed : (f : Framing) (body text d : List ℕ) (left : ℕ) → 0 < left → length d ≡ left → Front f false body text left
    → Front f false (body ++ d) (text ++ (d ++ crlf)) 0
front_closed f body text d left some all (plain p z t) = absurd (omega arith)
front_closed f body text d left some all (run p w r) = run p w (run_closed body text d left some all r)
front_closed f body text d left some all (over p w z k i t) = absurd (omega arith)

-- without chunks, what is fixed of a body's text goes on by any more bytes of the body
front_plain : (f : Framing) (body text d : List ℕ) (left : ℕ) → is_chunks f ≡ false → Front f false body text left
    → Front f false (body ++ d) (text ++ d) left
front_plain f body text d left c (plain p z t) = plain p z (ap (λ (xs : List ℕ). xs ++ d) t)
front_plain f body text d left c (run p w r) = cc
front_plain f body text d left c (over p w z k i t) = cc

-- a run of chunks that waits for no byte is whole chunks
run_cut : (body text : List ℕ) → Run body text 0 → IsCut body text
run_cut body text (between z c) = c
run_cut body text (inside b t bytes l c e f) = absurd (omega arith)

-- what is fixed of a body's text, where no chunk waits for a byte, and the body's end are the whole text
front_end : (f : Framing) (body text : List ℕ) → Front f false body text 0 → Front f true body (text ++ body_end f) 0
front_end f body text (plain p z t) = rw p (plain p refl (append-nil text ∙ t))
front_end f body text (run p w r) = rw p (over p refl refl text (run_cut body text r) refl)
front_end f body text (over p w z k i t) = cc

-- in chunks it is a run
front_run : (f : Framing) (body text : List ℕ) (left : ℕ) → is_chunks f ≡ true → Front f false body text left → Run body text left
front_run f body text left c (plain p z t) = cc
front_run f body text left c (run p w r) = r
front_run f body text left c (over p w z k i t) = cc

-- a part of what waited went out
first_none : (part waits : List ℕ) → part ++ waits ≡ [] → waits ≡ []
first_none [] waits e = e
first_none (b ∷ part) waits e = cc

-- what waits after the last byte of the body that is out still does so when some of it went out
still_waits : (chunked : Bool) (body fixed part waits old : List ℕ) → part ++ waits ≡ old → Waits chunked body fixed old
    → Waits chunked body fixed waits
still_waits true body fixed part waits old e w = waits_passed (Run body) fixed part waits old e w
still_waits false body fixed part waits old e w = first_none part waits (e ∙ w)

-- What was given of the message.
behind_by : (taken head chunks front more : List ℕ) → taken ≡ head ++ chunks → front ++ more ≡ more
    → taken ++ (front ++ more) ≡ head ++ (chunks ++ more)
behind_by taken head chunks front more e f = ap (λ (xs : List ℕ). taken ++ xs) f
    ∙ (ap (λ (xs : List ℕ). xs ++ more) e ∙ append_assoc head chunks more)

-- where nothing waits, what was taken is the head and all that is fixed of the body's text
all_taken : (x : Seen) (f : Framing) (b : Bool) (head body taken : List ℕ) (w : Writer) (g : GivesMessage x f b head body taken w)
    → waiting w ≡ [] → taken ≡ head ++ g.behind
all_taken x f b head body taken w g e = sym (append-nil taken) ∙ (ap (λ (xs : List ℕ). taken ++ xs) (sym e) ∙ g.fixed_is)

-- first bytes of what waits of a message, once they go out, were taken of it
pub gives_passed : (x : Seen) (f : Framing) (b : Bool) (head body taken part : List ℕ) (v w : Writer) → part ++ waiting w ≡ waiting v
    → w.left ≡ v.left → GivesMessage x f b head body taken v → GivesMessage x f b head body (taken ++ part) w
gives_passed x f b head body taken part v w r l g = record {
  behind = g.behind;
  fixed_is = append_assoc taken part (waiting w) ∙ (ap (λ (xs : List ℕ). taken ++ xs) r ∙ g.fixed_is);
  front = subst (Front f b (take (chosen_delivered x) body) g.behind) (sym l) g.front;
  there = omega (arith, g.there, l);
  within = g.within;
  waits = λ some. still_waits (is_chunks f) (take (chosen_delivered x) body) g.behind part (waiting w) (waiting v) r (g.waits some);
  all_out = g.all_out;
}

-- a chunk of bytes that came may begin in a message of which nothing waits
pub gives_begun : (x : Seen) (f : Framing) (head body taken : List ℕ) (w : Writer) (n : ℕ) → is_chunks f ≡ true → 0 < n → waiting w ≡ []
    → w.left ≡ 0 → chosen_delivered x + n ≤ chosen_received x
    → GivesMessage x f false head body taken w → GivesMessage x f false head body taken (begun w n)
gives_begun x f head body taken w n c some e z r g = record {
  behind = g.behind ++ chunk_head n;
  fixed_is = behind_by taken head g.behind (drop w.head_out w.head) (chunk_head n) (all_taken x f false head body taken w g e)
      (fixed_next w (chunk_head n) e);
  front = front_begun f (take (chosen_delivered x) body) g.behind n c some
      (subst (Front f false (take (chosen_delivered x) body) g.behind) z g.front);
  there = r;
  within = g.within;
  waits = λ any. subst (Waits (is_chunks f) (take (chosen_delivered x) body) (g.behind ++ chunk_head n))
      (sym (fixed_next w (chunk_head n) e))
      (rw c (waits_next (Run (take (chosen_delivered x) body)) g.behind n
      (front_run f (take (chosen_delivered x) body) g.behind 0 c (subst (Front f false (take (chosen_delivered x) body) g.behind) z
      g.front))));
  all_out = λ h. cc;
}

-- what waits once the end is fixed
end_waits : (f : Framing) (chunked : Bool) (body text : List ℕ) → is_chunks f ≡ chunked → Front f false body text 0
    → Waits chunked body (text ++ (if chunked then last_chunk false else [])) (if chunked then last_chunk false else [])
end_waits f true body text c h = waits_last (Run body) text false (front_run f body text 0 c h)
end_waits f false body text c h = refl

-- a message of which all came and is out is given whole once its body's end is fixed
pub gives_ended : (x : Seen) (f : Framing) (head body taken : List ℕ) (w : Writer) → waiting w ≡ [] → chosen_over x ≡ true
    → chosen_delivered x ≡ chosen_received x → IfSome (length_of f) (λ n. chosen_delivered x ≡ n)
    → GivesMessage x f false head body taken w → GivesMessage x f true head body taken (fixed w (body_end f))
gives_ended x f head body taken w e o a i g =
    let z : w.left ≡ 0 = omega (arith, g.there) in
    record {
      behind = g.behind ++ body_end f;
      fixed_is = behind_by taken head g.behind (drop w.head_out w.head) (body_end f) (all_taken x f false head body taken w g e)
          (fixed_next w (body_end f) e);
      front = subst (Front f true (take (chosen_delivered x) body) (g.behind ++ body_end f)) (sym z)
          (front_end f (take (chosen_delivered x) body) g.behind (subst (Front f false (take (chosen_delivered x) body) g.behind) z
          g.front));
      there = g.there;
      within = g.within;
      waits = λ any. subst (Waits (is_chunks f) (take (chosen_delivered x) body) (g.behind ++ body_end f))
          (sym (fixed_next w (body_end f) e))
          (end_waits f (is_chunks f) (take (chosen_delivered x) body) g.behind refl
          (subst (Front f false (take (chosen_delivered x) body) g.behind) z g.front));
      all_out = λ h. (o, a, i);
    }

-- more bytes of the body
more_out : (body : List ℕ) (out k : ℕ) (d : List ℕ) → d ≡ take k (drop out body) → take out body ++ d ≡ take (out + k) body
more_out body out k d e = ap (λ (xs : List ℕ). take out body ++ xs) e ∙ sym (take-add out k body)

-- bytes that have come are within a length that is no less than all that came
within_more : (o : Option ℕ) (out k came : ℕ) → out + k ≤ came → IfSome o (λ n. came ≤ n) → IfSome o (λ n. out + k ≤ n)
within_more None out k came l h = tt
within_more (Some n) out k came l h = omega arith

-- without chunks, body bytes that go out where nothing waits are given of the message
data_plain : (x y : Seen) (f : Framing) (head body taken d : List ℕ) (w : Writer) → is_chunks f ≡ false → Moved x y (length d)
    → waiting w ≡ [] → d ≡ take (length d) (drop (chosen_delivered x) body)
    → chosen_delivered x + length d ≤ chosen_received x → IfSome (length_of f) (λ n. chosen_received x ≤ n)
    → GivesMessage x f false head body taken w → GivesMessage y f false head body (taken ++ d) w
data_plain x y f head body taken d w c m e i room l g =
    let none : w.left ≡ 0 = no_left f body d g.behind w.left (chosen_delivered x) c g.front in
    record {
      behind = g.behind ++ d;
      fixed_is = append_assoc taken d (waiting w) ∙ (ap (λ (xs : List ℕ). taken ++ (d ++ xs)) e
          ∙ (ap (λ (xs : List ℕ). taken ++ xs) (append-nil d) ∙ (ap (λ (xs : List ℕ). xs ++ d) (all_taken x f false head body taken w g e)
          ∙ append_assoc head g.behind d)));
      front = subst (λ (xs : List ℕ). Front f false xs (g.behind ++ d) w.left)
          (more_out body (chosen_delivered x) (length d) d i ∙ ap (λ (n : ℕ). take n body) (sym m.out))
          (front_plain f (take (chosen_delivered x) body) g.behind d w.left c g.front);
      there = omega (arith, m.out, m.came);
      within = subst (λ (n : ℕ). IfSome (length_of f) (λ k. n ≤ k)) (sym m.out)
          (within_more (length_of f) (chosen_delivered x) (length d) (chosen_received x) room l);
      waits = λ any. rw c e;
      all_out = λ h. cc;
    }
  where
    no_left : (f : Framing) (body d text : List ℕ) (left out : ℕ) → is_chunks f ≡ false → Front f false (take out body) text left → left ≡ 0
    no_left f body d text left out c (plain p z t) = z
    no_left f body d text left out c (run p q r) = cc
    no_left f body d text left out c (over p q z k i t) = z

-- in chunks, body bytes that go out are given, and close their chunk if they are its last
data_by : (x y : Seen) (f : Framing) (head body taken d : List ℕ) (w : Writer) (b : Bool) → is_chunks f ≡ true
    → nat_lt (length d) w.left ≡ b → Moved x y (length d) → waiting w ≡ [] → d ≡ take (length d) (drop (chosen_delivered x) body)
    → 0 < length d → length d ≤ w.left → chosen_delivered x + length d ≤ chosen_received x
    → IfSome (length_of f) (λ n. chosen_received x ≤ n) → GivesMessage x f false head body taken w
    → GivesMessage y f false head body (taken ++ d)
    (record {
      head = w.head;
      head_out = w.head_out;
      framing = if b then w.framing else crlf;
      framing_out = if b then w.framing_out else 0;
      left = w.left - length d;
    })
data_by x y f head body taken d w true c t m e i some most room l g =
    let more : length d < w.left = grind (arith, nat_tests) in
    let h : Front f false (take (chosen_delivered y) body) (g.behind ++ d) (w.left - length d) =
    subst (λ (xs : List ℕ). Front f false xs (g.behind ++ d) (w.left - length d))
    (more_out body (chosen_delivered x) (length d) d i ∙ ap (λ (n : ℕ). take n body) (sym m.out))
    (front_on f (take (chosen_delivered x) body) g.behind d w.left more g.front) in
    record {
      behind = g.behind ++ d;
      fixed_is = append_assoc taken d (waiting w) ∙ (ap (λ (xs : List ℕ). taken ++ (d ++ xs)) e
          ∙ (ap (λ (xs : List ℕ). taken ++ xs) (append-nil d) ∙ (ap (λ (xs : List ℕ). xs ++ d) (all_taken x f false head body taken w g e)
          ∙ append_assoc head g.behind d)));
      front = h;
      there = omega (arith, m.out, m.came, g.there);
      within = subst (λ (n : ℕ). IfSome (length_of f) (λ k. n ≤ k)) (sym m.out)
          (within_more (length_of f) (chosen_delivered x) (length d) (chosen_received x) room l);
      waits = λ any. subst (Waits (is_chunks f) (take (chosen_delivered y) body) (g.behind ++ d)) (sym e)
          (rw c (waits_none (Run (take (chosen_delivered y) body)) (g.behind ++ d) (w.left - length d)
          (front_run f (take (chosen_delivered y) body) (g.behind ++ d) (w.left - length d) c h)));
      all_out = λ odd. cc;
    }
data_by x y f head body taken d w false c t m e i some most room l g =
    let all : length d ≡ w.left = grind (arith, nat_tests) in
    let z : 0 ≡ w.left - length d = omega arith in
    let h : Front f false (take (chosen_delivered y) body) (g.behind ++ (d ++ crlf)) 0 =
    subst (λ (xs : List ℕ). Front f false xs (g.behind ++ (d ++ crlf)) 0)
    (more_out body (chosen_delivered x) (length d) d i ∙ ap (λ (n : ℕ). take n body) (sym m.out))
    (front_closed f (take (chosen_delivered x) body) g.behind d w.left (omega arith) all g.front) in
    record {
      behind = g.behind ++ (d ++ crlf);
      fixed_is = ap (λ (xs : List ℕ). (taken ++ d) ++ xs) (fixed_next w crlf e)
          ∙ (append_assoc taken d crlf ∙ (ap (λ (xs : List ℕ). xs ++ (d ++ crlf)) (all_taken x f false head body taken w g e)
          ∙ append_assoc head g.behind (d ++ crlf)));
      front = subst (Front f false (take (chosen_delivered y) body) (g.behind ++ (d ++ crlf))) z h;
      there = omega (arith, m.out, m.came, g.there);
      within = subst (λ (n : ℕ). IfSome (length_of f) (λ k. n ≤ k)) (sym m.out)
          (within_more (length_of f) (chosen_delivered x) (length d) (chosen_received x) room l);
      waits = λ any. subst (Waits (is_chunks f) (take (chosen_delivered y) body) (g.behind ++ (d ++ crlf))) (sym (fixed_next w crlf e))
          (rw c (waits_end (Run (take (chosen_delivered y) body)) g.behind d
          (front_run f (take (chosen_delivered y) body) (g.behind ++ (d ++ crlf)) 0 c h)));
      all_out = λ odd. cc;
    }

-- by the framing: in chunks or plain
pub gives_data : (x y : Seen) (f : Framing) (head body taken d : List ℕ) (w : Writer) (chunked : Bool) → is_chunks f ≡ chunked
    → Moved x y (length d) → waiting w ≡ [] → d ≡ take (length d) (drop (chosen_delivered x) body)
    → 0 < length d → (chunked ≡ true → length d ≤ w.left) → chosen_delivered x + length d ≤ chosen_received x
    → IfSome (length_of f) (λ n. chosen_received x ≤ n) → GivesMessage x f false head body taken w
    → GivesMessage y f false head body (taken ++ d) (after_data chunked w (length d))
gives_data x y f head body taken d w true c m e i some most room l g =
    data_by x y f head body taken d w (nat_lt (length d) w.left) c refl m e i some (most refl) room l g
gives_data x y f head body taken d w false c m e i some most room l g = data_plain x y f head body taken d w c m e i room l g

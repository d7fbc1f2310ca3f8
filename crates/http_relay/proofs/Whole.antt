-- What was taken is a prefix of one message.
use Rattle.std.proofs.Common.{◌≡◌, ℕ, ◌+◌, ◌-◌, ◌≤◌, true, false, List, [], ◌∷◌, ◌++◌, length, take, drop, refl, ap, sym, subst, ◌∙◌}
use Rattle.std.proofs.Common.{append_assoc, append-nil, arith, length-append, length-drop, IfSome, Option, suc, zero}
use Rattle.std.proofs.lemmas.List.{length-take-le, take-append-drop}
use Rattle.std.proofs.Math.Seq.{take-length}
use Rattle.icap_chunks.specs.Grammar.{last_chunk}
use Rattle.trace_core.specs.declared.history.Seen.{Seen}
use Rattle.chunk_writer.specs.Cut.{IsCut, Run, IsPrefixOf}
use Rattle.chunk_writer.specs.Writer.{Writer, waiting}
use Rattle.chunk_writer.proofs.Runs.{Completes, run_completed}
use Rattle.http_side.specs.declared.body.Framing.{Framing}
use Rattle.http_side.specs.declared.body.Framing.TheVariants as by
use Rattle.http_relay.specs.declared.hop.HopStage.{HopStage}
use Rattle.http_relay.specs.declared.hop.HopStage.TheVariants as at
use Rattle.http_side.specs.Refusals.{refusal}
use Rattle.http_relay.specs.Message.{BodyTextOf, IsMessage, IsFrontOfMessage, length_of, is_chunks}
use Rattle.adapt_sides.specs.Tapes.{chosen_delivered, chosen_received}
use Rattle.http_relay.specs.Giving.{Front, GivesMessage, GivenAt, AsideAt, IsAside, Hop}
use Rattle.http_relay.specs.Giving.Front.{plain, run, over}

abbrev zeros : ℕ → List ℕ
zeros zero = []
zeros (suc n) = 0 ∷ zeros n

-- so many zeros are a text of so many bytes
length-zeros : (n : ℕ) → length (zeros n) ≡ n
length-zeros zero = refl
length-zeros (suc n) = ap suc (length-zeros n)

-- a text of at most no bytes is empty
nil_of : (xs : List ℕ) → length xs ≤ 0 → xs ≡ []
nil_of [] l = refl
nil_of (x ∷ xs) l = absurd (omega arith)

-- a body that begins with what came, of whose text this is a prefix
record Continues (f : Framing) (body text : List ℕ) : Type 0 where
  more : List ℕ
  behind : List ℕ
  has_body : BodyTextOf f (body ++ more) behind
  rest : List ℕ
  whole : behind ≡ text ++ rest

-- a body is its first bytes and what comes after them
parted : (n : ℕ) (body text : List ℕ) → text ≡ take n body → body ≡ text ++ drop n body
parted n body text t = sym (ap (λ (xs : List ℕ). xs ++ drop n body) t ∙ take-append-drop n body)

-- without chunks, first bytes of a body within its length begin the text of a whole one
continues_plain : (f : Framing) (n : ℕ) (body text : List ℕ) → is_chunks f ≡ false → text ≡ take n body
    → IfSome (length_of f) (λ k. length body ≤ k) → Continues f body text
continues_plain by.None n body text c t l =
    let none : body ≡ [] = nil_of body l in
    record {
      more = [];
      behind = [];
      has_body = (append-nil body ∙ none, refl);
      rest = drop n body;
      whole = sym none ∙ parted n body text t;
    }
continues_plain (by.Length k) n body text c t l =
    let more = zeros (k - length body) in
    record {
      more = more;
      behind = body ++ more;
      has_body = (omega (arith, length-append body more, length-zeros (k - length body)), refl);
      rest = drop n body ++ more;
      whole = ap (λ (xs : List ℕ). xs ++ more) (parted n body text t) ∙ append_assoc text (drop n body) more;
    }
continues_plain by.Chunked n body text c t l = cc
continues_plain by.Close n body text c t l = record {
  more = [];
  behind = body;
  has_body = sym (append-nil body);
  rest = drop n body;
  whole = parted n body text t;
}

-- a run of chunks that waits for bytes that came begins the text of a whole body
continues_run : (f : Framing) (n : ℕ) (body text : List ℕ) (left : ℕ) → is_chunks f ≡ true → n + left ≤ length body
    → Run (take n body) text left → Continues f body text
continues_run by.None n body text left c l r = cc
continues_run (by.Length k) n body text left c l r = cc
continues_run by.Chunked n body text left c l r =
    let d : Completes text (take n body ++ drop n body) =
    run_completed (take n body) text (drop n body) left (omega (arith, length-drop n body)) r in
    let cut : IsCut (body ++ []) d.full = subst (λ (xs : List ℕ). IsCut xs d.full) (take-append-drop n body ∙ sym (append-nil body))
    d.cut in
    record {
      more = [];
      behind = d.full ++ last_chunk false;
      has_body = record { chunks = d.full; is_cut = cut; whole = refl };
      rest = d.rest ++ last_chunk false;
      whole = ap (λ (xs : List ℕ). xs ++ last_chunk false) d.whole ∙ append_assoc text d.rest (last_chunk false);
    }
continues_run by.Close n body text left c l r = cc

-- what is fixed of a body's text begins that of a whole body that begins with what came, within its length
continues : (f : Framing) (n : ℕ) (body text : List ℕ) (left : ℕ) → n + left ≤ length body → Front f false (take n body) text left
    → IfSome (length_of f) (λ k. length body ≤ k) → Continues f body text
continues f n body text left l (plain c z t) i = continues_plain f n body text c t i
continues f n body text left l (run c w r) i = continues_run f n body text left c l r
continues f n body text left l (over c w z k j t) i = cc

-- a bound on a number bounds each that is equal
sized : (o : Option ℕ) (m n : ℕ) → m ≡ n → IfSome o (λ k. m ≤ k) → IfSome o (λ k. n ≤ k)
sized o m n e h = subst (λ (j : ℕ). IfSome o (λ k. j ≤ k)) e h

-- what was taken of a message is a prefix of one whose body begins with what came, where that is within its length
front_of : (x : Seen) (f : Framing) (head body taken : List ℕ) (w : Writer) → length body ≡ chosen_received x
    → IfSome (length_of f) (λ n. chosen_received x ≤ n) → GivesMessage x f false head body taken w → IsFrontOfMessage f head body taken
front_of x f head body taken w l i g =
    let c = continues f (chosen_delivered x) body g.behind w.left (omega (arith, g.there, l)) g.front
    (sized (length_of f) (chosen_received x) (length body) (sym l) i) in
    record {
      more = c.more;
      text = head ++ c.behind;
      is_message = record { behind = c.behind; has_body = c.has_body; whole = refl };
      front = record {
        rest = waiting w ++ c.rest;
        whole = ap (λ (xs : List ℕ). head ++ xs) c.whole ∙ (sym (append_assoc head g.behind c.rest)
            ∙ (ap (λ (xs : List ℕ). xs ++ c.rest) (sym g.fixed_is) ∙ append_assoc taken (waiting w) c.rest));
      };
    }

-- where a message is written, what was taken is a prefix of one whose body begins with what came, within its length
pub front_at : (stage : HopStage) (x : Seen) (f : Framing) (head body taken : List ℕ) (w : Writer) → stage ≡ at.Message
    → length body ≡ chosen_received x → IfSome (length_of f) (λ n. chosen_received x ≤ n) → GivenAt stage x f head body taken w
    → IsFrontOfMessage f head body taken
front_at at.Empty x f head body taken w e l i g = cc
front_at at.Message x f head body taken w e l i g = front_of x f head body taken w l i g
front_at at.Whole x f head body taken w e l i g = cc
front_at (at.Refusal status) x f head body taken w e l i g = cc

-- the whole body's text
whole_plain : (f : Framing) (body text : List ℕ) → is_chunks f ≡ false → text ≡ body → IfSome (length_of f) (λ n. length body ≡ n)
    → BodyTextOf f body text
whole_plain by.None body text c t l = let none : body ≡ [] = nil_of body (omega (arith, l)) in (none, t ∙ none)
whole_plain (by.Length n) body text c t l = (l, t)
whole_plain by.Chunked body text c t l = cc
whole_plain by.Close body text c t l = t

-- in chunks, a cut body and the last chunk are the text of the whole body
whole_chunks : (f : Framing) (body text chunks : List ℕ) → is_chunks f ≡ true → IsCut body chunks → text ≡ chunks ++ last_chunk false
    → BodyTextOf f body text
whole_chunks by.None body text chunks c i t = cc
whole_chunks (by.Length n) body text chunks c i t = cc
whole_chunks by.Chunked body text chunks c i t = record { chunks = chunks; is_cut = i; whole = t }
whole_chunks by.Close body text chunks c i t = cc

-- a body's text that is fixed with its end is the text of the body, where this is as long as its framing says
whole_text : (f : Framing) (body text : List ℕ) (left : ℕ) → Front f true body text left → IfSome (length_of f) (λ n. length body ≡ n)
    → BodyTextOf f body text
whole_text f body text left (plain c z t) l = whole_plain f body text c t l
whole_text f body text left (run c w r) l = cc
whole_text f body text left (over c w z k i t) l = whole_chunks f body text k c i t

-- a number equal to one that is the known length is that length too
exact : (o : Option ℕ) (m n : ℕ) → m ≡ n → IfSome o (λ k. m ≡ k) → IfSome o (λ k. n ≡ k)
exact o m n e h = subst (λ (j : ℕ). IfSome o (λ k. j ≡ k)) e h

-- a message that is given whole, and of which nothing waits, was taken to its end
whole_of : (x : Seen) (f : Framing) (head body taken : List ℕ) (w : Writer) → length body ≡ chosen_received x → waiting w ≡ []
    → GivesMessage x f true head body taken w → IsMessage f head body taken
whole_of x f head body taken w l o g =
    let all = g.all_out refl in
    let long : chosen_delivered x ≡ length body = all.1 ∙ sym l in
    let body_is : take (chosen_delivered x) body ≡ body = ap (λ (n : ℕ). take n body) long ∙ take-length body in
    record {
      behind = g.behind;
      has_body = whole_text f body g.behind w.left (subst (λ (xs : List ℕ). Front f true xs g.behind w.left) body_is g.front)
          (exact (length_of f) (chosen_delivered x) (length body) long all.2);
      whole = sym (append-nil taken) ∙ (ap (λ (xs : List ℕ). taken ++ xs) (sym o) ∙ g.fixed_is);
    }

-- where the body's end is fixed and nothing waits, what was taken is the message
pub whole_at : (stage : HopStage) (x : Seen) (f : Framing) (head body taken : List ℕ) (w : Writer) → stage ≡ at.Whole
    → length body ≡ chosen_received x → waiting w ≡ [] → GivenAt stage x f head body taken w → IsMessage f head body taken
whole_at at.Empty x f head body taken w e l o g = cc
whole_at at.Message x f head body taken w e l o g = cc
whole_at at.Whole x f head body taken w e l o g = whole_of x f head body taken w l o g
whole_at (at.Refusal status) x f head body taken w e l o g = cc

-- the whole text is fixed: what was taken is a prefix of it
whole_front_of : (x : Seen) (f : Framing) (head body taken : List ℕ) (w : Writer) → length body ≡ chosen_received x
    → GivesMessage x f true head body taken w → IsFrontOfMessage f head body taken
whole_front_of x f head body taken w l g =
    let all = g.all_out refl in
    let long : chosen_delivered x ≡ length body = all.1 ∙ sym l in
    let body_is : take (chosen_delivered x) body ≡ body = ap (λ (n : ℕ). take n body) long ∙ take-length body in
    let text_is : BodyTextOf f body g.behind =
    whole_text f body g.behind w.left (subst (λ (xs : List ℕ). Front f true xs g.behind w.left) body_is g.front)
    (exact (length_of f) (chosen_delivered x) (length body) long all.2) in
    record {
      more = [];
      text = head ++ g.behind;
      is_message = record {
        behind = g.behind;
        has_body = subst (λ (xs : List ℕ). BodyTextOf f xs g.behind) (sym (append-nil body)) text_is;
        whole = refl;
      };
      front = record { rest = waiting w; whole = sym g.fixed_is };
    }

-- where the body's end is fixed, what was taken is a prefix of a message whose body begins with what came
pub whole_front_at : (stage : HopStage) (x : Seen) (f : Framing) (head body taken : List ℕ) (w : Writer) → stage ≡ at.Whole
    → length body ≡ chosen_received x → GivenAt stage x f head body taken w → IsFrontOfMessage f head body taken
whole_front_at at.Empty x f head body taken w e l g = cc
whole_front_at at.Message x f head body taken w e l g = cc
whole_front_at at.Whole x f head body taken w e l g = whole_front_of x f head body taken w l g
whole_front_at (at.Refusal status) x f head body taken w e l g = cc

-- Whatever comes after what went out, some body that begins with that goes on.
fills_run : (f : Framing) (body text : List ℕ) (left : ℕ) → is_chunks f ≡ true → Run body text left → Continues f body text
fills_run by.None body text left c r = cc
fills_run (by.Length k) body text left c r = cc
fills_run by.Chunked body text left c r =
    let d : Completes text (body ++ zeros left) = run_completed body text (zeros left) left (omega (arith, length-zeros left)) r in
    record {
      more = zeros left;
      behind = d.full ++ last_chunk false;
      has_body = record { chunks = d.full; is_cut = d.cut; whole = refl };
      rest = d.rest ++ last_chunk false;
      whole = ap (λ (xs : List ℕ). xs ++ last_chunk false) d.whole ∙ append_assoc text d.rest (last_chunk false);
    }
fills_run by.Close body text left c r = cc

-- what is fixed of a body's text, with its bytes within its length, begins that of a whole body that begins with them
fills : (f : Framing) (body text : List ℕ) (left : ℕ) → Front f false body text left → IfSome (length_of f) (λ k. length body ≤ k)
    → Continues f body text
fills f body text left (plain c z t) i = continues_plain f (length body) body text c (t ∙ sym (take-length body)) i
fills f body text left (run c w r) i = fills_run f body text left c r
fills f body text left (over c w z k j t) i = cc

-- what was taken of a message that is given is a prefix of one whose body begins with what went out
out_front_of : (x : Seen) (f : Framing) (head body taken : List ℕ) (w : Writer) → length body ≡ chosen_received x
    → GivesMessage x f false head body taken w → IsFrontOfMessage f head (take (chosen_delivered x) body) taken
out_front_of x f head body taken w l g =
    let long : length (take (chosen_delivered x) body) ≡ chosen_delivered x =
    length-take-le (chosen_delivered x) body (omega (arith, g.there, l)) in
    let c = fills f (take (chosen_delivered x) body) g.behind w.left g.front
    (sized (length_of f) (chosen_delivered x) (length (take (chosen_delivered x) body)) (sym long) g.within) in
    record {
      more = c.more;
      text = head ++ c.behind;
      is_message = record { behind = c.behind; has_body = c.has_body; whole = refl };
      front = record {
        rest = waiting w ++ c.rest;
        whole = ap (λ (xs : List ℕ). head ++ xs) c.whole ∙ (sym (append_assoc head g.behind c.rest)
            ∙ (ap (λ (xs : List ℕ). xs ++ c.rest) (sym g.fixed_is) ∙ append_assoc taken (waiting w) c.rest));
      };
    }

-- where a message is written, what was taken is a prefix of one whose body begins with what went out
pub out_front_at : (stage : HopStage) (x : Seen) (f : Framing) (head body taken : List ℕ) (w : Writer) → stage ≡ at.Message
    → length body ≡ chosen_received x → GivenAt stage x f head body taken w
    → IsFrontOfMessage f head (take (chosen_delivered x) body) taken
out_front_at at.Empty x f head body taken w e l g = cc
out_front_at at.Message x f head body taken w e l g = out_front_of x f head body taken w l g
out_front_at at.Whole x f head body taken w e l g = cc
out_front_at (at.Refusal status) x f head body taken w e l g = cc

-- where two texts together are empty, the first is
first_nil : (xs ys : List ℕ) → xs ++ ys ≡ [] → xs ≡ []
first_nil [] ys e = refl
first_nil (x ∷ xs) ys e = cc

-- where nothing is written, nothing was taken
pub empty_at : (stage : HopStage) (x : Seen) (f : Framing) (head body taken : List ℕ) (w : Writer) → stage ≡ at.Empty
    → GivenAt stage x f head body taken w → taken ≡ []
empty_at at.Empty x f head body taken w e g = first_nil taken (waiting w) g.0
empty_at at.Message x f head body taken w e g = cc
empty_at at.Whole x f head body taken w e g = cc
empty_at (at.Refusal status) x f head body taken w e g = cc

-- A refusal.
pub refusal_at : (stage : HopStage) (status : ℕ) (taken : List ℕ) (w : Writer) → stage ≡ at.Refusal status → AsideAt stage taken w
    → taken ++ waiting w ≡ refusal status
refusal_at at.Empty status taken w e g = cc
refusal_at at.Message status taken w e g = cc
refusal_at at.Whole status taken w e g = cc
refusal_at (at.Refusal s) status taken w e g = let is : s ≡ status = cc in g ∙ ap refusal is

-- what was taken where a refusal is written is a prefix of it
pub refusal_front : (status : ℕ) (taken : List ℕ) (h : Hop) → h.stage ≡ at.Refusal status → IsAside taken h
    → IsPrefixOf taken (refusal status)
refusal_front status taken h e a = record { rest = waiting h.writer; whole = sym (refusal_at h.stage status taken h.writer e a.text) }

-- where a refusal is written and nothing waits, it was taken whole
pub refusal_whole : (status : ℕ) (taken : List ℕ) (h : Hop) → h.stage ≡ at.Refusal status → IsAside taken h → waiting h.writer ≡ []
    → taken ≡ refusal status
refusal_whole status taken h e a o = sym (append-nil taken) ∙ (ap (λ (xs : List ℕ). taken ++ xs) (sym o)
    ∙ refusal_at h.stage status taken h.writer e a.text)

-- When the service's connection may carry another request.
use Rattle.std.proofs.Common.{◌≡◌, ℕ, Bool, true, false, not, ◌||◌, ◌&&◌, List, [], ◌∷◌, ◌++◌, length, is_none, refl, ap, sym, subst, ◌∙◌}
use Rattle.std.proofs.Common.{append-nil, arith, ◌==◌}
use Rattle.std.proofs.lemmas.Bool.Decides.{nat_tests}
use Rattle.trace_core.specs.declared.history.Seen.{Seen}
use Rattle.chunk_writer.specs.Writer.{waiting}
use Rattle.icap_client.specs.declared.stage.Stage.{Stage}
use Rattle.icap_client.specs.declared.stage.Stage.TheVariants.{Replies, Head, Body, Over}
use Rattle.icap_client.specs.Laws.{IsWhole}
use Rattle.icap_client.specs.Reading.{ReadSide, SideHeard}
use Rattle.icap_client.specs.Turns.{Service, ServiceSent, ServiceHeard, IsClean, is_over, is_answered, is_whole_request, is_flushed}
use Rattle.icap_client.specs.Turns.{is_reusable}
use Rattle.icap_client.proofs.Whole.{answer_whole}

-- of two bits that are true together the first is true
first_of : (a b : Bool) → (a && b) ≡ true → a ≡ true
first_of true b e = refl
first_of false b e = e

-- of two bits that are true together the second is true
second_of : (a b : Bool) → (a && b) ≡ true → b ≡ true
second_of true b e = e
second_of false b e = cc

-- a text whose length is 0 is empty
none_of : (xs : List ℕ) → (length xs == 0) ≡ true → xs ≡ []
none_of [] e = refl
none_of (x ∷ xs) e = let z : length (x ∷ xs) ≡ 0 = grind (arith, nat_tests) in absurd (omega (arith, z))

-- a stage that is said to be over is the one after the final response
over_of : (stage : Stage) → is_over stage ≡ true → stage ≡ Over
over_of Replies e = cc
over_of (Head layout) e = cc
over_of (Body chunks) e = cc
over_of Over e = refl

-- a bit whose negation is true is false
not_of : (b : Bool) → not b ≡ true → b ≡ false
not_of true e = cc
not_of false e = refl

-- a side at a final response's end with no raw byte has read just a whole answer
whole_by : (x : Seen) (adapted read : List ℕ) (s : ReadSide) → s.reader.stage ≡ Over → s.raw ≡ [] → SideHeard x adapted read s
    → IsWhole x adapted read s.reader
whole_by x adapted read s over none h =
    let text : read ≡ h.framed = h.text_is ∙ (ap (λ (raw : List ℕ). h.framed ++ raw) none ∙ append-nil h.framed) in
    subst (λ (t : List ℕ). IsWhole x adapted t s.reader) (sym text) (answer_whole x adapted h.framed s.reader over h.heard)

-- a connection that may be reused carried a whole request and just a whole answer
pub clean_by : (x : Seen) (head came taken adapted read : List ℕ) (s : Service) → is_reusable s ≡ true → ServiceSent head x came taken s
    → ServiceHeard x adapted read s → IsClean x adapted read s
clean_by x head came taken adapted read s e t h =
    let stage = s.replies.reader.stage in
    let behind = (length s.replies.raw == 0) && (not s.replies.reader.closes && is_none s.replies.fault) in
    let request = first_of (is_whole_request s) (is_over stage && behind) e in
    let replies = second_of (is_whole_request s) (is_over stage && behind) e in
    let rest = second_of (is_over stage) behind replies in
    let free = second_of (length s.replies.raw == 0) (not s.replies.reader.closes && is_none s.replies.fault) rest in
    let marks : (s.last_stop || s.answered) ≡ true = second_of (is_flushed s.writer) (s.last_stop || s.answered) request in
    record {
      out = none_of (waiting s.writer) (first_of (is_flushed s.writer) (s.last_stop || s.answered) request);
      request = ap (λ (b : Bool). b || is_answered x) (sym t.last_stop) ∙ (ap (λ (b : Bool). s.last_stop || b) (sym h.answered) ∙ marks);
      answer = whole_by x adapted read s.replies (over_of stage (first_of (is_over stage) behind replies))
          (none_of s.replies.raw (first_of (length s.replies.raw == 0) (not s.replies.reader.closes && is_none s.replies.fault) rest))
          h.heard;
      goes_on = not_of s.replies.reader.closes (first_of (not s.replies.reader.closes) (is_none s.replies.fault) free);
    }

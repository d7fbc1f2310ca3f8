-- From a head to the body after it.
use Rattle.std.proofs.Common.{◌≡◌, ℕ, ◌+◌, ◌<◌, ◌≤◌, Bool, true, false, List, [], ◌∷◌, ◌++◌, length, take, drop, refl, ap, sym, subst, ◌∙◌}
use Rattle.std.proofs.Common.{append_assoc, append-nil, arith, length-append}
use Rattle.std.proofs.lemmas.List.{take-append-drop, take-append-le, take_all, drop_all, length-take}
use Rattle.std.proofs.Math.Seq.{take-append_seam}
use Rattle.httparse.specs.Grammar.{ResponseHead, print_request, print_response, print_blank, print_version, print_reason, print_end}
use Rattle.httparse.specs.Grammar.{print_section}
use Rattle.httparse.proofs.GrammarLemmas.{print_response-append}
use Rattle.http_side.specs.Heads.{RequestParts, ResponseParts}
use Rattle.http_side.specs.Body.{HasRead}
use Rattle.http_side.specs.Requests.{IsRead}
use Rattle.http_side.specs.Responses.{IsResponseRead}
use Rattle.http_relay.specs.declared.side.head.TheConstants.{MAX_INTERIMS}
use Rattle.http_relay.specs.Judging.{IsInterim}
use Rattle.http_relay.specs.Reading.{AtHead, Begins, AreInterims, IsBefore, IsHeadText, IsFinal, framing_of}
use Rattle.http_relay.specs.Reading.AreInterims.{nothing, further}
use Rattle.http_relay.specs.declared.side.SourceSide.{SourceSide}
use Rattle.http_relay.specs.declared.side.head.SourceHead.{SourceHead}
use Rattle.http_relay.specs.declared.side.head.SourceHead.TheVariants as heads
use Rattle.http_relay.specs.declared.side.head.Asks.{Asks}
use Rattle.http_relay.specs.declared.side.head.Asks.TheVariants as asks

-- the first raw bytes, as many as a prefix of them has, are that prefix
pub at_front : (raw text rest : List ℕ) (n : ℕ) → take 16384 raw ≡ text ++ rest → n ≡ length text → take n raw ≡ text
at_front raw text rest n e l =
    let all : length (take 16384 raw) ≡ length text + length rest = ap (λ (t : List ℕ). length t) e ∙ length-append text rest in
    let near : take n raw ≡ take n (take 16384 raw) =
    ap (λ (t : List ℕ). take n t) (sym (take-append-drop 16384 raw)) ∙ take-append-le n (take 16384 raw) (drop 16384 raw)
    (omega (arith, all, l)) in
    near ∙ (ap (λ (t : List ℕ). take n t) e ∙ (ap (λ (k : ℕ). take k (text ++ rest)) l ∙ take-append_seam text rest))

-- raw bytes that are cut after a prefix of their first 16,384 are just that prefix, with nothing after it
alone : (raw text rest : List ℕ) (n : ℕ) → take 16384 raw ≡ text ++ rest → n ≡ length text
    → (take 16384 (take n raw) ≡ text ++ drop (length (take n raw)) (take 16384 (take n raw))) × (length (take n raw) ≡ length text)
alone raw text rest n e l =
    let is : take n raw ≡ text = at_front raw text rest n e l in
    let all : length (take 16384 raw) ≡ length text + length rest = ap (λ (t : List ℕ). length t) e ∙ length-append text rest in
    let short : length text ≤ 16384 = omega (arith, all, length-take 16384 raw) in
    let judged : take 16384 (take n raw) ≡ text = ap (λ (t : List ℕ). take 16384 t) is ∙ take_all 16384 text short in
    let none : drop (length (take n raw)) (take 16384 (take n raw)) ≡ [] =
    ap (λ (t : List ℕ). drop (length (take n raw)) t) judged ∙ drop_all (length (take n raw)) text
    (omega (arith, ap (λ (t : List ℕ). length t) is)) in (
      judged ∙ (sym (append-nil text) ∙ ap (λ (t : List ℕ). text ++ t) (sym none)),
      ap (λ (t : List ℕ). length t) is,
    )

-- so the head is its own text
pub request_alone : (raw : List ℕ) (r : RequestParts) (n : ℕ) → IsRead false raw r n → IsRead false (take n raw) r (length (take n raw))
request_alone raw r n h =
    let is = alone raw (print_request h.there.head) (drop n (take 16384 raw)) n h.there.reads.1 h.there.len_is in
    record {
      there = record { head = h.there.head; reads = (h.there.reads.0, is.0); len_is = is.1; parts_are = h.there.parts_are };
      few = h.few;
      taken = h.taken;
    }

-- a response's head that is read from the raw bytes is read from its own bytes alone
pub response_alone : (raw : List ℕ) (r : ResponseParts) (n : ℕ) (to_head : Bool) → IsResponseRead to_head raw r n
    → IsResponseRead to_head (take n raw) r (length (take n raw))
response_alone raw r n to_head h =
    let is = alone raw (print_response h.there.head) (drop n (take 16384 raw)) n h.there.reads.1 h.there.len_is in
    record {
      there = record { head = h.there.head; reads = (h.there.reads.0, is.0); len_is = is.1; parts_are = h.there.parts_are };
      few = h.few;
      asked = h.asked;
      no_fault = h.no_fault;
    }

-- the head was taken from the beginning of the raw bytes
begins : (old new : SourceSide) (n : ℕ) → new.asks ≡ old.asks → new.raw.items ≡ drop n old.raw.items
    → IsHeadText old.asks new.head (take n old.raw.items)
    → new.body.framing ≡ framing_of new.head → HasRead new.body.framing [] [] new.body.reader → new.body.ended ≡ false
    → new.body.received ≡ 0 → (read : List ℕ) → AtHead read old → Begins read new
begins old new n a r h way fresh going zero read s x count going_on = (
  record {
    before = s.before;
    head_text = take n old.raw.items;
    framed = [];
    text_is =
        let joined : take n old.raw.items ++ new.raw.items ≡ old.raw.items =
        ap (λ (t : List ℕ). take n old.raw.items ++ t) r ∙ take-append-drop n old.raw.items in
        s.text_is ∙ (ap (λ (t : List ℕ). s.before ++ t) (sym joined) ∙ sym (append_assoc s.before (take n old.raw.items) new.raw.items));
    interims = (old.interims, subst (λ (t : Asks). IsBefore t old.interims s.before) (sym a) s.interims);
    head = subst (λ (t : Asks). IsHeadText t new.head (take n old.raw.items)) (sym a) h;
    way = way;
    body_read = record {
      count = count;
      ended = going_on ∙ sym going;
      reads = fresh;
      whole = λ w. let odd : true ≡ false = sym w ∙ going in
          cc;
    };
  },
  λ len. record { received = count ∙ sym zero; ended = going_on ∙ sym going; len = len },
)

-- a side at the head that takes a request's head from its raw bytes begins a message
pub begins_request : (old new : SourceSide) (n : ℕ) (r : RequestParts) → old.asks ≡ asks.Request → new.asks ≡ old.asks
    → new.raw.items ≡ drop n old.raw.items → n ≤ length old.raw.items → new.head ≡ heads.Request r → IsRead false old.raw.items r n
    → new.body.framing ≡ framing_of (heads.Request r) → HasRead new.body.framing [] [] new.body.reader → new.body.ended ≡ false
    → new.body.received ≡ 0 → (read : List ℕ) → AtHead read old → Begins read new
begins_request old new n r q a d l h is way fresh going zero =
    begins old new n a d (subst (λ (t : Asks). IsHeadText t new.head (take n old.raw.items)) (sym q)
    (subst (λ (t : SourceHead). IsHeadText asks.Request t (take n old.raw.items)) (sym h) (request_alone old.raw.items r n is)))
    (way ∙ ap framing_of (sym h)) fresh going zero

-- a side at the head that takes a final response's head from its raw bytes begins a message
pub begins_response : (old new : SourceSide) (n : ℕ) (r : ResponseParts) (to_head : Bool) → old.asks ≡ asks.Response to_head
    → new.asks ≡ old.asks → new.raw.items ≡ drop n old.raw.items → n ≤ length old.raw.items → new.head ≡ heads.Response r
    → IsResponseRead to_head old.raw.items r n → IsFinal r
    → new.body.framing ≡ framing_of (heads.Response r) → HasRead new.body.framing [] [] new.body.reader → new.body.ended ≡ false
    → new.body.received ≡ 0 → (read : List ℕ) → AtHead read old → Begins read new
begins_response old new n r to_head q a d l h is last way fresh going zero =
    begins old new n a d (subst (λ (t : Asks). IsHeadText t new.head (take n old.raw.items)) (sym q)
    (subst (λ (t : SourceHead). IsHeadText (asks.Response to_head) t (take n old.raw.items)) (sym h)
    (response_alone old.raw.items r n to_head is, last)))
    (way ∙ ap framing_of (sym h)) fresh going zero

-- an interim response was dropped
pub drops_interim : (old new : SourceSide) (n : ℕ) (r : ResponseParts) (to_head : Bool) → old.asks ≡ asks.Response to_head
    → new.asks ≡ old.asks → new.head ≡ old.head → new.raw.items ≡ drop n old.raw.items → n ≤ length old.raw.items
    → IsResponseRead to_head old.raw.items r n → IsInterim r
    → old.interims < MAX_INTERIMS → new.interims ≡ old.interims + 1 → (read : List ℕ) → AtHead read old → AtHead read new
drops_interim old new n r to_head q a h d l is between few one read s = record {
  before = s.before ++ take n old.raw.items;
  text_is =
      let joined : take n old.raw.items ++ new.raw.items ≡ old.raw.items =
      ap (λ (t : List ℕ). take n old.raw.items ++ t) d ∙ take-append-drop n old.raw.items in
      s.text_is ∙ (ap (λ (t : List ℕ). s.before ++ t) (sym joined) ∙ sym (append_assoc s.before (take n old.raw.items) new.raw.items));
  interims =
      let before = subst (λ (t : Asks). IsBefore t old.interims s.before) q s.interims in
      let text = s.before ++ take n old.raw.items in
      let next : AreInterims to_head (old.interims + 1) text =
      further old.interims s.before (take n old.raw.items) r before.1 (response_alone old.raw.items r n to_head is) between in
      subst (λ (t : Asks). IsBefore t new.interims text) (sym (a ∙ q)) (
        omega (arith, few, one),
        subst (λ (k : ℕ). AreInterims to_head k text) (sym one) next,
      );
  unread = h ∙ s.unread;
}

-- what may come before a head is the same for the same kind of head and the same count
pub counted : (a b : Asks) (m n : ℕ) (text : List ℕ) → b ≡ a → n ≡ m → IsBefore a m text → IsBefore b n text
counted a b m n text same e h = subst (λ (t : Asks). IsBefore t n text) (sym same) (subst (λ (k : ℕ). IsBefore a k text) (sym e) h)

-- nothing was taken
pub still_at_head : (old new : SourceSide) → new.asks ≡ old.asks → new.head ≡ old.head → new.raw.items ≡ old.raw.items
    → new.interims ≡ old.interims → (read : List ℕ) → AtHead read old → AtHead read new
still_at_head old new a h r n read s = record {
  before = s.before;
  text_is = s.text_is ∙ ap (λ (t : List ℕ). s.before ++ t) (sym r);
  interims = counted old.asks new.asks old.interims new.interims s.before a n s.interims;
  unread = h ∙ s.unread;
}

-- before the first byte
before_none : (a : Asks) → IsBefore a 0 []
before_none asks.Request = (refl, refl)
before_none (asks.Response to_head) = (omega arith, nothing)

-- a side with no head and no interim response has read just its raw bytes
pub fresh_at_head : (s : SourceSide) → s.head ≡ heads.Unread → s.interims ≡ 0 → AtHead s.raw.items s
fresh_at_head s u z = record {
  before = [];
  text_is = refl;
  interims = counted s.asks s.asks 0 s.interims [] refl z (before_none s.asks);
  unread = u;
}

-- a prefix of the first 16,384 raw bytes is at most as long as all raw bytes
short_front : (raw head rest : List ℕ) → take 16384 raw ≡ head ++ rest → length head ≤ length raw
short_front raw head rest e = omega (arith, length-append head rest, ap (λ (t : List ℕ). length t) e, length-take 16384 raw)

-- a request's head that is read ends within the raw bytes
pub request_within : (raw : List ℕ) (r : RequestParts) (n : ℕ) → IsRead false raw r n → n ≤ length raw
request_within raw r n h = let l = short_front raw (print_request h.there.head) (drop n (take 16384 raw)) h.there.reads.1 in
    omega (arith, l, h.there.len_is)

-- a response's head that is read ends within the raw bytes
pub response_within : (raw : List ℕ) (r : ResponseParts) (n : ℕ) (to_head : Bool) → IsResponseRead to_head raw r n → n ≤ length raw
response_within raw r n to_head h = let l = short_front raw (print_response h.there.head) (drop n (take 16384 raw)) h.there.reads.1 in
    omega (arith, l, h.there.len_is)

-- the text of a response's head isn't empty
some_digits : (h : ResponseHead) → 0 < length (print_response h)
some_digits h =
    let rest : List ℕ = h.digits ++ (print_reason h.reason ++ (print_end h.line_end ++ (print_section h.fields h.last ++ []))) in
    let e = ap (λ (t : List ℕ). length t) (print_response-append h []) in
    omega (
      arith,
      e,
      length-append (print_response h) [],
      length-append (print_blank h.blank) (print_version h.minor ++ 32 ∷ rest),
      length-append (print_version h.minor) (32 ∷ rest),
    )

-- a response's head has a byte at least
pub response_some : (raw : List ℕ) (r : ResponseParts) (n : ℕ) (to_head : Bool) → IsResponseRead to_head raw r n → 0 < n
response_some raw r n to_head h = let l = some_digits h.there.head in omega (arith, l, h.there.len_is)

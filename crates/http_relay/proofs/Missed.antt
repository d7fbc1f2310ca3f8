-- A head ends with a line, so none is missed.
use Rattle.std.proofs.Common.{◌≡◌, ℕ, ◌+◌, ◌<◌, ◌≤◌, inl, inr, ◌||◌, ◌==◌, Bool, true, false, List, [], ◌∷◌, ◌++◌, length, take, drop, refl}
use Rattle.std.proofs.Common.{ap, sym, subst, ◌∙◌, append_assoc, arith, length-append, flat_map}
use Rattle.std.proofs.lemmas.Bool.{cases_lt}
use Rattle.std.proofs.lemmas.List.{take-append-drop, drop-append-le, take-take, length-take}
use Rattle.std.proofs.lemmas.List.Folds.{list_any-append}
use Rattle.httparse.specs.Grammar.{LineEnd, RequestHead, ResponseHead, print_request, print_response, print_blank, print_version}
use Rattle.httparse.specs.Grammar.{print_reason, print_end, print_field}
use Rattle.httparse.specs.Grammar.LineEnd.{crlf, lf}
use Rattle.http_side.specs.Heads.{RequestParts, ResponseParts}
use Rattle.http_side.specs.Requests.{IsRead}
use Rattle.http_side.specs.Responses.{IsResponseRead}
use Rattle.http_side.specs.declared.fault.HttpFault.TheVariants.{More}
use Rattle.adapt_bytes.specs.Text.{has_line}
use Rattle.http_relay.specs.Judging.{HasNoHead, RefusesBytes}
use Rattle.http_relay.specs.declared.side.SourceSide.{SourceSide}
use Rattle.http_relay.specs.declared.side.head.Asks.{Asks}
use Rattle.http_relay.specs.declared.side.head.Asks.TheVariants as asks
use Rattle.http_relay.proofs.Beginning.{at_front}

-- the last byte of a text is LF
abbrev pub EndsLine : List ℕ → Type 0
EndsLine text = (front : List ℕ) × (text ≡ front ++ 10 ∷ [])

-- each end of a line has LF as its last byte
end_is : (e : LineEnd) → EndsLine (print_end e)
end_is crlf = (13 ∷ [], refl)
end_is lf = ([], refl)

-- any text with an end of a line after it ends a line
ends_behind : (x f : List ℕ) (e : LineEnd) → EndsLine (x ++ (f ++ print_end e))
ends_behind x f e =
    let last = end_is e in (
      (x ++ f) ++ last.0,
      ap (λ (t : List ℕ). x ++ (f ++ t)) last.1 ∙ (sym (append_assoc x f (last.0 ++ 10 ∷ []))
          ∙ sym (append_assoc (x ++ f) last.0 (10 ∷ []))),
    )

-- the text of a request's head ends a line
request_ends : (h : RequestHead) → EndsLine (print_request h)
unfolding print_request
request_ends h =
    ends_behind (print_blank h.blank ++ h.method ++ 32 ∷ h.target ++ 32 ∷ print_version h.minor ++ print_end h.line_end)
    (flat_map print_field h.fields) h.last

-- the text of a response's head ends a line
response_ends : (h : ResponseHead) → EndsLine (print_response h)
unfolding print_response
response_ends h =
    ends_behind (print_blank h.blank ++ print_version h.minor ++ 32 ∷ h.digits ++ print_reason h.reason ++ print_end h.line_end)
    (flat_map print_field h.fields) h.last

-- a test, or one that holds, holds
or_true : (b : Bool) → (b || true) ≡ true
or_true true = refl
or_true false = refl

-- a line that ends after so many bytes is seen there
seen_behind : (front rest : List ℕ) (j : ℕ) → j ≤ length front → has_line (drop j (front ++ 10 ∷ rest)) ≡ true
seen_behind front rest j l =
    ap has_line (drop-append-le j front (10 ∷ rest) l) ∙ (list_any-append (λ byte. byte == 10) (drop j front) (10 ∷ rest)
    ∙ or_true (has_line (drop j front)))

-- what was judged has all of a text that ends a line
judged_behind : (raw text rest : List ℕ) (j : ℕ) → raw ≡ text ++ rest → EndsLine text → has_line (drop j raw) ≡ false → length text ≤ j
judged_behind raw text rest j e ends unseen = elim (cases_lt j (length text)) [
  | inl l ↦
      let size : length text ≡ length ends.0 + 1 = ap (λ (t : List ℕ). length t) ends.1 ∙ length-append ends.0 (10 ∷ []) in
      let is : raw ≡ ends.0 ++ 10 ∷ rest = e ∙ (ap (λ (t : List ℕ). t ++ rest) ends.1 ∙ append_assoc ends.0 (10 ∷ []) rest) in
      let odd : false ≡ true = sym unseen ∙ (ap (λ (t : List ℕ). has_line (drop j t)) is
      ∙ seen_behind ends.0 rest j (omega (arith, l, size))) in cc
  | inr h ↦ h
]

-- and so it stands at the beginning of what was judged
at_judged : (raw text rest : List ℕ) (j : ℕ) → take 16384 raw ≡ text ++ rest → length text ≤ j
    → take 16384 (take j raw) ≡ text ++ drop (length text) (take 16384 (take j raw))
at_judged raw text rest j e l =
    let all : length (take 16384 raw) ≡ length text + length rest = ap (λ (t : List ℕ). length t) e ∙ length-append text rest in
    let short : length text ≤ 16384 = omega (arith, all, length-take 16384 raw) in
    let near : take (length text) (take 16384 (take j raw)) ≡ text =
    take-take (length text) 16384 (take j raw) short ∙ (take-take (length text) j raw l ∙ at_front raw text rest (length text) e refl) in
    sym (take-append-drop (length text) (take 16384 (take j raw))) ∙ ap (λ (t : List ℕ). t ++ drop (length text) (take 16384 (take j raw)))
    near

-- a prefix of the first 16,384 raw bytes is a prefix of all raw bytes
whole_raw : (raw text rest : List ℕ) → take 16384 raw ≡ text ++ rest → raw ≡ text ++ (rest ++ drop 16384 raw)
whole_raw raw text rest e = sym (take-append-drop 16384 raw) ∙ (ap (λ (t : List ℕ). t ++ drop 16384 raw) e
    ∙ append_assoc text rest (drop 16384 raw))

-- a text that ends a line has a byte at least
some : (text : List ℕ) → EndsLine text → 0 < length text
some text ends = omega (arith, ap (λ (t : List ℕ). length t) ends.1, length-append ends.0 (10 ∷ []))

-- raw bytes that were judged to have no head have none of a request
pub no_request : (s : SourceSide) (r : RequestParts) (len : ℕ) → s.asks ≡ asks.Request → HasNoHead s → IsRead false s.raw.items r len → ⊥
no_request s r len a none h =
    let text : List ℕ = print_request h.there.head in
    let at = h.there.reads.1 in
    let ends = request_ends h.there.head in
    let l : length text ≤ s.judged = judged_behind s.raw.items text (drop len (take 16384 s.raw.items) ++ drop 16384 s.raw.items) s.judged
    (whole_raw s.raw.items text (drop len (take 16384 s.raw.items)) at) ends none.no_line in
    elim none.looking.beginning [
      | inl z ↦ absurd (let l' : 0 < 0 = omega (arith, some text ends, l, z) in omega (arith, l'))
      | inr b ↦
          let more = subst (λ (t : Asks). RefusesBytes t (take s.judged s.raw.items) More) a b in
          more.0.0 h.there.head (drop (length text) (take 16384 (take s.judged s.raw.items)))
          (h.there.reads.0, at_judged s.raw.items text (drop len (take 16384 s.raw.items)) s.judged at l)
    ]

-- raw bytes that were judged to have no head have none of a response
pub no_response : (s : SourceSide) (to_head : Bool) (r : ResponseParts) (len : ℕ) → s.asks ≡ asks.Response to_head → HasNoHead s
    → IsResponseRead to_head s.raw.items r len → ⊥
no_response s to_head r len a none h =
    let text : List ℕ = print_response h.there.head in
    let at = h.there.reads.1 in
    let ends = response_ends h.there.head in
    let l : length text ≤ s.judged = judged_behind s.raw.items text (drop len (take 16384 s.raw.items) ++ drop 16384 s.raw.items) s.judged
    (whole_raw s.raw.items text (drop len (take 16384 s.raw.items)) at) ends none.no_line in
    elim none.looking.beginning [
      | inl z ↦ absurd (let l' : 0 < 0 = omega (arith, some text ends, l, z) in omega (arith, l'))
      | inr b ↦
          let more = subst (λ (t : Asks). RefusesBytes t (take s.judged s.raw.items) More) a b in
          more.0.0 h.there.head (drop (length text) (take 16384 (take s.judged s.raw.items)))
          (h.there.reads.0, at_judged s.raw.items text (drop len (take 16384 s.raw.items)) s.judged at l)
    ]

-- Which bodies have more bytes than may be told.
use Rattle.std.proofs.Common.{◌≡◌, ℕ, ◌+◌, ◌<◌, ◌≤◌, Bool, true, List, [], ◌++◌, length, take, ap, sym, subst, ◌∙◌, arith, length-append}
use Rattle.std.proofs.Common.{IfSome}
use Rattle.std.proofs.lemmas.List.{length-take-le}
use Rattle.std.proofs.Math.Nat.{lt_of_not-le}
use Rattle.adapt_bytes.specs.declared.limits.TheConstants.{COUNT_LIMIT}
use Rattle.http_side.specs.Body.{HasRead, IsBody, IsClosedBody, is_over}
use Rattle.http_side.specs.declared.body.Framing.{Framing}
use Rattle.http_side.specs.declared.body.Framing.TheVariants.{None, Length, Chunked, Close}
use Rattle.http_side.specs.declared.body.BodyReader.{BodyReader}
use Rattle.http_side.proofs.Ends.{over_is}
use Rattle.adapt_sides.specs.declared.fault.RelayFault.TheVariants as faults
use Rattle.http_relay.specs.Body.{ReadsOn}
use Rattle.http_relay.specs.Source.{MayTell, Refuses}
use Rattle.http_relay.specs.Message.{length_of}
use Rattle.http_relay.specs.declared.source_body.SourceBody.{SourceBody}
use Rattle.http_relay.proofs.Telling.{if_more}

-- no more is read than the framing says
read_within : (way : Framing) (text body : List ℕ) (r : BodyReader) → HasRead way text body r
    → IfSome (length_of way) (λ len. length body ≤ len)
read_within None text body r h = omega (arith, ap (λ (t : List ℕ). length t) h.1)
read_within (Length n) text body r h = omega (arith, ap (λ (t : List ℕ). length t) h.0, h.1)
read_within Chunked text body r h = tt
read_within Close text body r h = tt

-- a whole body is as long as the framing says
whole_is : (way : Framing) (text body : List ℕ) → IsBody way text body → IfSome (length_of way) (λ len. length body ≡ len)
whole_is None text body h = ap (λ (t : List ℕ). length t) h.1
whole_is (Length n) text body h = ap (λ (t : List ℕ). length t) h.1 ∙ h.0
whole_is Chunked text body h = tt
whole_is Close text body h = tt

-- a body that the wire's close ends is as long as the framing says
closed_is : (way : Framing) (text body : List ℕ) → IsClosedBody way text body → IfSome (length_of way) (λ len. length body ≡ len)
closed_is None text body h = whole_is None text body h
closed_is (Length n) text body h = whole_is (Length n) text body h
closed_is Chunked text body h = tt
closed_is Close text body h = tt

-- what doesn't fit, although it is within the length, is too long to count
passes : (s : SourceBody) (n : ℕ) (ended : Bool) → IfSome (length_of s.framing) (λ len. s.received + n ≤ len)
    → (ended ≡ true → IfSome (length_of s.framing) (λ len. s.received + n ≡ len))
    → (MayTell s n ended → ⊥) → (COUNT_LIMIT ≤ s.received + n) × IfSome (length_of s.framing) (λ len. COUNT_LIMIT ≤ len)
passes s n ended within at not =
    let long : COUNT_LIMIT < s.received + n + 1 = lt_of_not-le (λ l. not (record { sum = omega (arith, l); len = within; end = at })) in (
      omega (arith, long),
      if_more (length_of s.framing) (λ len. s.received + n ≤ len) (λ len. COUNT_LIMIT ≤ len)
          (λ len h. omega (arith, long, h)) within,
    )

-- bytes that were read of a body, and may not be told, are refused for its length
pub too_long : (s : SourceBody) (raw out : List ℕ) (used n : ℕ) (ended : Bool) (new : BodyReader)
    → ReadsOn s.reader raw used (take n out) new → n ≤ length out → n ≤ length raw → ended ≡ is_over new
    → (MayTell s n ended → ⊥) → Refuses faults.Length s raw
too_long s raw out used n ended new on l few over not x body text shut a b =
    let there : HasRead s.framing (text ++ take used raw) (body ++ take n out) new = on s.framing text body b.reads in
    let sum : length (body ++ take n out) ≡ s.received + n =
    omega (arith, length-append body (take n out), length-take-le n out l, a.received, b.count) in
    let within : IfSome (length_of s.framing) (λ len. s.received + n ≤ len) =
    subst (λ (k : ℕ). IfSome (length_of s.framing) (λ len. k ≤ len)) sum
    (read_within s.framing (text ++ take used raw) (body ++ take n out) new there) in
    let at : ended ≡ true → IfSome (length_of s.framing) (λ len. s.received + n ≡ len) = λ e.
    subst (λ (k : ℕ). IfSome (length_of s.framing) (λ len. k ≡ len)) sum
    (whole_is s.framing (text ++ take used raw) (body ++ take n out) ((over_is s.framing (text ++ take used raw) (body ++ take n out) new
    there).0 (sym over ∙ e))) in
    let p = passes s n ended within at not in
    (omega (arith, p.0, few), p.1)

-- the end of a body that the close gives, and that may not be told, is refused for its length
pub too_long_closed : (s : SourceBody) → ((way : Framing) (text body : List ℕ) → HasRead way text body s.reader
    → IsClosedBody way text body) → (MayTell s 0 true → ⊥) → Refuses faults.Length s []
too_long_closed s closed not x body text shut a b =
    let sum : length body ≡ s.received + 0 = omega (arith, a.received, b.count) in
    let at : IfSome (length_of s.framing) (λ len. s.received + 0 ≡ len) =
    subst (λ (k : ℕ). IfSome (length_of s.framing) (λ len. k ≡ len)) sum
    (closed_is s.framing text body (closed s.framing text body b.reads)) in
    let within : IfSome (length_of s.framing) (λ len. s.received + 0 ≤ len) =
    if_more (length_of s.framing) (λ len. s.received + 0 ≡ len) (λ len. s.received + 0 ≤ len) (λ len h. omega (arith, h)) at in
    let p = passes s 0 true within (λ e. at) not in
    (omega (arith, p.0), p.1)

-- A block is read in one way.
use Rattle.std.proofs.Common.{◌≡◌, ℕ, ◌+◌, ◌*◌, ◌<◌, ◌≤◌, List, [], ◌∷◌, ◌++◌, length, take, drop, refl, sym, ap, ◌∙◌, subst, arith}
use Rattle.std.proofs.Common.{take-append-drop, length-take-le, Option, Some, None}
use Rattle.std.specs.declared.net.ipv4_addr.Ipv4Addr.{Ipv4Addr}
use Rattle.proxy_header.specs.declared.reading.Said.{Said}
use Rattle.proxy_header.specs.declared.reading.Said.TheVariants.{From, Unknown, Nothing}
use Rattle.proxy_header.specs.Blocks.{IsBlock, IsCutBlock, IsFixed, LacksBytes, Tells, signature}
use Rattle.proxy_header.specs.Headers.{Answers, Begins, IsSaid, is_reading}

-- fewer than four bytes after the signature lack some of a block
pub short_lacks : (rest : List ℕ) → length rest < 4 → LacksBytes rest
short_lacks [] short = tt
short_lacks (a ∷ []) short = tt
short_lacks (a ∷ b ∷ []) short = tt
short_lacks (a ∷ b ∷ c ∷ []) short = tt
short_lacks (a ∷ b ∷ c ∷ d ∷ rest) short = absurd (omega arith)

-- the signature and fewer than four bytes after it are a block whose end may still come
pub cut_short : (bytes rest : List ℕ) → bytes ≡ signature ++ rest → length rest < 4 → IsCutBlock bytes
cut_short bytes rest front short = record { rest = rest; front = front; lacks = short_lacks rest short }

-- a block that says at most 520 bytes follow, of which fewer have come, may still get its end
pub cut_behind : (bytes rest : List ℕ) (command family count : ℕ) (behind : List ℕ) → bytes ≡ signature ++ rest
    → IsFixed rest command family count behind
    → count ≤ 520 → length behind < count → IsCutBlock bytes
cut_behind bytes rest command family count behind front fixed fits short =
    let high = fixed.0 in
    let low = fixed.1 in
    let is = fixed.2 in
    let counts = fixed.3 in
    record {
      rest = rest;
      front = front;
      lacks = subst LacksBytes (sym is) (omega (arith, counts, fits), omega (arith, counts, short));
    }

-- the parts of a header that the bytes begin with
pub record Parts (command family count : ℕ) (behind : List ℕ) (from : Option Ipv4Addr) : Type 0 where
  pub block : List ℕ
  pub more : List ℕ
  pub spelled : behind ≡ block ++ more
  pub counted : length block ≡ count
  pub short : count ≤ 520
  pub tells : Tells command family block from

-- a block that the bytes begin with has the command, family and count that are read, and its bytes come after
pub parts_of : (bytes rest : List ℕ) (command family count : ℕ) (behind : List ℕ) (from : Option Ipv4Addr) (size : ℕ)
    → bytes ≡ signature ++ rest
    → IsFixed rest command family count behind → Begins IsBlock bytes from size → Parts command family count behind from
parts_of bytes rest command family count behind from size front fixed b =
    let is = fixed.2 in
    let counts = fixed.3 in
    let h = b.is in
    let all : bytes ≡ signature ++ h.command ∷ h.family ∷ h.high ∷ h.low ∷ (h.block ++ b.behind) =
    b.spelled ∙ ap (λ x. x ++ b.behind) h.spelled in
    let mine : bytes ≡ signature ++ command ∷ family ∷ fixed.0 ∷ fixed.1 ∷ behind = front ∙ ap (λ x. signature ++ x) is in
    let e1 : h.command ≡ command = cc in
    let e2 : h.family ≡ family = cc in
    let e3 : h.high ≡ fixed.0 = cc in
    let e4 : h.low ≡ fixed.1 = cc in
    let e5 : h.block ++ b.behind ≡ behind = cc in
    let counted = h.counted in
    let short = h.short in
    let same : length h.block ≡ count = counted ∙ ap (λ x. x * 256 + h.low) e3 ∙ ap (λ x. fixed.0 * 256 + x) e4 ∙ sym counts in
    record {
      block = h.block;
      more = b.behind;
      spelled = sym e5;
      counted = same;
      short = omega (arith, same, short);
      tells = subst (λ c. Tells c family h.block from) e1 (subst (λ f. Tells h.command f h.block from) e2 h.tells);
    }

-- bytes after the signature that say how many follow, and lack some, say at most 520, and fewer have come
cut_not : (rest : List ℕ) (command family count : ℕ) (behind : List ℕ) → IsFixed rest command family count behind → LacksBytes rest
    → (count ≤ 520) × (length behind < count)
cut_not rest command family count behind fixed lacks =
    let l = subst LacksBytes fixed.2 lacks in
    let a = l.0 in
    let b = l.1 in
    let counts = fixed.3 in
    (omega (arith, a, counts), omega (arith, b, counts))

-- a block whose end may still come, once it says how many bytes follow, says at most 520, and fewer have come
pub cut_of : (bytes rest : List ℕ) (command family count : ℕ) (behind : List ℕ) → bytes ≡ signature ++ rest
    → IsFixed rest command family count behind → IsCutBlock bytes → (count ≤ 520) × (length behind < count)
cut_of bytes rest command family count behind front fixed cut =
    let e = cut.front in
    let same : cut.rest ≡ rest = cc in
    cut_not rest command family count behind fixed (subst LacksBytes same cut.lacks)

-- bytes that say more than 520 follow are neither a block nor a part of one
pub too_long : (bytes rest : List ℕ) (command family count : ℕ) (behind : List ℕ) → bytes ≡ signature ++ rest
    → IsFixed rest command family count behind → 520 < count
    → ((from : Option Ipv4Addr) (size : ℕ) → Begins IsBlock bytes from size → ⊥) × (IsCutBlock bytes → ⊥)
too_long bytes rest command family count behind front fixed long = (
  (λ from size b. let s = (parts_of bytes rest command family count behind from size front fixed b).short in omega (arith, s, long)),
  (λ cut. let s = (cut_of bytes rest command family count behind front fixed cut).0 in omega (arith, s, long)),
)

-- bytes that have all they say follow, at most 520, and tell what a block may, begin with a block of 16 bytes and these
whole_block : (bytes rest : List ℕ) (command family count : ℕ) (behind : List ℕ) (from : Option Ipv4Addr) → bytes ≡ signature ++ rest
    → IsFixed rest command family count behind → count ≤ 520 → count ≤ length behind → Tells command family (take count behind) from
    → Begins IsBlock bytes from (16 + count)
whole_block bytes rest command family count behind from front fixed fits there tells =
    let len = length-take-le count behind there in
    let counts = fixed.3 in
    record {
      header = signature ++ command ∷ family ∷ fixed.0 ∷ fixed.1 ∷ take count behind;
      behind = drop count behind;
      spelled = front ∙ ap (λ x. signature ++ x) (fixed.2
          ∙ ap (λ x. command ∷ family ∷ fixed.0 ∷ fixed.1 ∷ x) (sym (take-append-drop count behind)));
      is = record {
        command = command;
        family = family;
        high = fixed.0;
        low = fixed.1;
        block = take count behind;
        spelled = refl;
        counted = len ∙ counts;
        short = omega (arith, len, fits);
        tells = tells;
      };
      counted = omega (arith, len);
    }

-- as many bytes as a text has are that text, whatever follows
take_front : (block more : List ℕ) → take (length block) (block ++ more) ≡ block
take_front [] more = refl
take_front (b ∷ block) more = ap (λ x. b ∷ x) (take_front block more)

-- a block of a known length that some bytes begin with is as many of their first bytes
same_block : (behind block more : List ℕ) (count : ℕ) → behind ≡ block ++ more → length block ≡ count → block ≡ take count behind
same_block behind block more count is len =
    sym (take_front block more) ∙ ap (λ n. take n (block ++ more)) len ∙ ap (take count) (sym is)

-- bytes that have all they say follow, at most 520, are read as what their block says
pub block_answers : (bytes rest : List ℕ) (command family count : ℕ) (behind : List ℕ) (said : Said) → bytes ≡ signature ++ rest
    → IsFixed rest command family count behind → count ≤ 520 → count ≤ length behind
    → IsSaid (Tells command family (take count behind)) said
    → Answers IsBlock IsCutBlock bytes (is_reading said (16 + count))
block_answers bytes rest command family count behind (From ip) front fixed fits there h =
    whole_block bytes rest command family count behind (Some ip) front fixed fits there h
block_answers bytes rest command family count behind Unknown front fixed fits there h =
    whole_block bytes rest command family count behind None front fixed fits there h
block_answers bytes rest command family count behind Nothing front fixed fits there h = (
  (λ from size b. let p = parts_of bytes rest command family count behind from size front fixed b in
      h from (subst (λ x. Tells command family x from) (same_block behind p.block p.more count p.spelled p.counted) p.tells)),
  (λ cut. let s = (cut_of bytes rest command family count behind front fixed cut).1 in omega (arith, s, there)),
)

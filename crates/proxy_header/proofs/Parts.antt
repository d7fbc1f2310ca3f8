-- Parts of a header.
use Rattle.std.proofs.Common.{◌≡◌, ℕ, ◌+◌, ◌*◌, ◌<◌, ◌≤◌, ◌⊎◌, List, [], ◌∷◌, ◌++◌, length, refl, sym, ap, ◌∙◌, subst, arith, codes}
use Rattle.std.proofs.Common.{append_assoc, length-append, inl, inr, ⊎_elim, Option}
use Rattle.std.specs.declared.net.ipv4_addr.Ipv4Addr.{Ipv4Addr}
use Rattle.adapt_bytes.specs.Text.{Lacks}
use Rattle.proxy_header.specs.Blocks.{IsBlock, LacksBytes, signature}
use Rattle.proxy_header.specs.Lines.{IsLine}
use Rattle.proxy_header.specs.Headers.{Begins, IsCut, IsHeader}
use Rattle.proxy_header.proofs.Lines.{lacks_cr, lacks_front, no_line}
use Rattle.proxy_header.proofs.Versions.{block_front, line_front, of_both, one_front, said_front, starts_apart}

-- of two beginnings of a text one is a part of the other
two_fronts : (a b c d : List ℕ) → a ++ b ≡ c ++ d → ((m : List ℕ) × (a ≡ c ++ m)) ⊎ ((m : List ℕ) × (c ≡ a ++ m) × (b ≡ m ++ d))
two_fronts [] b c d e = inr (c, refl, e)
two_fronts (x ∷ a) b [] d e = inl (x ∷ a, refl)
two_fronts (x ∷ a) b (y ∷ c) d e =
    let heads : x ≡ y = cc in
    let tails : a ++ b ≡ c ++ d = cc in
    ⊎_elim (λ l. let t = l.1 in inl (l.0, cc)) (λ r. let t = r.1 in inr (r.0, cc, r.2)) (two_fronts a b c d tails)

-- nothing comes before a byte of a lone line feed
one_left : (m more : List ℕ) (byte : ℕ) → 10 ∷ [] ≡ m ++ byte ∷ more → m ≡ []
one_left [] more byte e = refl
one_left (b ∷ m) more byte e = let l = ap length e in absurd (omega (arith, l, length-append m (byte ∷ more)))

-- a part of a line that ends before the line's last byte has no line feed
part_lacks : (header line part more : List ℕ) (byte : ℕ) → header ≡ line ++ 13 ∷ 10 ∷ [] → Lacks 10 line → header ≡ part ++ byte ∷ more
    → Lacks 10 part
part_lacks header line part more byte spelled lacks cut = ⊎_elim
    (λ l. lacks_front 10 part l.0 (subst (Lacks 10) l.1 (lacks_cr line lacks)))
    (λ r. let none : r.0 ≡ [] = one_left r.0 more byte r.2 in
    subst (Lacks 10) (sym (r.1 ∙ ap (λ m. (line ++ 13 ∷ []) ++ m) none ∙ append_nil_cr line)) (lacks_cr line lacks))
    (two_fronts (line ++ 13 ∷ []) (10 ∷ []) part (byte ∷ more) (append_assoc line (13 ∷ []) (10 ∷ []) ∙ sym spelled ∙ cut)) where
      append_nil_cr : (line : List ℕ) → (line ++ 13 ∷ []) ++ [] ≡ line ++ 13 ∷ []
      append_nil_cr [] = refl
      append_nil_cr (b ∷ line) = ap (λ t. b ∷ t) (append_nil_cr line)

-- the bytes of a line before any byte of it are a part of a header
line_part : (header part more : List ℕ) (byte : ℕ) (from : Option Ipv4Addr) → IsLine header from → header ≡ part ++ byte ∷ more → IsCut part
line_part header part more byte from h cut =
    let front = said_front h.line from h.says in
    let all : codes "PROXY " ++ (front.0 ++ 13 ∷ 10 ∷ []) ≡ part ++ byte ∷ more =
    sym (h.spelled ∙ ap (λ l. l ++ 13 ∷ 10 ∷ []) front.1) ∙ cut in
    let l = ap length cut in
    let short = h.short in
    ⊎_elim (λ f. inl (inl f))
    (λ r. inr (inl (record {
      rest = r.0;
      front = r.1;
      unended = part_lacks header h.line part more byte h.spelled h.one cut;
      short = omega (arith, l, short, length-append part (byte ∷ more));
    })))
    (two_fronts (codes "PROXY ") (front.0 ++ 13 ∷ 10 ∷ []) part (byte ∷ more) all)

-- what stands between a block's signature and any later byte of it lacks bytes of that block
lacks_more : (r more block : List ℕ) (command family high low byte : ℕ) → command ∷ family ∷ high ∷ low ∷ block ≡ r ++ byte ∷ more
    → length block ≡ high * 256 + low → length block ≤ 520 → LacksBytes r
lacks_more [] more block command family high low byte e counted short = tt
lacks_more (a ∷ []) more block command family high low byte e counted short = tt
lacks_more (a ∷ b ∷ []) more block command family high low byte e counted short = tt
lacks_more (a ∷ b ∷ c ∷ []) more block command family high low byte e counted short = tt
lacks_more (a ∷ b ∷ c ∷ d ∷ r) more block command family high low byte e counted short =
    let hs : high ≡ c = cc in
    let ls : low ≡ d = cc in
    let bs : block ≡ r ++ byte ∷ more = cc in
    let len = ap length bs in
    let n : length block ≡ c * 256 + d = counted ∙ ap (λ x. x * 256 + low) hs ∙ ap (λ x. c * 256 + x) ls in
    (omega (arith, n, short), omega (arith, n, len, length-append r (byte ∷ more)))

-- the bytes of a block before any byte of it are a part of a header
block_part : (header part more : List ℕ) (byte : ℕ) (from : Option Ipv4Addr) → IsBlock header from → header ≡ part ++ byte ∷ more
    → IsCut part
block_part header part more byte from h cut = ⊎_elim (λ f. inl (inr f))
    (λ r. inr (inr (record {
      rest = r.0;
      front = r.1;
      lacks = lacks_more r.0 more h.block h.command h.family h.high h.low byte r.2 h.counted h.short;
    })))
    (two_fronts signature (h.command ∷ h.family ∷ h.high ∷ h.low ∷ h.block) part (byte ∷ more) (sym h.spelled ∙ cut))

-- the bytes of a header of either version before any byte of it are a part of a header
pub cut_anywhere : (header part more : List ℕ) (byte : ℕ) (from : Option Ipv4Addr) → IsHeader header from → header ≡ part ++ byte ∷ more
    → IsCut part
cut_anywhere header part more byte from h cut = ⊎_elim (λ l. line_part header part more byte from l cut)
    (λ b. block_part header part more byte from b cut) h

-- a line is longer than what it begins with
line_long : (bytes : List ℕ) (from : Option Ipv4Addr) (size : ℕ) → Begins IsLine bytes from size → 6 < length bytes
line_long bytes from size b =
    let f = line_front bytes from size b in
    let front = said_front b.is.line from b.is.says in
    let l1 = ap length b.spelled in
    let l2 = ap length b.is.spelled in
    let l3 = ap length front.1 in
    omega (arith, l1, l2, l3, length-append b.header b.behind, length-append b.is.line (13 ∷ 10 ∷ []))

-- bytes that begin with a block are longer than its signature
block_long : (bytes : List ℕ) (from : Option Ipv4Addr) (size : ℕ) → Begins IsBlock bytes from size → 12 < length bytes
block_long bytes from size b = let f = block_front bytes from size b in
    let l1 = ap length b.spelled in
    let l2 = ap length b.is.spelled in
    omega (arith, l1, l2, length-append b.header b.behind)

-- a part of the word PROXY and its space has at most six bytes
six : (bytes more : List ℕ) → codes "PROXY " ≡ bytes ++ more → 6 < length bytes → ⊥
six bytes more e long = let l = ap length e in omega (arith, l, long, length-append bytes more)

-- a part of the signature has at most twelve bytes
twelve : (bytes more : List ℕ) → signature ≡ bytes ++ more → 12 < length bytes → ⊥
twelve bytes more e long = let l = ap length e in omega (arith, l, long, length-append bytes more)

-- a part of the signature doesn't begin with PROXY and a space
apart : (bytes more rest : List ℕ) → signature ≡ bytes ++ more → bytes ≡ codes "PROXY " ++ rest → ⊥
apart bytes more rest e f = starts_apart _ _ (sym (e ∙ ap (λ b. b ++ more) f))

-- bytes that begin with a whole line are no part of a header
line_whole : (bytes : List ℕ) (from : Option Ipv4Addr) (size : ℕ) → Begins IsLine bytes from size → IsCut bytes → ⊥
line_whole bytes from size b cut =
    let f = line_front bytes from size b in
    ⊎_elim (λ front. ⊎_elim (λ h. six bytes h.0 h.1 (line_long bytes from size b)) (λ h. apart bytes h.0 f.0 h.1 f.1) front)
    (λ more. ⊎_elim (λ l. no_line bytes from size l.unended b) (λ k. one_front bytes f.0 k.rest f.1 k.front) more) cut

-- bytes that have all of a block that its length counts lack none
lacks_not : (rest block more : List ℕ) (command family high low : ℕ) → rest ≡ command ∷ family ∷ high ∷ low ∷ (block ++ more)
    → length block ≡ high * 256 + low → LacksBytes rest → ⊥
lacks_not rest block more command family high low is counted lacks =
    let l = (subst LacksBytes is lacks).1 in
    omega (arith, l, counted, length-append block more)

-- bytes that begin with a whole block are no part of a header
block_whole : (bytes : List ℕ) (from : Option Ipv4Addr) (size : ℕ) → Begins IsBlock bytes from size → IsCut bytes → ⊥
block_whole bytes from size b cut =
    let f = block_front bytes from size b in
    ⊎_elim
    (λ front. ⊎_elim (λ h. starts_apart _ _ (h.1 ∙ ap (λ x. x ++ h.0) f.1)) (λ h. twelve bytes h.0 h.1 (block_long bytes from size b))
    front)
    (λ more. ⊎_elim (λ l. one_front bytes l.rest f.0 l.front f.1)
    (λ k. let e1 = k.front in
    let e2 : bytes ≡ signature ++ b.is.command ∷ b.is.family ∷ b.is.high ∷ b.is.low ∷ (b.is.block ++ b.behind) =
    b.spelled ∙ ap (λ h. h ++ b.behind) b.is.spelled in
    let same : k.rest ≡ b.is.command ∷ b.is.family ∷ b.is.high ∷ b.is.low ∷ (b.is.block ++ b.behind) = cc in
    lacks_not k.rest b.is.block b.behind b.is.command b.is.family b.is.high b.is.low same b.is.counted k.lacks) more) cut

-- bytes that begin with a whole header of either version are no part of one
pub whole_or_cut : (bytes : List ℕ) (from : Option Ipv4Addr) (size : ℕ) → Begins IsHeader bytes from size → IsCut bytes → ⊥
whole_or_cut bytes from size b cut = of_both bytes from size ⊥ (λ l. line_whole bytes from size l cut)
    (λ k. block_whole bytes from size k cut) b

-- A text begins with a header of one version at most.
use Rattle.std.proofs.Common.{◌≡◌, ℕ, List, [], ◌∷◌, ◌++◌, length, refl, sym, ap, ◌∙◌, subst, arith, codes, append_assoc, length-append}
use Rattle.std.proofs.Common.{inl, inr, ⊎_elim, Option, Some, None}
use Rattle.std.specs.declared.net.ipv4_addr.Ipv4Addr.{Ipv4Addr}
use Rattle.adapt_bytes.specs.Text.{Lacks}
use Rattle.proxy_header.specs.declared.reading.Reading.{Reading}
use Rattle.proxy_header.specs.declared.reading.Reading.TheVariants.{Whole, Partial, Fault}
use Rattle.proxy_header.specs.Blocks.{IsBlock, IsCutBlock, signature}
use Rattle.proxy_header.specs.Lines.{IsLine, IsCutLine, Says}
use Rattle.proxy_header.proofs.Lines.{lacks_cons, lacks_nil}
use Rattle.proxy_header.specs.Headers.{Answers, Begins, IsCut, IsCutFront, IsHeader}

-- how a line begins
pub said_front : (line : List ℕ) (from : Option Ipv4Addr) → Says line from → (rest : List ℕ) × (line ≡ codes "PROXY " ++ rest)
said_front line None h = (codes "UNKNOWN" ++ h.0, h.1)
said_front line (Some ip) h = (codes "TCP4 " ++ h.0, h.1)

-- bytes that begin with a line begin with PROXY and a space
pub line_front : (bytes : List ℕ) (from : Option Ipv4Addr) (size : ℕ) → Begins IsLine bytes from size
    → (rest : List ℕ) × (bytes ≡ codes "PROXY " ++ rest)
line_front bytes from size b =
    let front = said_front b.is.line from b.is.says in (
      front.0 ++ (13 ∷ 10 ∷ b.behind),
      b.spelled ∙ ap (λ h. h ++ b.behind) (b.is.spelled ∙ ap (λ l. l ++ 13 ∷ 10 ∷ []) front.1)
          ∙ ap (λ t. codes "PROXY " ++ t) (append_assoc front.0 (13 ∷ 10 ∷ []) b.behind),
    )

-- bytes that begin with a block begin with the signature
pub block_front : (bytes : List ℕ) (from : Option Ipv4Addr) (size : ℕ) → Begins IsBlock bytes from size
    → (rest : List ℕ) × (bytes ≡ signature ++ rest)
block_front bytes from size b =
    (b.is.command ∷ b.is.family ∷ b.is.high ∷ b.is.low ∷ (b.is.block ++ b.behind), b.spelled ∙ ap (λ h. h ++ b.behind) b.is.spelled)

-- a text that begins with P doesn't begin with a CR
pub starts_apart : (a b : List ℕ) → 80 ∷ a ≡ 13 ∷ b → ⊥
starts_apart a b e = cc

-- bytes that begin with PROXY and a space don't begin with the signature
pub one_front : (bytes rest other : List ℕ) → bytes ≡ codes "PROXY " ++ rest → bytes ≡ signature ++ other → ⊥
one_front bytes rest other e f = starts_apart _ _ (sym e ∙ f)

-- one of both versions
pub of_both : (bytes : List ℕ) (from : Option Ipv4Addr) (size : ℕ) (P : Type 0) → (Begins IsLine bytes from size → P)
    → (Begins IsBlock bytes from size → P)
    → Begins IsHeader bytes from size → P
of_both bytes from size P line block b = ⊎_elim
    (λ is. line (record { header = b.header; behind = b.behind; spelled = b.spelled; is = is; counted = b.counted }))
    (λ is. block (record { header = b.header; behind = b.behind; spelled = b.spelled; is = is; counted = b.counted })) b.is

-- what comes after a whole text within that text is empty
none_behind : (front rest more : List ℕ) → front ≡ (front ++ rest) ++ more → rest ≡ []
none_behind front [] more e = refl
none_behind front (b ∷ rest) more e =
    let l = ap length e in
    absurd (omega (arith, l, length-append (front ++ b ∷ rest) more, length-append front (b ∷ rest)))

-- a part of a header's first bytes that has the whole signature lacks the rest of the block
front_block : (bytes rest : List ℕ) → bytes ≡ signature ++ rest → IsCutFront bytes → IsCutBlock bytes
front_block bytes rest front cut = ⊎_elim
    (λ h. let all : codes "PROXY " ≡ signature ++ (rest ++ h.0) = h.1 ∙ ap (λ b. b ++ h.0) front in
    absurd (starts_apart _ _ all))
    (λ h. let none : rest ≡ [] = none_behind signature rest h.0 (h.1 ∙ ap (λ b. b ++ h.0) front) in
    record { rest = []; front = front ∙ ap (λ r. signature ++ r) none; lacks = tt }) cut

-- the word PROXY and its space have no line feed
lacks_word : Lacks 10 (codes "PROXY ")
lacks_word =
    lacks_cons 10 80 (82 ∷ 79 ∷ 88 ∷ 89 ∷ 32 ∷ []) (λ e. omega arith) (lacks_cons 10 82 (79 ∷ 88 ∷ 89 ∷ 32 ∷ []) (λ e. omega arith)
    (lacks_cons 10 79 (88 ∷ 89 ∷ 32 ∷ []) (λ e. omega arith) (lacks_cons 10 88 (89 ∷ 32 ∷ []) (λ e. omega arith)
    (lacks_cons 10 89 (32 ∷ []) (λ e. omega arith) (lacks_cons 10 32 [] (λ e. omega arith) (lacks_nil 10))))))

-- a part of what a header begins with that has PROXY and a space is a line whose end may still come
front_line : (bytes rest : List ℕ) → bytes ≡ codes "PROXY " ++ rest → IsCutFront bytes → IsCutLine bytes
front_line bytes rest front cut = ⊎_elim
    (λ h. let none : rest ≡ [] = none_behind (codes "PROXY ") rest h.0 (h.1 ∙ ap (λ b. b ++ h.0) front) in
    let is : bytes ≡ codes "PROXY " = front ∙ ap (λ r. codes "PROXY " ++ r) none in
    let l = ap length is in
    record { rest = []; front = is; unended = subst (Lacks 10) (sym is) lacks_word; short = omega (arith, l) })
    (λ h. let all : signature ≡ codes "PROXY " ++ (rest ++ h.0) = h.1 ∙ ap (λ b. b ++ h.0) front in
    absurd (starts_apart _ _ (sym all))) cut

-- what bytes with the signature are as a block they are as a header of either version
pub block_is : (bytes rest : List ℕ) (reading : Reading) → bytes ≡ signature ++ rest → Answers IsBlock IsCutBlock bytes reading
    → Answers IsHeader IsCut bytes reading
block_is bytes rest (Whole header) front h =
    record { header = h.header; behind = h.behind; spelled = h.spelled; is = inr h.is; counted = h.counted }
block_is bytes rest Partial front h = inr (inr h)
block_is bytes rest Fault front h = (
  (λ from size b. of_both bytes from size ⊥
      (λ l. let f = line_front bytes from size l in one_front bytes f.0 rest f.1 front) (λ k. h.0 from size k) b),
  (λ cut. ⊎_elim (λ f. h.1 (front_block bytes rest front f))
      (λ more. ⊎_elim (λ l. one_front bytes l.rest rest l.front front) (λ k. h.1 k) more) cut),
)

-- what bytes with PROXY and a space are as a line they are as a header of either version
pub line_is : (bytes rest : List ℕ) (reading : Reading) → bytes ≡ codes "PROXY " ++ rest → Answers IsLine IsCutLine bytes reading
    → Answers IsHeader IsCut bytes reading
line_is bytes rest (Whole header) front h =
    record { header = h.header; behind = h.behind; spelled = h.spelled; is = inl h.is; counted = h.counted }
line_is bytes rest Partial front h = inr (inl h)
line_is bytes rest Fault front h = (
  (λ from size b. of_both bytes from size ⊥ (λ l. h.0 from size l)
      (λ k. let f = block_front bytes from size k in one_front bytes rest f.0 front f.1) b),
  (λ cut. ⊎_elim (λ f. h.1 (front_line bytes rest front f))
      (λ more. ⊎_elim (λ l. h.1 l) (λ k. one_front bytes rest k.rest front k.front) more) cut),
)

-- bytes with neither PROXY and a space nor the signature, and no part of these, are neither a header nor a part of one
pub neither : (bytes : List ℕ) → ((rest : List ℕ) → bytes ≡ signature ++ rest → ⊥) → ((rest : List ℕ) → bytes ≡ codes "PROXY " ++ rest → ⊥)
    → (IsCutFront bytes → ⊥) → ((from : Option Ipv4Addr) (size : ℕ) → Begins IsHeader bytes from size → ⊥) × (IsCut bytes → ⊥)
neither bytes block line front = (
  (λ from size b. of_both bytes from size ⊥ (λ l. let f = line_front bytes from size l in line f.0 f.1)
      (λ k. let f = block_front bytes from size k in block f.0 f.1) b),
  (λ cut. ⊎_elim front (λ more. ⊎_elim (λ l. line l.rest l.front) (λ k. block k.rest k.front) more) cut),
)

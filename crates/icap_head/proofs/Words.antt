-- A start line is cut into its words in one way.
use Rattle.std.proofs.Common.{◌≡◌, ℕ, Bool, true, false, IsTrue, List, [], ◌∷◌, ◌++◌, length, get_or, take, refl, sym, ap, ◌∙◌, subst}
use Rattle.std.proofs.Common.{arith, append_assoc, codes, min, inl, inr, take_all}
use Rattle.std.proofs.lemmas.Bool.{cases_lt}
use Rattle.adapt_bytes.specs.Text.{IsToken, Lacks}
use Rattle.adapt_bytes.proofs.Cuts.{first_cut}
use Rattle.std.specs.Char.{is_ascii_digit}
use Rattle.icap_head.specs.StartLines.{IsFirstLine, without_cr, IsRequestLine, IsIcapUri, IsVersion}
use Rattle.icap_head.proofs.Lacking.{false_true, no_space, lacks_cut, lacks_nil, lacks_cons, lacks_append, lacks_from, tested}

-- a request line is its method, a space, and then its URI, a space and its version
pub line_words : (line m u v : List ℕ) → IsRequestLine line m u v → line ≡ m ++ 32 ∷ (u ++ 32 ∷ v)
line_words line m u v h = h.line_is ∙ append_assoc m (32 ∷ u) (32 ∷ v)

-- a line without a space is no request line
pub no_first : (line m u v : List ℕ) → Lacks 32 line → IsRequestLine line m u v → ⊥
no_first line m u v lacks h = lacks_cut 32 line m (u ++ 32 ∷ v) lacks (line_words line m u v h)

-- what stands before the first space of a request line is its method, and after it its URI and version
pub first_word : (line a rest m u v : List ℕ) → line ≡ a ++ 32 ∷ rest → Lacks 32 a → IsRequestLine line m u v
    → (a ≡ m) × (rest ≡ u ++ 32 ∷ v)
first_word line a rest m u v cut lacks h = first_cut 32 a m rest (u ++ 32 ∷ v) lacks (no_space m h.method_is)
    (sym cut ∙ line_words line m u v h)

-- a line without a space after its first is no request line
pub no_second : (line a rest m u v : List ℕ) → line ≡ a ++ 32 ∷ rest → Lacks 32 a → Lacks 32 rest → IsRequestLine line m u v → ⊥
no_second line a rest m u v cut lacks none h =
    let first = first_word line a rest m u v cut lacks h in
    lacks_cut 32 rest u v none first.1

-- the words are those that were cut off
pub all_words : (line a rest b w m u v : List ℕ) → line ≡ a ++ 32 ∷ rest → Lacks 32 a → rest ≡ b ++ 32 ∷ w → Lacks 32 b
    → IsRequestLine line m u v
    → (a ≡ m) × (b ≡ u) × (w ≡ v)
all_words line a rest b w m u v cut lacks cut2 lacks2 h =
    let first = first_word line a rest m u v cut lacks h in
    let second = first_cut 32 b u w v lacks2 h.one_word (sym cut2 ∙ first.1) in
    (first.0, second.0, second.1)

-- a line cut at a space, and its rest cut at a space, is the three words with a space between them
pub words_joined : (line a rest b w : List ℕ) → line ≡ a ++ 32 ∷ rest → rest ≡ b ++ 32 ∷ w → line ≡ a ++ 32 ∷ b ++ 32 ∷ w
words_joined line a rest b w cut cut2 = cut ∙ ap (λ t. a ++ 32 ∷ t) cut2 ∙ sym (append_assoc a (32 ∷ b) (32 ∷ w))

-- a token, an ICAP URI without a space and a version, cut at spaces, are a request line
pub line_from : (line a rest b w : List ℕ) → line ≡ a ++ 32 ∷ rest → rest ≡ b ++ 32 ∷ w → Lacks 32 b → IsToken a → IsIcapUri b → IsVersion w
    → IsRequestLine line a b w
line_from line a rest b w cut cut2 lacks2 token uri version = record {
  line_is = words_joined line a rest b w cut cut2;
  method_is = token;
  uri_is = uri;
  one_word = lacks2;
  version_is = version;
}

-- a request line has one method, one URI and one version only
pub line_unique : (line m u v m₂ u₂ v₂ : List ℕ) → IsRequestLine line m u v → IsRequestLine line m₂ u₂ v₂ → (m ≡ m₂) × (u ≡ u₂) × (v ≡ v₂)
line_unique line m u v m₂ u₂ v₂ h g = all_words line m (u ++ 32 ∷ v) u v m₂ u₂ v₂ (line_words line m u v h) (no_space m h.method_is) refl
    h.one_word g

-- a text has one first line only, and one rest after it
pub first_unique : (text l r l₂ r₂ : List ℕ) → IsFirstLine text l r → IsFirstLine text l₂ r₂ → (l ≡ l₂) × (r ≡ r₂)
first_unique text l r l₂ r₂ h g =
    let same = first_cut 10 h.raw g.raw r r₂ h.no_feed g.no_feed (sym h.cut ∙ g.cut) in
    (h.line_is ∙ ap without_cr same.0 ∙ sym g.line_is, same.1)

-- a test that isn't false is true
pub is_true_unless : (b : Bool) → (b ≡ false → ⊥) → IsTrue b
is_true_unless true h = refl
is_true_unless false h = absurd (h refl)

-- a list of eight, by its places
pub eight : (t : List ℕ) → length t ≡ 8 → t ≡ get_or t 0 0 ∷ get_or t 1 0 ∷ get_or t 2 0 ∷ get_or t 3 0 ∷ get_or t 4 0 ∷ get_or t 5 0 ∷
    get_or t 6 0 ∷ get_or t 7 0 ∷ []
eight (a ∷ b ∷ c ∷ d ∷ e ∷ f ∷ g ∷ h ∷ []) l = refl
eight t l = absurd (omega arith)

-- a text of eight bytes with ICAP/ and a dot at their places is these and two bytes more
pub version_from : (t : List ℕ) → length t ≡ 8 → get_or t 0 0 ≡ 73 → get_or t 1 0 ≡ 67 → get_or t 2 0 ≡ 65 → get_or t 3 0 ≡ 80
    → get_or t 4 0 ≡ 47 → get_or t 6 0 ≡ 46
    → t ≡ 73 ∷ 67 ∷ 65 ∷ 80 ∷ 47 ∷ get_or t 5 0 ∷ 46 ∷ get_or t 7 0 ∷ []
version_from t l a b c d e g = eight t l ∙ (λ i. a i ∷ b i ∷ c i ∷ d i ∷ e i ∷ get_or t 5 0 ∷ g i ∷ get_or t 7 0 ∷ [])

-- the first bytes up to a limit are those up to the lesser of it and the text's length
pub take_min : (n : ℕ) (t : List ℕ) → take (min (length t) n) t ≡ take n t
take_min n t =
    elim (cases_lt n (length t)) [
      | inl less ↦ let e : min (length t) n ≡ n = omega arith in ap (λ k. take k t) e
      | inr more ↦ let e : min (length t) n ≡ length t = omega arith in
          ap (λ k. take k t) e ∙ take_all (length t) t (omega arith) ∙ sym (take_all n t more)
    ]

-- an ASCII digit is no space
digit_no_space : (d : ℕ) → IsTrue (is_ascii_digit d) → d ≡ 32 → ⊥
digit_no_space d digit is = false_true (sym (ap is_ascii_digit is) ∙ digit)

-- a version has no space
pub version_lacks : (v : List ℕ) → IsVersion v → Lacks 32 v
version_lacks v h =
    subst (Lacks 32) (sym h.text_is)
    (lacks_append 32 (codes "ICAP/") (h.major ∷ 46 ∷ h.minor ∷ []) (lacks_from 32 (codes "ICAP/") refl)
    (lacks_cons 32 h.major (46 ∷ h.minor ∷ []) (digit_no_space h.major h.major_digit)
    (lacks_cons 32 46 (h.minor ∷ []) (tested 32 46 refl) (lacks_cons 32 h.minor [] (digit_no_space h.minor h.minor_digit) (lacks_nil 32)))))

-- A text is cut into its words in one way.
use Rattle.std.proofs.Common.{◌≡◌, ◌≢◌, ℕ, Bool, true, false, cond, List, [], ◌∷◌, ◌++◌, refl, ap, ◌∙◌, subst, arith, eqb, ne_eqb}
use Rattle.std.specs.List.{onto_first}
use Rattle.std.specs.Net.Grammar.{IsIpv4Text}
use Rattle.std.specs.declared.net.ipv4_addr.Ipv4Addr.{Ipv4Addr}
use Rattle.adapt_bytes.specs.Text.{Lacks}
use Rattle.adapt_bytes.proofs.Cuts.{Lacks-tail}
use Rattle.proxy_header.specs.Lines.{IsConnection, IsPort, words}

-- one step over a byte that is no space
words_over : (b : ℕ) (text first : List ℕ) (rest : List (List ℕ)) → b ≢ 32 → words text ≡ first ∷ rest
    → words (b ∷ text) ≡ (b ∷ first) ∷ rest
words_over b text first rest other are =
    ap (λ t. cond t ([] ∷ words text) (onto_first b (words text))) (ne_eqb b 32 other) ∙ ap (onto_first b) are

-- what stands before the first space is the first word, and the others are those of the text after it
pub words_cut : (a x : List ℕ) → Lacks 32 a → words (a ++ 32 ∷ x) ≡ a ∷ words x
words_cut [] x lacks = refl
words_cut (b ∷ a) x lacks =
    words_over b (a ++ 32 ∷ x) a (words x) (lacks 0 (omega arith)) (words_cut a x (Lacks-tail 32 b a lacks))

-- a text without a space is its only word
pub words_whole : (a : List ℕ) → Lacks 32 a → words a ≡ a ∷ []
words_whole [] lacks = refl
words_whole (b ∷ a) lacks = words_over b a a [] (lacks 0 (omega arith)) (words_whole a (Lacks-tail 32 b a lacks))

-- a byte put onto the first of some words leaves none only where there are none
onto_some : (b : ℕ) (parts : List (List ℕ)) → onto_first b parts ≡ [] → parts ≡ []
onto_some b [] e = refl
onto_some b (part ∷ parts) e = absurd (cc)

-- a text with a byte before it has a word where the text has one
step_at : (t : Bool) (b : ℕ) (text : List ℕ) → (words text ≡ [] → ⊥) → cond t ([] ∷ words text) (onto_first b (words text)) ≡ [] → ⊥
step_at true b text none e = cc
step_at false b text none e = none (onto_some b (words text) e)

-- there is one word at least
pub words_some : (text : List ℕ) → words text ≡ [] → ⊥
words_some [] e = cc
words_some (b ∷ text) e = step_at (eqb b 32) b text (words_some text) e

-- a text that goes on after four words and a space isn't four words
pub no_fifth : (t r1 r2 r3 y p q s u : List ℕ) → words t ≡ p ∷ words r1 → words r1 ≡ q ∷ words r2 → words r2 ≡ s ∷ words r3
    → words r3 ≡ u ∷ words y
    → (a b c d : List ℕ) → words t ≡ a ∷ b ∷ c ∷ d ∷ [] → ⊥
no_fifth t r1 r2 r3 y p q s u e1 e2 e3 e4 a b c d four = words_some y cc

-- what is said of a connection is said of the four words
pub record Said (ip : Ipv4Addr) (s t u v : List ℕ) : Type 0 where
  pub to : Ipv4Addr
  pub source_is : IsIpv4Text s ip
  pub target_is : IsIpv4Text t to
  pub source_port_is : IsPort u
  pub target_port_is : IsPort v

-- what a text of four words says of a connection is said by those four words
pub said_of : (text s t u v : List ℕ) (ip : Ipv4Addr) → words text ≡ s ∷ t ∷ u ∷ v ∷ [] → IsConnection text ip → Said ip s t u v
said_of text s t u v ip four h =
    let e1 : h.source ≡ s = cc in
    let e2 : h.target ≡ t = cc in
    let e3 : h.source_port ≡ u = cc in
    let e4 : h.target_port ≡ v = cc in
    record {
      to = h.to;
      source_is = subst (λ x. IsIpv4Text x ip) e1 h.source_is;
      target_is = subst (λ x. IsIpv4Text x h.to) e2 h.target_is;
      source_port_is = subst IsPort e3 h.source_port_is;
      target_port_is = subst IsPort e4 h.target_port_is;
    }

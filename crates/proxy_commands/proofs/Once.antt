-- A text is one script at most, and has one output at most.
use Rattle.std.proofs.Common.{◌≡◌, ℕ, ◌+◌, ◌<◌, ◌^◌, Bool, true, false, subst, List}
use Rattle.std.proofs.Common.{[], ◌∷◌, ◌++◌, length, Option, refl, sym, ap, ◌∙◌, inl, inr}
use Rattle.trace_core.specs.declared.history.Plan.{Plan}
use Rattle.std.specs.Option.{ForSome}
use Rattle.std.proofs.Props.{props}
use mathlib.Core.HLevel.{is_prop→PathP}
use Rattle.trace_core.specs.declared.history.Kind.{Kind}
use Rattle.trace_core.specs.declared.history.Kind.TheVariants.{Preview}
use Rattle.proxy_commands.specs.declared.script.Line.{Line}
use Rattle.proxy_commands.specs.Lines.{lines_of, is_comment, said}
use Rattle.proxy_commands.specs.Words.{SaysLine}
use Rattle.proxy_commands.specs.Script.{SaysPlan, SaysLines, SaysAll, IsFirstOther, IsBadFrom, IsFirstBad}
use Rattle.icap_chunks.proofs.Readings.{one_outcome}
use Rattle.proxy_commands.specs.Answers.{output_of, IsOutput}
use Rattle.proxy_commands.specs.Chunks.{body_text, outcome_text, IsChunksOutput}
use Rattle.std.proofs.lemmas.Bool.{false≢true}
use Rattle.proxy_commands.proofs.LineForms.{line_of-says}
use Rattle.proxy_commands.proofs.PlanForms.{parts_of-says}
use Rattle.proxy_commands.proofs.Comments.{passed, kept, line_says, plan_says}

-- a plan is its kind, its allowance and leave, its length and its point: its bounds have one proof each
same_plan : (p q : Plan) → p.kind ≡ q.kind → p.allow ≡ q.allow → p.retry ≡ q.retry → p.len ≡ q.len → p.point ≡ q.point → p ≡ q
same_plan p q k a r l o = λ i. record {
  kind = k i;
  allow = a i;
  retry = r i;
  len = l i;
  point = o i;
  preview_in_range =
      is_prop→PathP (λ j. (size : ℕ) → k j ≡ Preview size → size < 2 ^ 62) (λ j. hlevel props) p.preview_in_range q.preview_in_range i;
  len_in_range = is_prop→PathP (λ j. ForSome (l j) (λ bytes. bytes < 2 ^ 62)) (λ j. hlevel props) p.len_in_range q.len_in_range i;
}

-- a text says one line at most
same_line : (text : List ℕ) (a b : Line) → SaysLine text a → SaysLine text b → a ≡ b
same_line text a b h i = let e = line_of-says text a h in let f = line_of-says text b i in cc

-- a text says one plan at most
pub one_plan : (text : List ℕ) (p q : Plan) → SaysPlan text p → SaysPlan text q → p ≡ q
one_plan text p q h i =
    let e = parts_of-says text p.kind (p.allow, p.retry) p.len h.parts in
    let f = parts_of-says text q.kind (q.allow, q.retry) q.len i.parts in
    let triple : (p.kind, (p.allow, p.retry), p.len) ≡ (q.kind, (q.allow, q.retry), q.len) = cc in
    same_plan p q
    (ap (λ (t : Kind × (Bool × Bool) × Option ℕ). t.0) triple)
    (ap (λ (t : Kind × (Bool × Bool) × Option ℕ). t.1.0) triple)
    (ap (λ (t : Kind × (Bool × Bool) × Option ℕ). t.1.1) triple)
    (ap (λ (t : Kind × (Bool × Bool) × Option ℕ). t.2) triple)
    (h.point ∙ sym i.point)

-- texts say one list of lines at most
same_lines : (texts : List (List ℕ)) (a b : List Line) → SaysLines texts a → SaysLines texts b → a ≡ b
same_lines [] [] [] h i = refl
same_lines [] [] (y ∷ b) h i = absurd i
same_lines [] (x ∷ a) b h i = absurd h
same_lines (text ∷ texts) [] b h i = absurd h
same_lines (text ∷ texts) (x ∷ a) [] h i = absurd i
same_lines (text ∷ texts) (x ∷ a) (y ∷ b) h i =
    let first = same_line text x y h.0 i.0 in
    let rest = same_lines texts a b h.1 i.1 in
    cc

-- texts say one plan and one list of lines at most
one_script : (texts : List (List ℕ)) (p q : Plan) (a b : List Line) → SaysAll texts p a → SaysAll texts q b → (p ≡ q) × (a ≡ b)
one_script [] p q a b h i = absurd h
one_script (first ∷ texts) p q a b h i = (one_plan first p q h.0 i.0, same_lines texts a b h.1 i.1)

-- a text is one script at most
pub lines_once : (text : List ℕ) (p q : Plan) (a b : List Line)
    → SaysAll (said (lines_of text)) p a → SaysAll (said (lines_of text)) q b → (p ≡ q) × (a ≡ b)
lines_once text p q a b h i = one_script (said (lines_of text)) p q a b h i

-- a text that says a line says the first of the lines
no_line : (text : List ℕ) (texts : List (List ℕ)) (lines : List Line)
    → ((line : Line) → SaysLine text line → ⊥) → SaysLines (text ∷ texts) lines → ⊥
no_line text texts [] none h = h
no_line text texts (line ∷ lines) none h = none line h.0

-- where the texts after the first say no lines, all of them say none
more_lines : (text : List ℕ) (texts : List (List ℕ)) (lines : List Line)
    → ((more : List Line) → SaysLines texts more → ⊥) → SaysLines (text ∷ texts) lines → ⊥
more_lines text texts [] none h = h
more_lines text texts (line ∷ lines) none h = none lines h.1

-- where what is said is lines, no line is of another form
no_other : (from : ℕ) (texts : List (List ℕ)) (lines : List Line) (n : ℕ) → SaysLines (said texts) lines → IsFirstOther from texts n → ⊥
no_other from [] lines n h i = i
no_other from (text ∷ texts) lines n h (inl i) =
    no_other (from + 1) texts lines n (subst (λ (t : List (List ℕ)). SaysLines t lines) (passed text texts i.0) h) i.1
no_other from (text ∷ texts) lines n h (inr (inl i)) =
    no_line text (said texts) lines i.1 (subst (λ (t : List (List ℕ)). SaysLines t lines) (kept text texts i.0) h)
no_other from (text ∷ texts) lines n h (inr (inr i)) =
    more_lines text (said texts) lines (λ more m. no_other (from + 1) texts more n m i.2)
    (subst (λ (t : List (List ℕ)). SaysLines t lines) (kept text texts (line_says text i.0 i.1)) h)

-- where what is said is a plan and lines, no line is bad
none_bad : (from : ℕ) (texts : List (List ℕ)) (plan : Plan) (lines : List Line) (n : ℕ)
    → SaysAll (said texts) plan lines → IsBadFrom from texts n → ⊥
none_bad from [] plan lines n h i = h
none_bad from (text ∷ texts) plan lines n h (inl i) =
    none_bad (from + 1) texts plan lines n (subst (λ (t : List (List ℕ)). SaysAll t plan lines) (passed text texts i.0) h) i.1
none_bad from (text ∷ texts) plan lines n h (inr (inl i)) =
    i.1 plan (subst (λ (t : List (List ℕ)). SaysAll t plan lines) (kept text texts i.0) h).0
none_bad from (text ∷ texts) plan lines n h (inr (inr i)) =
    no_other (from + 1) texts lines n
    (subst (λ (t : List (List ℕ)). SaysAll t plan lines) (kept text texts (plan_says text i.0 i.1)) h).1 i.2

-- a text that is a script has no bad line
pub good_or_bad : (text : List ℕ) (plan : Plan) (lines : List Line) (n : ℕ)
    → SaysAll (said (lines_of text)) plan lines → IsFirstBad (lines_of text) n → ⊥
good_or_bad text plan lines n h i = none_bad 1 (lines_of text) plan lines n h i

-- a line is no comment
both_ways : (b : Bool) → b ≡ true → b ≡ false → ⊥
both_ways b e f = false≢true (sym f ∙ e)

-- the first line of another form has one number at most
one_other : (from : ℕ) (texts : List (List ℕ)) (m n : ℕ) → IsFirstOther from texts m → IsFirstOther from texts n → m ≡ n
one_other from [] m n h i = absurd h
one_other from (text ∷ texts) m n (inl h) (inl i) = one_other (from + 1) texts m n h.1 i.1
one_other from (text ∷ texts) m n (inl h) (inr (inl i)) = absurd (both_ways (is_comment text) h.0 i.0)
one_other from (text ∷ texts) m n (inl h) (inr (inr i)) = absurd (both_ways (is_comment text) h.0 (line_says text i.0 i.1))
one_other from (text ∷ texts) m n (inr (inl h)) (inl i) = absurd (both_ways (is_comment text) i.0 h.0)
one_other from (text ∷ texts) m n (inr (inl h)) (inr (inl i)) = h.2 ∙ sym i.2
one_other from (text ∷ texts) m n (inr (inl h)) (inr (inr i)) = absurd (h.1 i.0 i.1)
one_other from (text ∷ texts) m n (inr (inr h)) (inl i) = absurd (both_ways (is_comment text) i.0 (line_says text h.0 h.1))
one_other from (text ∷ texts) m n (inr (inr h)) (inr (inl i)) = absurd (i.1 h.0 h.1)
one_other from (text ∷ texts) m n (inr (inr h)) (inr (inr i)) = one_other (from + 1) texts m n h.2 i.2

-- the first bad line has one number at most
one_bad : (from : ℕ) (texts : List (List ℕ)) (m n : ℕ) → IsBadFrom from texts m → IsBadFrom from texts n → m ≡ n
one_bad from [] m n h i = h ∙ sym i
one_bad from (text ∷ texts) m n (inl h) (inl i) = one_bad (from + 1) texts m n h.1 i.1
one_bad from (text ∷ texts) m n (inl h) (inr (inl i)) = absurd (both_ways (is_comment text) h.0 i.0)
one_bad from (text ∷ texts) m n (inl h) (inr (inr i)) = absurd (both_ways (is_comment text) h.0 (plan_says text i.0 i.1))
one_bad from (text ∷ texts) m n (inr (inl h)) (inl i) = absurd (both_ways (is_comment text) i.0 h.0)
one_bad from (text ∷ texts) m n (inr (inl h)) (inr (inl i)) = h.2 ∙ sym i.2
one_bad from (text ∷ texts) m n (inr (inl h)) (inr (inr i)) = absurd (h.1 i.0 i.1)
one_bad from (text ∷ texts) m n (inr (inr h)) (inl i) = absurd (both_ways (is_comment text) i.0 (plan_says text h.0 h.1))
one_bad from (text ∷ texts) m n (inr (inr h)) (inr (inl i)) = absurd (i.1 h.0 h.1)
one_bad from (text ∷ texts) m n (inr (inr h)) (inr (inr i)) = one_other (from + 1) texts m n h.2 i.2

-- a text has one first bad line at most
pub first_once : (text : List ℕ) (m n : ℕ) → IsFirstBad (lines_of text) m → IsFirstBad (lines_of text) n → m ≡ n
first_once text m n h i = one_bad 1 (lines_of text) m n h i

-- a text has one output at most as a script
pub output_once : (text a b : List ℕ) → IsOutput text a → IsOutput text b → a ≡ b
output_once text a b h i =
    let same = lines_once text h.0 i.0 h.1 i.1 h.2 i.2 in
    h.3 ∙ ap (λ p. output_of p h.1) same.0 ∙ ap (output_of i.0) same.1 ∙ sym i.3

-- a text has one output at most as a chunked body
pub chunks_once : (text a b : List ℕ) → IsChunksOutput text a → IsChunksOutput text b → a ≡ b
chunks_once text a b h i =
    let same = one_outcome text h.0 i.0 h.1 i.1 h.2 i.2 in
    h.3
    ∙ ap (λ body. body_text body ++ outcome_text (length text) h.1) same.0
    ∙ ap (λ o. body_text i.0 ++ outcome_text (length text) o) same.1 ∙ sym i.3

-- A walk down the lines of a text, one line at a time.
use Rattle.std.proofs.Common.{◌≡◌, ℕ, ◌+◌, ◌<◌, ◌==◌, ◌&&◌, not, Bool, true, false, if◌then◌else◌, List, [], ◌∷◌}
use Rattle.std.proofs.Common.{length, Option, Some, None, refl, sym, ap, ◌∙◌, subst, inl, inr, arith, eqb-true}
use Rattle.std.proofs.lemmas.Bool.{false≢true}
use Rattle.std.specs.Option.{is_none}
use Rattle.exchange_report.proofs.Apart.{first}
use Rattle.proxy_commands.specs.declared.script.Line.{Line}
use Rattle.proxy_commands.specs.Lines.{lines_of, onto_first_line, is_comment, said}
use Rattle.proxy_commands.specs.Reading.{line_of}
use Rattle.trace_core.specs.declared.history.Plan.{Plan}
use Rattle.proxy_commands.specs.Script.{SaysPlan, SaysLines, SaysAll, IsFirstOther, IsBadFrom}
use Rattle.proxy_commands.proofs.LineForms.{line_of-says, says-line_of, says_nothing}
use Rattle.proxy_commands.proofs.Comments.{passed, kept, line_says, plan_says}

-- where a line isn't lacking, there is one
pub some_line : (r : Option Line) → is_none r ≡ false → (line : Line) × (r ≡ Some line)
some_line None e = absurd (cc)
some_line (Some line) e = (line, refl)

-- where it is lacking, there is none
pub no_line : (r : Option Line) → is_none r ≡ true → r ≡ None
no_line None e = refl
no_line (Some line) e = absurd (cc)

-- a text of no bytes is empty
pub empty_is : (xs : List ℕ) → length xs ≡ 0 → xs ≡ []
empty_is [] e = refl
empty_is (x ∷ xs) e = absurd (omega arith)

-- whether a text begins with a comment is told by its first line
pub begins : (b : ℕ) (xs : List ℕ) (line : List ℕ) (lines : List (List ℕ))
    → lines_of (b ∷ xs) ≡ line ∷ lines → is_comment (b ∷ xs) ≡ is_comment line
begins b xs line lines e = by_end (b == 10) refl
  where
    by_end : (t : Bool) → (b == 10) ≡ t → is_comment (b ∷ xs) ≡ is_comment line
    by_end true t =
        let cut : [] ∷ lines_of xs ≡ line ∷ lines = sym (ap (λ c. if c then [] ∷ lines_of xs else onto_first_line b (lines_of xs)) t) ∙ e in
        let is : [] ≡ line = (first [] line (lines_of xs) lines cut).0 in
        let ten : b ≡ 10 = eqb-true b 10 t in
        ap (λ n. is_comment (n ∷ xs)) ten ∙ ap is_comment is
    by_end false t =
        let cut : onto_first_line b (lines_of xs) ≡ line ∷ lines =
        sym (ap (λ c. if c then [] ∷ lines_of xs else onto_first_line b (lines_of xs)) t) ∙ e in
        onto (lines_of xs) cut
      where
        onto : (others : List (List ℕ)) → onto_first_line b others ≡ line ∷ lines → is_comment (b ∷ xs) ≡ is_comment line
        onto [] e = ap is_comment (first (b ∷ []) line [] lines e).0
        onto (other ∷ others) e = ap is_comment (first (b ∷ other) line others lines e).0

-- so a text that begins with a comment has one as its first line, and another text has none
pub first_comment : (text line : List ℕ) (lines : List (List ℕ)) → lines_of text ≡ line ∷ lines → is_comment text ≡ is_comment line
first_comment [] line lines e = absurd (cc)
first_comment (b ∷ xs) line lines e = begins b xs line lines e

-- a comment has a byte
pub some_comment : (text : List ℕ) → is_comment text ≡ true → 0 < length text
some_comment [] e = absurd (false≢true e)
some_comment (b ∷ text) e = omega arith

-- a text that is a first line and what comes after it
module _ (rest text behind : List ℕ) (cut : lines_of rest ≡ text ∷ lines_of behind) where
  -- a first line that is no comment, and that is read as no line of a script, is of another form
  pub other_here : (from : ℕ) → is_comment text ≡ false → line_of text ≡ None → IsFirstOther from (lines_of rest) from
  other_here from plain none =
      subst (λ (texts : List (List ℕ)). IsFirstOther from texts from) (sym cut) (inr (inl (plain, says_nothing text none, refl)))

  -- after a line of a script, the first of another form is that of the lines after it
  other_later : (from n : ℕ) (line : Line)
      → line_of text ≡ Some line → IsFirstOther (from + 1) (lines_of behind) n → IsFirstOther from (lines_of rest) n
  other_later from n line is h =
      subst (λ (texts : List (List ℕ)). IsFirstOther from texts n) (sym cut) (inr (inr (line, says-line_of text line is, h)))

  -- so it is after a comment
  other_passed : (from n : ℕ) → is_comment text ≡ true → IsFirstOther (from + 1) (lines_of behind) n → IsFirstOther from (lines_of rest) n
  other_passed from n comment h = subst (λ (texts : List (List ℕ)). IsFirstOther from texts n) (sym cut) (inl (comment, h))

  -- what is said, where a comment stands first, and where a line does
  pub said_passed : is_comment text ≡ true → said (lines_of rest) ≡ said (lines_of behind)
  said_passed comment = ap said cut ∙ passed text (lines_of behind) comment

  -- a first line that is no comment is said, and then what the others say
  pub said_kept : is_comment text ≡ false → said (lines_of rest) ≡ text ∷ said (lines_of behind)
  said_kept plain = ap said cut ∙ kept text (lines_of behind) plain

  -- a line that is read stands before the lines that the others say
  pub one_more : (line : Line) (lines : List Line)
      → line_of text ≡ Some line → SaysLines (said (lines_of behind)) lines → SaysLines (said (lines_of rest)) (line ∷ lines)
  one_more line lines is h =
      let says = says-line_of text line is in
      subst (λ (texts : List (List ℕ)). SaysLines texts (line ∷ lines)) (sym (said_kept (line_says text line says))) (says, h)

  -- a comment adds no line to those that the others say
  pub none_more : (lines : List Line)
      → is_comment text ≡ true → SaysLines (said (lines_of behind)) lines → SaysLines (said (lines_of rest)) lines
  none_more lines comment h = subst (λ (texts : List (List ℕ)). SaysLines texts lines) (sym (said_passed comment)) h

  -- a line that isn't of another form
  pub good_here : (from : ℕ) → (not (is_comment text) && is_none (line_of text)) ≡ false
      → ((n : ℕ) → IsFirstOther (from + 1) (lines_of behind) n → IsFirstOther from (lines_of rest) n)
      × ((lines : List Line) → SaysLines (said (lines_of behind)) lines → (all : List Line) × SaysLines (said (lines_of rest)) all)
  good_here from e = by_comment (is_comment text) refl
    where
      by_comment : (b : Bool) → is_comment text ≡ b
          → ((n : ℕ) → IsFirstOther (from + 1) (lines_of behind) n → IsFirstOther from (lines_of rest) n)
          × ((lines : List Line) → SaysLines (said (lines_of behind)) lines → (all : List Line) × SaysLines (said (lines_of rest)) all)
      by_comment true c = (λ n h. other_passed from n c h, λ lines h. (lines, none_more lines c h))
      by_comment false c =
          let some = some_line (line_of text) (sym (ap (λ b. not b && is_none (line_of text)) c) ∙ e) in
          (λ n h. other_later from n some.0 some.1 h, λ lines h. (some.0 ∷ lines, one_more some.0 lines some.1 h))

  -- and one that is
  pub bad_here : (from : ℕ) → (not (is_comment text) && is_none (line_of text)) ≡ true → IsFirstOther from (lines_of rest) from
  bad_here from e = by_comment (is_comment text) refl
    where
      by_comment : (b : Bool) → is_comment text ≡ b → IsFirstOther from (lines_of rest) from
      by_comment true c = absurd (false≢true (sym (ap (λ b. not b && is_none (line_of text)) c) ∙ e))
      by_comment false c = other_here from c (no_line (line_of text) (sym (ap (λ b. not b && is_none (line_of text)) c) ∙ e))

  -- where a text and what others say are lines, the text is read as one, and the others say the rest
  first_says : (lines : List Line) → SaysLines (text ∷ said (lines_of behind)) lines
      → (line : Line) × (more : List Line) × (line_of text ≡ Some line) × SaysLines (said (lines_of behind)) more
  first_says [] h = absurd h
  first_says (line ∷ more) h = (line, more, line_of-says text line h.0, h.1)

  -- where a text that begins with no comment says lines, the first is read as one, and the others say the rest
  pub first_line : (lines : List Line) → is_comment text ≡ false → SaysLines (said (lines_of rest)) lines
      → (line : Line) × (more : List Line) × (line_of text ≡ Some line) × SaysLines (said (lines_of behind)) more
  first_line lines plain h = first_says lines (subst (λ (texts : List (List ℕ)). SaysLines texts lines) (said_kept plain) h)

  -- a comment before the plan
  pub bad_passed : (from n : ℕ) → is_comment text ≡ true → IsBadFrom (from + 1) (lines_of behind) n → IsBadFrom from (lines_of rest) n
  bad_passed from n comment h = subst (λ (texts : List (List ℕ)). IsBadFrom from texts n) (sym cut) (inl (comment, h))

  -- no plan where it has to stand
  pub no_plan : (from : ℕ) → is_comment rest ≡ false → ((plan : Plan) → SaysPlan text plan → ⊥) → IsBadFrom from (lines_of rest) from
  no_plan from plain none =
      subst (λ (texts : List (List ℕ)). IsBadFrom from texts from) (sym cut)
      (inr (inl (sym (first_comment rest text (lines_of behind) cut) ∙ plain, none, refl)))

  -- a plan, and then another line that is bad, or good ones
  pub bad_later : (from n : ℕ) (plan : Plan)
      → SaysPlan text plan → IsFirstOther (from + 1) (lines_of behind) n → IsBadFrom from (lines_of rest) n
  bad_later from n plan says h = subst (λ (texts : List (List ℕ)). IsBadFrom from texts n) (sym cut) (inr (inr (plan, says, h)))

  -- a plan, and lines after it, are all that is said
  pub all_good : (plan : Plan) (lines : List Line)
      → SaysPlan text plan → SaysLines (said (lines_of behind)) lines → SaysAll (said (lines_of rest)) plan lines
  all_good plan lines says h =
      subst (λ (texts : List (List ℕ)). SaysAll texts plan lines) (sym (said_kept (plan_says text plan says))) (says, h)

-- where nothing is left, no line is said
pub none_left : (rest : List ℕ) → length rest ≡ 0 → SaysLines (said (lines_of rest)) []
none_left rest e = subst (λ (xs : List ℕ). SaysLines (said (lines_of xs)) []) (sym (empty_is rest e)) tt

-- where nothing is left, the plan is lacking
pub plan_lacks : (from : ℕ) (rest : List ℕ) → length rest ≡ 0 → IsBadFrom from (lines_of rest) from
plan_lacks from rest e = subst (λ (xs : List ℕ). IsBadFrom from (lines_of xs) from) (sym (empty_is rest e)) refl

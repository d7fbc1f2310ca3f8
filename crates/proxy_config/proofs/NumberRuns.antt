-- Keys whose values are whole numbers, read one after the other.
use Rattle.std.proofs.Common.{◌≡◌, ℕ, zero, suc, ◌+◌, ◌<◌, ◌≤◌, List, [], ◌∷◌, length, drop, Option, Some, None, option_map}
use Rattle.std.proofs.Common.{slice_get, slice_index, slice_set, unwrap_or, inl, inr, refl, sym, ap, ◌∙◌, subst, arith}
use Rattle.std.proofs.lemmas.Option.{none-some, slice_get-map, slice_get_within}
use Rattle.std.proofs.lemmas.Bool.Decides.{leb_tells}
use Rattle.std.proofs.lemmas.List.{get_or-set_other, get_or-set_same, length-set}
use Rattle.toml.specs.Data.{Members}
use Rattle.proxy_config.specs.Config.{IsFirstFault}
use Rattle.proxy_config.specs.Keys.{NumberRule, Row}
use Rattle.proxy_config.specs.Keys.Kind.{number as whole}
use Rattle.proxy_config.specs.Numbers.{AreRead, AreSaidFrom, AreWithinFrom, BeginWith, key_rules, rows_of, rule_of}
use Rattle.proxy_config.specs.Turns.{Begins, Reaches, rest}
use Rattle.proxy_config.specs.Values.{IsWithin, number_at}
use Rattle.proxy_config.specs.declared.number_key.NumberKey.{NumberKey}
use Rattle.proxy_config.proofs.Judging.{goes_on, stops}

-- the rule of a key stands at the key's place
pub rule_at : (keys : List NumberKey) (at : ℕ) (key : NumberKey) → slice_get keys at ≡ Some key
    → slice_get (key_rules keys) at ≡ Some (rule_of key)
rule_at keys at key is = slice_get-map rule_of keys at ∙ ap (option_map rule_of) is

-- a number is what the document says by a rule, and lies in its range
abbrev pub IsRead : NumberRule → Members → ℕ → Type 0
IsRead rule document number =
    (number_at rule.name rule.low rule.high rule.default document ≡ Some number) × IsWithin rule.low rule.high number

-- the numbers before this place are read, and the key of the rule there comes next
pub record AreReadTo (rules : List NumberRule) (document : Members) (numbers : List ℕ) (at many : ℕ) : Type 0 where
  pub length_is : length numbers ≡ many
  pub read : (k : ℕ) (rule : NumberRule) → k < at → slice_get rules k ≡ Some rule → IsRead rule document (slice_index numbers k)
  pub are_rows : BeginWith (drop at rules) (drop at (rows_of rules))
  pub reached : Reaches (drop at (rows_of rules)) document

-- of rows that begin with those of the rules from a place on, the first is that of the rule there, and the others begin with the later
-- ones
begin_at : (at : ℕ) (rules : List NumberRule) (rows : List Row) (rule : NumberRule) → slice_get rules at ≡ Some rule
    → BeginWith (drop at rules) rows
    → Begins rows rule.name (whole rule.low rule.high rule.default) × BeginWith (drop (suc at) rules) (rest rows)
begin_at at [] rows rule is begin = absurd (none-some rule is)
begin_at zero (first ∷ rules) [] rule is begin = absurd begin
begin_at zero (first ∷ rules) (row ∷ rows) rule is begin =
    let P : NumberRule → Type 0 = λ it. Begins (row ∷ rows) it.name (whole it.low it.high it.default) in
    (subst P (ap (λ (o : Option NumberRule). unwrap_or o first) is) (begin.0, begin.1), begin.2)
begin_at (suc at) (first ∷ rules) rows rule is begin = begin_at at rules rows rule is begin

-- the rows after the first of those from a place on are those from the next place on
rest_from : (at : ℕ) (rows : List Row) → rest (drop at rows) ≡ drop (suc at) rows
rest_from zero [] = refl
rest_from zero (row ∷ rows) = refl
rest_from (suc at) [] = refl
rest_from (suc at) (row ∷ rows) = rest_from at rows

-- the number that was just set is read
read_here : (rules : List NumberRule) (document : Members) (numbers : List ℕ) (at number : ℕ) (rule : NumberRule)
    → slice_get rules at ≡ Some rule → slice_index numbers at ≡ number → IsRead rule document number
    → (k : ℕ) (other : NumberRule) → k ≡ at → slice_get rules k ≡ Some other → IsRead other document (slice_index numbers k)
read_here rules document numbers at number rule is set new k other same =
    let P : ℕ → Type 0 = λ n. slice_get rules n ≡ Some other → IsRead other document (slice_index numbers n) in
    let K : NumberRule → Type 0 = λ it. IsRead it document (slice_index numbers at) in
    let N : ℕ → Type 0 = λ n. IsRead rule document n in
    subst P (sym same) (λ has. subst K (ap (λ (o : Option NumberRule). unwrap_or o rule) (sym is ∙ has)) (subst N (sym set) new))

-- a number more
pub read_more : (rules : List NumberRule) (document : Members) (numbers : List ℕ) (at many number : ℕ) (rule : NumberRule)
    → AreReadTo rules document numbers at many → slice_get rules at ≡ Some rule → at < many → IsRead rule document number
    → AreReadTo rules document (slice_set numbers at number) (at + 1) many
read_more rules document numbers at many number rule so_far is within new =
    let begin = begin_at at rules (drop at (rows_of rules)) rule is so_far.are_rows in
    let next : suc at ≡ at + 1 = omega arith in
    let Q : List Row → Type 0 = λ rows. BeginWith (drop (suc at) rules) rows in
    let R : List Row → Type 0 = λ rows. Reaches rows document in
    let S : ℕ → Type 0 = λ n. BeginWith (drop n rules) (drop n (rows_of rules)) in
    let T : ℕ → Type 0 = λ n. Reaches (drop n (rows_of rules)) document in
    record {
      length_is = length-set numbers at number ∙ so_far.length_is;
      read = λ k other before has. elim (leb_tells at k) as (λ _. IsRead other document (slice_index (slice_set numbers at number) k)) [
        | inl past ↦ let least = past.1 in
            read_here rules document (slice_set numbers at number) at number rule is
            (get_or-set_same numbers at number 0 (let many_are = so_far.length_is in omega (arith, many_are, within))) new k other
            (omega (arith, before, least)) has
        | inr sooner ↦ let less = sooner.1 in
            let E : ℕ → Type 0 = λ n. IsRead other document n in
            subst E (sym (get_or-set_other numbers at k number 0 (λ same. omega (arith, same, less)))) (so_far.read k other less has)
      ];
      are_rows = subst S next (subst Q (rest_from at (rows_of rules)) begin.1);
      reached = subst T next (subst R (rest_from at (rows_of rules))
          (goes_on (drop at (rows_of rules)) rule.name (whole rule.low rule.high rule.default) document begin.0 so_far.reached
          (number, new.0)));
    }

-- the key at fault is the document's first
pub first_of_run : (rules : List NumberRule) (document : Members) (numbers : List ℕ) (at many : ℕ) (rule : NumberRule)
    → AreReadTo rules document numbers at many → slice_get rules at ≡ Some rule
    → number_at rule.name rule.low rule.high rule.default document ≡ None → IsFirstFault document rule.name
first_of_run rules document numbers at many rule so_far is none =
    let begin = begin_at at rules (drop at (rows_of rules)) rule is so_far.are_rows in
    stops (drop at (rows_of rules)) rule.name (whole rule.low rule.high rule.default) document begin.0 so_far.reached rule.name
    (λ good. none-some good.0 (sym none ∙ good.1), refl)

-- a number that lies in its range, before others
within_then : (rule : NumberRule) (rules : List NumberRule) (numbers : List ℕ) (at : ℕ)
    → IsWithin rule.low rule.high (slice_index numbers at) → AreWithinFrom (at + 1) rules numbers → AreWithinFrom at (rule ∷ rules) numbers
within_then rule [] numbers at here later = here
within_then rule (next ∷ rules) numbers at here later = (here, later)

-- what is read by each rule is said from a place on
pub said_from : (rules : List NumberRule) (document : Members) (numbers : List ℕ) (at : ℕ)
    → ((k : ℕ) (rule : NumberRule) → slice_get rules k ≡ Some rule → IsRead rule document (slice_index numbers (at + k)))
    → AreSaidFrom at rules document numbers × AreWithinFrom at rules numbers
said_from [] document numbers at read = (tt, tt)
said_from (rule ∷ rules) document numbers at read =
    let P : ℕ → Type 0 = λ k. IsRead rule document (slice_index numbers k) in
    let here : IsRead rule document (slice_index numbers at) = subst P (omega arith) (read 0 rule refl) in
    let later = said_from rules document numbers (at + 1) (λ k other is.
    let Q : ℕ → Type 0 = λ n. IsRead other document (slice_index numbers n) in
    subst Q (omega arith) (read (suc k) other is)) in
    ((here.0, later.0), within_then rule rules numbers at here.1 later.1)

-- once all are read, all are said
pub said_of_all : (rules : List NumberRule) (document : Members) (numbers : List ℕ) (at many : ℕ) → length rules ≡ many → many ≤ at
    → AreReadTo rules document numbers at many → AreRead rules document numbers
said_of_all rules document numbers at many length_is all so_far =
    let each = said_from rules document numbers 0 (λ k rule is.
    let inside = slice_get_within rules k rule is in
    let P : ℕ → Type 0 = λ n. IsRead rule document (slice_index numbers n) in
    let from_none : k ≡ 0 + k = omega arith in
    subst P from_none (so_far.read k rule (omega (arith, inside, length_is, all)) is)) in
    record { said = each.0; within = each.1 }

-- A set of lowered names says which names were seen.
use Rattle.std.proofs.Common.{◌≡◌, ℕ, ◌||◌, List, Bool, true, false, cond, not, String, Global, BTreeSet, string_cmp, string_bytes, refl}
use Rattle.std.proofs.Common.{ap, ◌∙◌, subst}
use Rattle.std.proofs.lemmas.Map.Text.{btree_set_updates_text}
use Rattle.std.specs.BTreeSet.{contains, contains_text, Updates}
use Rattle.std.specs.Str.{str_eq_ignore_ascii_case, str_to_ascii_lowercase, bytes_eq}
use Rattle.proxy_config.specs.HostNames.{is_seen, Marks}

-- a name is new just where the set doesn't have its lowered text
pub is_new_name : (seen : BTreeSet (String Global)) (lower : String Global) (name : List ℕ) (new : Bool)
    → string_bytes lower ≡ str_to_ascii_lowercase name
    → new ≡ not (contains string_cmp seen lower) → new ≡ not (is_seen seen name)
is_new_name seen lower name new lowered is = is ∙ ap (λ text. not (contains_text seen text)) lowered

-- true where one truth value is true, and else the other one, is the disjunction of the two
cond_or : (a b : Bool) → cond a true b ≡ (a || b)
cond_or true b = refl
cond_or false b = refl

-- a set that gets the lowered text of a name has the name marked
pub marks_name : (seen after : BTreeSet (String Global)) (lower : String Global) (name : List ℕ)
    → string_bytes lower ≡ str_to_ascii_lowercase name
    → Updates string_cmp seen after lower true → Marks name seen after
marks_name seen after lower name lowered updates = λ other.
    let text = str_to_ascii_lowercase other in
    let P : List ℕ → Type 0 = λ t. contains_text after text ≡ cond (bytes_eq t text) true (contains_text seen text) in
    subst P lowered (btree_set_updates_text (string_bytes lower) seen after true updates text)
    ∙ cond_or (str_eq_ignore_ascii_case name other) (contains_text seen text)

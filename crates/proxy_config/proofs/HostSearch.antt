-- A name is looked for only among the hosts that have its number.
use Rattle.std.proofs.Common.{◌≡◌, ◌≢◌, ◌<◌, ◌≤◌, ℕ, zero, suc, length, List, [], ◌∷◌, Bool, true, false, Some, None, drop, get_or}
use Rattle.std.proofs.Common.{if◌then◌else◌, string_bytes, refl, sym, ap, subst, ◌+◌, ◌∙◌, arith}
use Rattle.std.proofs.lemmas.List.{drop_more}
use Rattle.std.proofs.lemmas.List.Sorted.{IsNonDecreasingBy-drop}
use Rattle.std.proofs.lemmas.Slice.Eq.{bytes_eq-Decides}
use Rattle.std.specs.List.Sorted.{IsNonDecreasingBy}
use Rattle.std.specs.Str.{str_eq_ignore_ascii_case, str_to_ascii_lowercase}
use Rattle.proxy_config.specs.declared.host.Host.{Host}
use Rattle.proxy_config.specs.Hosts.{address_of_name}
use Rattle.proxy_config.specs.Names.{number_from, number_of_name}

-- names that differ in ASCII case alone have one number
pub same_number : (a b : List ℕ) → str_eq_ignore_ascii_case a b ≡ true → number_of_name a ≡ number_of_name b
same_number a b same = ap (number_from 0) ((bytes_eq-Decides (str_to_ascii_lowercase a) (str_to_ascii_lowercase b)).0 same)

-- what can't be true is false
false_unless : (b : Bool) → (b ≡ true → ⊥) → b ≡ false
false_unless true not_true = absurd (not_true refl)
false_unless false not_true = refl

-- a host with another number is passed over
pub passes : (name : List ℕ) (host : Host) (hosts : List Host) → host.number ≢ number_of_name name
    → address_of_name name (host ∷ hosts) ≡ address_of_name name hosts
passes name host hosts other =
    let differs : str_eq_ignore_ascii_case (string_bytes host.name) name ≡ false
    = false_unless _ (λ same. other (host.numbered ∙ same_number (string_bytes host.name) name same)) in
    ap (λ same. if same then Some host.address else address_of_name name hosts) differs

-- a lower number is another one
below : (a b : ℕ) → a < b → a ≢ b
below a b less = omega arith

-- a higher number is another one
above : (a b : ℕ) → b < a → a ≢ b
above a b more = omega arith

-- so are all before one of which each has a lower number
pub passes_lower : (name : List ℕ) (hosts : List Host) (first : ℕ)
    → ((k : ℕ) (d : Host) → k < first → (get_or hosts k d).number < number_of_name name)
    → first ≤ length hosts → address_of_name name hosts ≡ address_of_name name (drop first hosts)
passes_lower name hosts zero lower few = refl
passes_lower name [] (suc first) lower few = absurd (omega arith)
passes_lower name (host ∷ hosts) (suc first) lower few =
    passes name host hosts (below host.number (number_of_name name) (lower 0 host (omega arith)))
    ∙ passes_lower name hosts first (λ k d before. lower (suc k) d (omega arith)) (omega arith)

-- where each host has a higher number than a name, the name has no address
none_above : (name : List ℕ) (hosts : List Host)
    → ((k : ℕ) (d : Host) → k < length hosts → number_of_name name < (get_or hosts k d).number)
    → address_of_name name hosts ≡ None
none_above name [] higher = refl
none_above name (host ∷ hosts) higher =
    passes name host hosts (above host.number (number_of_name name) (higher 0 host (omega arith)))
    ∙ none_above name hosts (λ k d inside. higher (suc k) d (omega arith))

-- a number below one is below all that are no lower than that
less_le : (a b c : ℕ) → a < b → b ≤ c → a < c
less_le a b c less le = omega arith

-- from a host with a higher number on none has the name
pub none_from : (name : List ℕ) (host : Host) (hosts : List Host)
    → IsNonDecreasingBy (λ (h : Host). h.number) (host ∷ hosts) → number_of_name name < host.number
    → address_of_name name (host ∷ hosts) ≡ None
none_from name host hosts rising higher =
    none_above name (host ∷ hosts)
    (λ k d inside. less_le (number_of_name name) host.number (get_or (host ∷ hosts) k d).number higher (rising 0 k d (omega arith) inside))

-- of hosts in the order of their numbers, those from one with a higher number than a name on don't have the name
pub none_at : (name : List ℕ) (hosts : List Host) (i : ℕ) (host : Host) → i < length hosts → host ≡ get_or hosts i host
    → IsNonDecreasingBy (λ (h : Host). h.number) hosts → number_of_name name < host.number
    → address_of_name name (drop i hosts) ≡ None
none_at name hosts i host inside is rising higher =
    let split : drop i hosts ≡ host ∷ drop (i + 1) hosts
    = drop_more hosts i host inside ∙ ap (λ h. h ∷ drop (i + 1) hosts) (sym is) in
    let after : IsNonDecreasingBy (λ (h : Host). h.number) (host ∷ drop (i + 1) hosts)
    = subst (λ hs. IsNonDecreasingBy (λ (h : Host). h.number) hs) split (IsNonDecreasingBy-drop (λ (h : Host). h.number) i hosts rising) in
    ap (address_of_name name) split ∙ none_from name host (drop (i + 1) hosts) after higher

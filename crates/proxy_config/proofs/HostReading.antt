-- Reading the host names one after the other.
use Rattle.std.proofs.Common.{◌≡◌, ℕ, ◌⊎◌, ◌||◌, List, [], ◌∷◌, ◌++◌, Bool, true, false, Some, IsTrue, All, Contains, String, Global}
use Rattle.std.proofs.Common.{BTreeSet, string_cmp, string_bytes, codes, refl, sym, ap, ◌∙◌, subst, inl, inr, rules}
use Rattle.std.proofs.lemmas.Bool.{false≢true}
use Rattle.std.proofs.lemmas.List.Elements.{All-nil, All-head, All-tail, All-push, Contains-push, Contains-append_left}
use Rattle.std.proofs.lemmas.Slice.Eq.{bytes_eq-Decides}
use Rattle.std.specs.BTreeMap.{is_at}
use Rattle.std.specs.BTreeSet.{contains_text}
use Rattle.std.specs.List.Sorted.{IsStrictlySortedBy}
use Rattle.std.specs.Map.{keys_of, lookup}
use Rattle.std.specs.Str.{str_eq_ignore_ascii_case, str_to_ascii_lowercase}
use Rattle.std.specs.declared.net.socket_addr.SocketAddrV4.{SocketAddrV4}
use Rattle.toml.proofs.Views.{Entry}
use Rattle.toml.specs.Data.{Data, Members, get_member}
use Rattle.toml.specs.View.{view, members_view}
use Rattle.proxy_config.specs.declared.host.Host.{Host}
use Rattle.proxy_config.specs.declared.fault.ConfigFault.{ConfigFault}
use Rattle.proxy_config.specs.declared.fault.ConfigFault.TheVariants.{Text, Key, NoMemory}
use Rattle.proxy_config.specs.Fault.{Names, IsFaultAt}
use Rattle.proxy_config.specs.HostNames.{is_seen, Marks, HasEach, HasNoAddress, IsBadName, IsInHosts, IsRepeated}
use Rattle.proxy_config.specs.Order.{HasKey, IsFirst, comes_before, nested}
use Rattle.proxy_config.specs.Values.{IsAddress, HasAddress}
use Rattle.proxy_config.proofs.Entries.{HasText, has_text, held, ahead, ascending_rest}
use Rattle.proxy_config.proofs.TextOrder.{not_before_itself, not_both}

-- the name is good and marked, and has a host
pub record IsDone (names : Members) (seen : BTreeSet (String Global)) (hosts : List Host) (name : List ℕ) : Type 0 where
  pub good : IsBadName names name → ⊥
  pub marked : IsTrue (is_seen seen name)
  pub has_host : (host : Host) × Contains hosts host × (string_bytes host.name ≡ name)

-- a name that was seen is one of those before the rest, but for case
abbrev pub SeenBefore : Members → List Entry → List ℕ → Type 0
SeenBefore names rest name = (other : List ℕ) × HasKey names other × IsTrue (str_eq_ignore_ascii_case other name)
    × ((later : List ℕ) → HasText (keys_of rest) later → IsTrue (comes_before other later))

-- the names before the rest were read
pub record IsReading (names : Members) (seen : BTreeSet (String Global)) (hosts : List Host) (rest : List Entry) : Type 0 where
  pub ascending : IsStrictlySortedBy string_cmp (keys_of rest)
  pub held : All (λ (e : Entry). get_member (string_bytes e.0) names ≡ Some (view e.1)) rest
  pub done : (name : List ℕ) → HasKey names name → IsDone names seen hosts name ⊎ HasText (keys_of rest) name
  pub seen_before : (name : List ℕ) → IsTrue (is_seen seen name) → SeenBefore names rest name
  pub only : All (λ (host : Host). HasAddress (string_bytes host.name) names host.address) hosts

-- where the set is empty no name was seen
none_seen : (seen : BTreeSet (String Global)) → seen.keys ≡ [] → (name : List ℕ) → IsTrue (is_seen seen name) → ⊥
none_seen seen empty name marked = false≢true (rw empty at marked)

-- before any name was read, all are still to come, and there are no hosts
pub starts : (es : List Entry) (seen : BTreeSet (String Global)) → seen.keys ≡ [] → IsStrictlySortedBy string_cmp (keys_of es)
    → All (λ (e : Entry). lookup (is_at (string_cmp e.0)) es ≡ Some e.1) es → IsReading (members_view es) seen [] es
starts es seen empty ascending found = record {
  ascending = ascending;
  held = held es found;
  done = λ name has. inr (has_text name es has);
  seen_before = λ name marked. absurd (none_seen seen empty name marked);
  only = All-nil (λ (host : Host). HasAddress (string_bytes host.name) (members_view es) host.address);
}

-- names that are the same but for case are one in lower case
same_case : (a b : List ℕ) → IsTrue (str_eq_ignore_ascii_case a b) → str_to_ascii_lowercase a ≡ str_to_ascii_lowercase b
same_case a b = (bytes_eq-Decides (str_to_ascii_lowercase a) (str_to_ascii_lowercase b)).0

-- a name is the same as itself but for case
case_of_itself : (a : List ℕ) → IsTrue (str_eq_ignore_ascii_case a a)
case_of_itself a = (bytes_eq-Decides (str_to_ascii_lowercase a) (str_to_ascii_lowercase a)).1 refl

-- of two names that are the same but for case both were seen, or neither was
seen_alike : (seen : BTreeSet (String Global)) (a b : List ℕ) → IsTrue (str_eq_ignore_ascii_case a b) → is_seen seen a ≡ is_seen seen b
seen_alike seen a b same = ap (contains_text seen) (same_case a b same)

-- where the first is true, one of two is
or_left : (a b : Bool) → a ≡ true → (a || b) ≡ true
or_left true b h = refl
or_left false b h = absurd (false≢true h)

-- where the second is true, one of two is
or_right : (a b : Bool) → b ≡ true → (a || b) ≡ true
or_right true b h = refl
or_right false b h = h

-- where one of two is true, the first or the second is
or_cases : (a b : Bool) → (a || b) ≡ true → (a ≡ true) ⊎ (b ≡ true)
or_cases true b h = inl refl
or_cases false b h = inr h

-- an address of a key is that of the value that the key has
value_of : (key : List ℕ) (names : Members) (value : Data) → get_member key names ≡ Some value → (address : SocketAddrV4)
    → HasAddress key names address → IsAddress value address
value_of key names value at address has =
    let same : has.0 ≡ value = search (rules, has.1, at) in
    let P : Data → Type 0 = λ d. IsAddress d address in
    subst P same has.2

-- a table has each key that it has a value for
has_key : (key : List ℕ) (names : Members) (value : Data) → get_member key names ≡ Some value → HasKey names key
has_key key names value at = search (rules, at)

-- the first of the entries that are still to come is in the table
at_head : (names : Members) (seen : BTreeSet (String Global)) (hosts : List Host) (e : Entry) (more : List Entry)
    → IsReading names seen hosts (e ∷ more)
    → get_member (string_bytes e.0) names ≡ Some (view e.1)
at_head names seen hosts e more reading = All-head (λ (d : Entry). get_member (string_bytes d.0) names ≡ Some (view d.1)) e more
    reading.held

-- no name of the rest, and none that was read, is before the first of the rest and bad
pub first_bad : (names : Members) (seen : BTreeSet (String Global)) (hosts : List Host) (e : Entry) (more : List Entry)
    → IsReading names seen hosts (e ∷ more)
    → IsTrue (is_seen seen (string_bytes e.0)) ⊎ ((address : SocketAddrV4) → IsAddress (view e.1) address → ⊥)
    → IsFirst (IsBadName names) (string_bytes e.0)
first_bad names seen hosts e more reading bad =
    let at = at_head names seen hosts e more reading in
    let none_bad : (other : List ℕ) → IsBadName names other → IsTrue (comes_before other (string_bytes e.0)) → ⊥
    = λ other bad_other sooner. elim (reading.done other bad_other.0) as (λ _. ⊥) [
      | inl done ↦ done.good bad_other
      | inr (inl same) ↦ not_before_itself (string_bytes e.0) (rw same at sooner)
      | inr (inr later) ↦ not_both other (string_bytes e.0) sooner (ahead e.0 (keys_of more) reading.ascending other later)
    ] in
    let why : IsRepeated names (string_bytes e.0) ⊎ HasNoAddress names (string_bytes e.0)
    = elim bad as (λ _. IsRepeated names (string_bytes e.0) ⊎ HasNoAddress names (string_bytes e.0)) [
      | inl marked ↦ (let b = reading.seen_before (string_bytes e.0) marked in inl (b.0, b.1, b.3 (string_bytes e.0) (inl refl), b.2))
      | inr none ↦ inr (λ address has. none address (value_of (string_bytes e.0) names (view e.1) at address has))
    ] in
    record { has = (has_key (string_bytes e.0) names (view e.1) at, why); none_before = none_bad }

-- a new name with an address is read
pub continues : (names : Members) (seen after : BTreeSet (String Global)) (hosts : List Host) (host : Host) (e : Entry) (more : List Entry)
    → IsReading names seen hosts (e ∷ more)
    → is_seen seen (string_bytes e.0) ≡ false → Marks (string_bytes e.0) seen after
    → string_bytes host.name ≡ string_bytes e.0 → IsAddress (view e.1) host.address → IsReading names after (hosts ++ host ∷ []) more
continues names seen after hosts host e more reading new marks named address =
    let at = at_head names seen hosts e more reading in
    let Q : List ℕ → Type 0 = λ text. HasAddress text names host.address in
    let has : HasAddress (string_bytes e.0) names host.address = (view e.1, at, address) in
    let good : IsBadName names (string_bytes e.0) → ⊥ = λ bad. elim bad.1 as (λ _. ⊥) [
      | inl repeated ↦ elim (reading.done repeated.0 repeated.1) as (λ _. ⊥) [
        | inl done ↦ false≢true (sym new ∙ sym (seen_alike seen repeated.0 (string_bytes e.0) repeated.3) ∙ done.marked)
        | inr (inl same) ↦ not_before_itself (string_bytes e.0) (rw same at repeated.2)
        | inr (inr later) ↦ not_both repeated.0 (string_bytes e.0) repeated.2 (ahead e.0 (keys_of more) reading.ascending repeated.0 later)
      ]
      | inr none ↦ none host.address has
    ] in
    let now : IsDone names after (hosts ++ host ∷ []) (string_bytes e.0) = record {
      good = good;
      marked = marks (string_bytes e.0) ∙ or_left _ _ (case_of_itself (string_bytes e.0));
      has_host = (host, Contains-push hosts host, named);
    } in
    let still : (other : List ℕ) → IsDone names seen hosts other → IsDone names after (hosts ++ host ∷ []) other = λ other done. record {
      good = done.good;
      marked = marks other ∙ or_right _ _ done.marked;
      has_host = (done.has_host.0, Contains-append_left hosts (host ∷ []) done.has_host.0 done.has_host.1, done.has_host.2);
    } in
    let D : List ℕ → Type 0 = λ text. IsDone names after (hosts ++ host ∷ []) text in
    record {
      ascending = ascending_rest e.0 (keys_of more) reading.ascending;
      held = All-tail (λ (d : Entry). get_member (string_bytes d.0) names ≡ Some (view d.1)) e more reading.held;
      done = λ other has_other. elim (reading.done other has_other) as (λ _. IsDone names after (hosts ++ host ∷ []) other
          ⊎ HasText (keys_of more) other) [
            | inl done ↦ inl (still other done)
            | inr (inl same) ↦ inl (subst D (sym same) now)
            | inr (inr later) ↦ inr later
          ];
      seen_before = λ other marked. elim (or_cases (str_eq_ignore_ascii_case (string_bytes e.0) other) (is_seen seen other)
          (sym (marks other) ∙ marked)) as (λ _. SeenBefore names more other) [
            | inl same ↦ (
              string_bytes e.0,
              has_key (string_bytes e.0) names (view e.1) at,
              same,
              λ later has_later. ahead e.0 (keys_of more) reading.ascending later has_later,
            )
            | inr before ↦ (let b = reading.seen_before other before in (b.0, b.1, b.2, λ later has_later. b.3 later (inr has_later)))
          ];
      only = All-push (λ (h : Host). HasAddress (string_bytes h.name) names h.address) hosts host reading.only (subst Q (sym named) has);
    }

-- where no name is left, each was read
pub finishes : (names : Members) (seen : BTreeSet (String Global)) (hosts : List Host) → IsReading names seen hosts [] → HasEach names hosts
finishes names seen hosts reading = record {
  none_bad = λ name bad. elim (reading.done name bad.0) as (λ _. ⊥) [ inl done ↦ done.good bad | inr none ↦ none ];
  each = λ name has. elim (reading.done name has) as (λ _. (host : Host) × Contains hosts host × (string_bytes host.name ≡ name))
      [ inl done ↦ done.has_host | inr none ↦ absurd none ];
  only = reading.only;
}

-- the same by the text that stands for the name
pub continues_at : (names : Members) (seen after : BTreeSet (String Global)) (hosts : List Host) (host : Host) (e : Entry)
    (more : List Entry) (text : List ℕ) → IsReading names seen hosts (e ∷ more)
    → text ≡ string_bytes e.0 → is_seen seen text ≡ false → Marks text seen after → string_bytes host.name ≡ text
    → IsAddress (view e.1) host.address
    → IsReading names after (hosts ++ host ∷ []) more
continues_at names seen after hosts host e more text reading is new marks named address =
    let F : List ℕ → Type 0 = λ t. (is_seen seen t ≡ false) × (Marks t seen after × (string_bytes host.name ≡ t)) in
    let (new_name, (marks_name, named_so)) = subst F is (new, (marks, named)) in
    continues names seen after hosts host e more reading new_name marks_name named_so address

-- the fault of the first of the rest names it
pub bad_name : (names : Members) (seen : BTreeSet (String Global)) (hosts : List Host) (e : Entry) (more : List Entry) (text : List ℕ)
    → IsReading names seen hosts (e ∷ more)
    → text ≡ string_bytes e.0 → (fault : ConfigFault) → IsFaultAt (nested (codes "hosts") text) fault
    → Names (λ _. IsTrue (is_seen seen text) ⊎ ((address : SocketAddrV4) → IsAddress (view e.1) address → ⊥)) fault
    → Names (IsInHosts names) fault
bad_name names seen hosts e more text reading is Text named bad = absurd named
bad_name names seen hosts e more text reading is (Key key) named bad =
    let F : List ℕ → Type 0 = λ t. (string_bytes key ≡ nested (codes "hosts") t)
    × (IsTrue (is_seen seen t) ⊎ ((address : SocketAddrV4) → IsAddress (view e.1) address → ⊥)) in
    let (named_so, bad_so) = subst F is (named, bad) in
    (string_bytes e.0, first_bad names seen hosts e more reading bad_so, named_so)
bad_name names seen hosts e more text reading is NoMemory named bad = tt

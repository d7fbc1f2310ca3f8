-- A name is found in the table of hosts exactly where the document has it.
use Rattle.std.proofs.Common.{◌≡◌, ℕ, List, [], ◌∷◌, Bool, true, false, if◌then◌else◌, Option, Some, None, IsTrue, All, Contains}
use Rattle.std.proofs.Common.{IsPermutation, string_bytes, refl, sym, ap, ◌∙◌, subst, inl, rules}
use Rattle.std.proofs.lemmas.Bool.{false≢true}
use Rattle.std.proofs.lemmas.List.Elements.{All-nil, All-cons, All-contains, Contains-push, Contains-append_left, Contains-append_right}
use Rattle.std.proofs.lemmas.List.Sorted.{Contains-permutation, IsPermutation-sym}
use Rattle.std.proofs.lemmas.Slice.Eq.{bytes_eq-Decides}
use Rattle.std.specs.Str.{str_eq_ignore_ascii_case, str_to_ascii_lowercase}
use Rattle.std.specs.declared.net.socket_addr.SocketAddrV4.{SocketAddrV4}
use Rattle.toml.specs.Data.{Members}
use Rattle.proxy_config.specs.declared.host.Host.{Host}
use Rattle.proxy_config.specs.declared.host_table.Hosts.{Hosts}
use Rattle.proxy_config.specs.Hosts.{address_of_name}
use Rattle.proxy_config.specs.HostNames.{host_names, HasEach, IsHostAt, IsHostsOf, IsBadName}
use Rattle.proxy_config.specs.Order.{HasKey}
use Rattle.proxy_config.specs.Values.{HasAddress}
use Rattle.proxy_config.proofs.Addresses.{one_address}
use Rattle.proxy_config.proofs.TextOrder.{neither_before}

-- a host of the list that has the name, and its address
abbrev pub HasNamed : List Host → List ℕ → SocketAddrV4 → Type 0
HasNamed hosts name address = (host : Host) × Contains hosts host × IsTrue (str_eq_ignore_ascii_case (string_bytes host.name) name)
    × (host.address ≡ address)

-- where a name is found with one host more, that host or one of the others has it and its address
named_here : (same : Bool) (host : Host) (hosts : List Host) (name : List ℕ) (address : SocketAddrV4)
    → str_eq_ignore_ascii_case (string_bytes host.name) name ≡ same
    → (if same then Some host.address else address_of_name name hosts) ≡ Some address
    → (address_of_name name hosts ≡ Some address → HasNamed hosts name address) → HasNamed (host ∷ hosts) name address
named_here true host hosts name address same is later =
    (host, Contains-append_left (host ∷ []) hosts host (Contains-push [] host), same, search (rules, is))
named_here false host hosts name address same is later =
    let (found, contains, same_name, at) = later is in (found, Contains-append_right (host ∷ []) hosts found contains, same_name, at)

-- where a name is found, a host of the list has it and its address
pub named : (name : List ℕ) (hosts : List Host) (address : SocketAddrV4) → address_of_name name hosts ≡ Some address
    → HasNamed hosts name address
named name [] address is = absurd (search (rules, is))
named name (host ∷ hosts) address is =
    named_here (str_eq_ignore_ascii_case (string_bytes host.name) name) host hosts name address refl is (named name hosts address)

-- where a name isn't found with one host more, neither that host nor another has it
other_here : (same : Bool) (host : Host) (hosts : List Host) (name : List ℕ) → str_eq_ignore_ascii_case (string_bytes host.name) name ≡ same
    → (if same then Some host.address else address_of_name name hosts) ≡ None
    → (address_of_name name hosts ≡ None → All (λ (h : Host). str_eq_ignore_ascii_case (string_bytes h.name) name ≡ false) hosts)
    → All (λ (h : Host). str_eq_ignore_ascii_case (string_bytes h.name) name ≡ false) (host ∷ hosts)
other_here true host hosts name same is later = absurd (search (rules, is))
other_here false host hosts name same is later = All-cons (λ (h : Host). str_eq_ignore_ascii_case (string_bytes h.name) name ≡ false) host
    hosts same (later is)

-- where a name isn't found, each host has another one
pub others : (name : List ℕ) (hosts : List Host) → address_of_name name hosts ≡ None
    → All (λ (h : Host). str_eq_ignore_ascii_case (string_bytes h.name) name ≡ false) hosts
others name [] is = All-nil (λ (h : Host). str_eq_ignore_ascii_case (string_bytes h.name) name ≡ false)
others name (host ∷ hosts) is =
    other_here (str_eq_ignore_ascii_case (string_bytes host.name) name) host hosts name refl is (others name hosts)

-- a table has each key that has an address
some_key : (name : List ℕ) (names : Members) (address : SocketAddrV4) → HasAddress name names address → HasKey names name
some_key name names address has = search (rules, has.1)

-- names of the table that differ in case alone are one name
one_name : (names : Members) (a b : List ℕ) → ((name : List ℕ) → IsBadName names name → ⊥) → HasKey names a → HasKey names b
    → IsTrue (str_eq_ignore_ascii_case a b) → IsTrue (str_eq_ignore_ascii_case b a) → a ≡ b
one_name names a b none_bad has_a has_b same back = neither_before a b
    (λ sooner. none_bad b (has_b, inl (a, has_a, sooner, same)))
    (λ sooner. none_bad a (has_a, inl (b, has_b, sooner, back)))

-- names that are the same but for case are the same in lower case
lower_same : (a b : List ℕ) → IsTrue (str_eq_ignore_ascii_case a b) → str_to_ascii_lowercase a ≡ str_to_ascii_lowercase b
lower_same a b = (bytes_eq-Decides (str_to_ascii_lowercase a) (str_to_ascii_lowercase b)).0

-- names that are the same in lower case are the same but for case
same_lower : (a b : List ℕ) → str_to_ascii_lowercase a ≡ str_to_ascii_lowercase b → IsTrue (str_eq_ignore_ascii_case a b)
same_lower a b = (bytes_eq-Decides (str_to_ascii_lowercase a) (str_to_ascii_lowercase b)).1

-- two names that are a third one but for case
alike : (a b c : List ℕ) → IsTrue (str_eq_ignore_ascii_case a c) → IsTrue (str_eq_ignore_ascii_case b c)
    → IsTrue (str_eq_ignore_ascii_case a b)
alike a b c h k = same_lower a b (lower_same a c h ∙ sym (lower_same b c k))

-- where hosts are at their addresses in the table, a name that one of them has is at its address there
host_at_name : (names : Members) (hosts : List Host) (name : List ℕ) (address : SocketAddrV4)
    → All (λ (h : Host). HasAddress (string_bytes h.name) names h.address) hosts
    → HasNamed hosts name address → IsHostAt names name address
host_at_name names hosts name address only (host, contains, same, at) =
    let P : SocketAddrV4 → Type 0 = λ a. HasAddress (string_bytes host.name) names a in (
      string_bytes host.name,
      same,
      subst P at (All-contains (λ (h : Host). HasAddress (string_bytes h.name) names h.address) hosts host only
          contains),
    )

-- where the document has a name at an address, the hosts in any order find it there
found_is : (names : Members) (all hosts : List Host) (name : List ℕ) (address : SocketAddrV4) (found : Option SocketAddrV4)
    → HasEach names all → IsPermutation hosts all → IsPermutation all hosts
    → address_of_name name hosts ≡ found → IsHostAt names name address → found ≡ Some address
found_is names all hosts name address None each back forth is (written, same, has) =
    let (host, contains, named_so) = each.each written (some_key written names address has) in
    let P : List ℕ → Type 0 = λ text. IsTrue (str_eq_ignore_ascii_case text name) in
    let other = All-contains (λ (h : Host). str_eq_ignore_ascii_case (string_bytes h.name) name ≡ false) hosts host (others name hosts is)
    (Contains-permutation all hosts host forth contains) in
    absurd (false≢true (sym other ∙ subst P (sym named_so) same))
found_is names all hosts name address (Some found) each back forth is (written, same, has) =
    let (host, contains, host_same, at) = named name hosts found is in
    let P : SocketAddrV4 → Type 0 = λ a. HasAddress (string_bytes host.name) names a in
    let found_at : HasAddress (string_bytes host.name) names found
    = subst P at (All-contains (λ (h : Host). HasAddress (string_bytes h.name) names h.address) all host each.only
    (Contains-permutation hosts all host back contains)) in
    let one : string_bytes host.name ≡ written
    = one_name names (string_bytes host.name) written each.none_bad
    (some_key (string_bytes host.name) names found found_at)
    (some_key written names address has)
    (alike (string_bytes host.name) written name host_same same)
    (alike written (string_bytes host.name) name same host_same) in
    let Q : List ℕ → Type 0 = λ text. HasAddress text names found in
    ap Some (one_address written names found address (subst Q one found_at) has)

-- the table of these hosts, in whatever order, is that of the document
pub tables : (document names : Members) (all : List Host) (hosts : Hosts) → host_names document ≡ Some names → HasEach names all
    → IsPermutation all hosts.all.entries.items → hosts.file.entries.items ≡ []
    → IsHostsOf document hosts
tables document names all hosts are_names each forth no_file =
    let back = IsPermutation-sym all hosts.all.entries.items forth in
    record {
      names = names;
      are_names = are_names;
      none_bad = each.none_bad;
      found = λ name address. (
        λ is.
            let (host, contains, same, at) = named name hosts.all.entries.items address is in
            host_at_name names all name address each.only (
              host,
              Contains-permutation hosts.all.entries.items all host back contains,
              same,
              at,
            ),
        λ has. found_is names all hosts.all.entries.items name address (address_of_name name hosts.all.entries.items) each back forth refl
            has,
      );
      no_file = no_file;
    }

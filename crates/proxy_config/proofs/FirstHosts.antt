-- A name is found at the first host that has it, also after a stable sort by the names' numbers.
use Rattle.std.proofs.Common.{◌≡◌, ◌≢◌, ℕ, List, [], ◌∷◌, Bool, true, false, if◌then◌else◌, Option, Some, None, IsTrue, All, IsPermutation}
use Rattle.std.proofs.Common.{string_bytes, refl, sym, ap, ◌∙◌, rules}
use Rattle.std.proofs.lemmas.Bool.{false≢true}
use Rattle.std.proofs.lemmas.List.Elements.{All-head, All-tail}
use Rattle.std.proofs.lemmas.List.Sorted.{All-permutation}
use Rattle.std.specs.List.{filter}
use Rattle.std.specs.List.Sorted.{ties, IsStableByKey}
use Rattle.std.specs.Ordering.{is_lt, nat_cmp}
use Rattle.std.specs.Str.{str_eq_ignore_ascii_case}
use Rattle.std.specs.declared.net.socket_addr.SocketAddrV4.{SocketAddrV4}
use Rattle.proxy_config.specs.declared.host.Host.{Host}
use Rattle.proxy_config.specs.Hosts.{address_of_name}
use Rattle.proxy_config.specs.Names.{number_of_name}
use Rattle.proxy_config.proofs.HostSearch.{passes, same_number}
use Rattle.proxy_config.proofs.HostTable.{named, others}

abbrev below : Host → Host → Bool
below a b = is_lt (nat_cmp a.number b.number)

-- a list without some hosts of other numbers
without_here : (passed : Bool) (p : Host → Bool) (name : List ℕ) (host : Host) (hosts : List Host) → p host ≡ passed
    → ((h : Host) → p h ≡ false → h.number ≢ number_of_name name)
    → address_of_name name (filter p hosts) ≡ address_of_name name hosts
    → address_of_name name (if passed then host ∷ filter p hosts else filter p hosts) ≡ address_of_name name (host ∷ hosts)
without_here true p name host hosts is other rest =
    ap (λ found. if str_eq_ignore_ascii_case (string_bytes host.name) name then Some host.address else found) rest
without_here false p name host hosts is other rest = rest ∙ sym (passes name host hosts (other host is))

-- without hosts of other numbers a name is at the same address
without : (p : Host → Bool) (name : List ℕ) (hosts : List Host) → ((h : Host) → p h ≡ false → h.number ≢ number_of_name name)
    → address_of_name name (filter p hosts) ≡ address_of_name name hosts
without p name [] other = refl
without p name (host ∷ hosts) other = without_here (p host) p name host hosts refl other (without p name hosts other)

-- hosts of one number tie
tied : (a b : Host) → a.number ≡ b.number → ties below a b ≡ true
tied a b same = search (rules, same)

-- where no host has the name it has no address
none_named : (name : List ℕ) (hosts : List Host) → All (λ (h : Host). str_eq_ignore_ascii_case (string_bytes h.name) name ≡ false) hosts
    → address_of_name name hosts ≡ None
none_named name [] all = refl
none_named name (host ∷ hosts) all =
    let Other : Host → Type 0 = λ h. str_eq_ignore_ascii_case (string_bytes h.name) name ≡ false in
    ap (λ same. if same then Some host.address else address_of_name name hosts) (All-head Other host hosts all)
    ∙ none_named name hosts (All-tail Other host hosts all)

-- where a host of the name stands
stable_at : (name : List ℕ) (xs ys : List Host) (host : Host) → IsTrue (str_eq_ignore_ascii_case (string_bytes host.name) name)
    → IsStableByKey (λ (h : Host). h.number) nat_cmp xs ys → address_of_name name ys ≡ address_of_name name xs
stable_at name xs ys host same stable =
    let number : host.number ≡ number_of_name name = host.numbered ∙ same_number (string_bytes host.name) name same in
    let other : (h : Host) → ties below host h ≡ false → h.number ≢ number_of_name name
    = λ h no is. false≢true (sym no ∙ tied host h (number ∙ sym is)) in
    sym (without (ties below host) name ys other)
    ∙ ap (address_of_name name) (stable host)
    ∙ without (ties below host) name xs other

-- a stable sort by numbers leaves a name, found or not, at its address
stable_found : (name : List ℕ) (xs ys : List Host) (found : Option SocketAddrV4) → address_of_name name xs ≡ found → IsPermutation xs ys
    → IsStableByKey (λ (h : Host). h.number) nat_cmp xs ys → address_of_name name ys ≡ address_of_name name xs
stable_found name xs ys None is moves stable =
    let Other : Host → Type 0 = λ h. str_eq_ignore_ascii_case (string_bytes h.name) name ≡ false in
    none_named name ys (All-permutation Other xs ys moves (others name xs is)) ∙ sym is
stable_found name xs ys (Some address) is moves stable =
    let (host, contains, same, at) = named name xs address is in
    stable_at name xs ys host same stable

-- a stable sort changes no name's address
pub first_stays : (xs ys : List Host) → IsPermutation xs ys → IsStableByKey (λ (h : Host). h.number) nat_cmp xs ys
    → (name : List ℕ) → address_of_name name ys ≡ address_of_name name xs
first_stays xs ys moves stable name = stable_found name xs ys (address_of_name name xs) refl moves stable

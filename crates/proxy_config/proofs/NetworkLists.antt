-- Lists of networks, one after the other.
use Rattle.std.proofs.Common.{◌≡◌, ◌<◌, ◌≤◌, ◌+◌, ℕ, List, [], ◌∷◌, ◌++◌, length, drop, get_or, Option, Some, None, option_and_then, sym}
use Rattle.std.proofs.Common.{ap, ◌∙◌, subst, append_assoc, inl, inr, arith, rules}
use Rattle.std.proofs.lemmas.List.{drop_more}
use Rattle.std.specs.List.{after_first, before_first, position_or_len}
use Rattle.std.specs.Net.Grammar.{IsIpv4Text}
use Rattle.adapt_bytes.specs.Numeral.{Writes}
use Rattle.std.specs.declared.net.ipv4_addr.Ipv4Addr.{Ipv4Addr}
use Rattle.toml.specs.Data.{Data, Items, Members, get_member, as_array, as_str}
use Rattle.toml.specs.View.{view, items_view}
use Rattle.toml.specs.declared.value.Value.{Value}
use Rattle.proxy_config.specs.declared.network.Network.{Network}
use Rattle.proxy_config.specs.Networks.{AreNetworks, HasNetworks, IsIn, IsInOne, IsNetwork, IsNetworkText, SaysNetworks, SaysNetworksOrNone}
use Rattle.proxy_config.specs.Networks.{is_slash}

-- those from a place on are the one there and those after it
at_place : {A : Type 0} (all : List A) (i : ℕ) (one : A) → i < length all → one ≡ get_or all i one → drop i all ≡ one ∷ drop (i + 1) all
at_place all i one inside is = drop_more all i one inside ∙ ap (λ a. a ∷ drop (i + 1) all) (sym is)

-- the address is in one of the networks just where it is in one of those from a place on
pub record IsLeft (networks : List Network) (address : Ipv4Addr) (i : ℕ) : Type 0 where
  pub still : IsInOne networks address → IsInOne (drop i networks) address
  pub there : IsInOne (drop i networks) address → IsInOne networks address

-- before any network was looked at, all are those that are left
pub left_at_first : (networks : List Network) (address : Ipv4Addr) → IsLeft networks address 0
left_at_first networks address = record { still = λ is. is; there = λ is. is }

-- an address that is in the network at a place is in one of the networks
pub is_there : (networks : List Network) (address : Ipv4Addr) (i : ℕ) (network : Network) → i < length networks
    → network ≡ get_or networks i network
    → IsLeft networks address i → IsIn network address → IsInOne networks address
is_there networks address i network inside is left in_it =
    let P : List Network → Type 0 = λ rest. IsInOne rest address in
    left.there (subst P (sym (at_place networks i network inside is)) (inl in_it))

-- where an address isn't in the network at a place, only those after it are left
pub left_after : (networks : List Network) (address : Ipv4Addr) (i : ℕ) (network : Network) → i < length networks
    → network ≡ get_or networks i network
    → IsLeft networks address i → (IsIn network address → ⊥) → IsLeft networks address (i + 1)
left_after networks address i network inside is left not_in =
    let P : List Network → Type 0 = λ rest. IsInOne rest address in
    let split = at_place networks i network inside is in
    let later : IsInOne (network ∷ drop (i + 1) networks) address → IsInOne (drop (i + 1) networks) address
    = λ one. elim one as (λ _. IsInOne (drop (i + 1) networks) address) [ inl here ↦ absurd (not_in here) | inr more ↦ more ] in
    record {
      still = λ one. later (subst P split (left.still one));
      there = λ one. left.there (subst P (sym split) (inr one));
    }

-- the values before a place are the networks so far: with those of the rest they are those of all, and there are none of all
-- where there are none of the rest
pub record AreSoFar (values : List Value) (networks : List Network) (i : ℕ) : Type 0 where
  pub joined : (rest : List Network) → AreNetworks (items_view (drop i values)) rest → AreNetworks (items_view values) (networks ++ rest)
  pub none : ((rest : List Network) → AreNetworks (items_view (drop i values)) rest → ⊥) → (all : List Network)
      → AreNetworks (items_view values) all → ⊥

-- before any value was read there are no networks so far
pub none_so_far : (values : List Value) (networks : List Network) → networks ≡ [] → AreSoFar values networks 0
none_so_far values networks empty =
    let P : List Network → Type 0 = λ first. AreSoFar values first 0 in
    let first : AreSoFar values [] 0 = record { joined = λ rest are. are; none = λ none. none } in
    subst P (sym empty) first

-- a value that is no network
no_rest : (value : Value) (values : List Value) → ((network : Network) → IsNetwork (view value) network → ⊥) → (rest : List Network)
    → AreNetworks (items_view (value ∷ values)) rest → ⊥
no_rest value values bad [] are = are
no_rest value values bad (network ∷ rest) are = bad network are.0

-- where the value at a place is no network, the values are no networks
pub no_networks : (values : List Value) (networks : List Network) (i : ℕ) (value : Value) → i < length values
    → value ≡ get_or values i value
    → AreSoFar values networks i → ((network : Network) → IsNetwork (view value) network → ⊥) → (all : List Network)
    → AreNetworks (items_view values) all → ⊥
no_networks values networks i value inside is so_far bad =
    let P : List Value → Type 0 = λ vs. (rest : List Network) → AreNetworks (items_view vs) rest → ⊥ in
    so_far.none (subst P (sym (at_place values i value inside is)) (no_rest value (drop (i + 1) values) bad))

-- a further network
later_none : (value : Value) (values : List Value) → ((rest : List Network) → AreNetworks (items_view values) rest → ⊥)
    → (rest : List Network)
    → AreNetworks (items_view (value ∷ values)) rest → ⊥
later_none value values none [] are = are
later_none value values none (network ∷ rest) are = none rest are.1

-- after a network more was read, the networks so far are those up to the next place
pub one_more : (values : List Value) (networks after : List Network) (i : ℕ) (value : Value) (network : Network) → i < length values
    → value ≡ get_or values i value
    → AreSoFar values networks i → IsNetwork (view value) network → after ≡ networks ++ network ∷ [] → AreSoFar values after (i + 1)
one_more values networks after i value network inside is so_far good pushed =
    let split = at_place values i value inside is in
    let joins : (rest : List Network) → AreNetworks (items_view (drop (i + 1) values)) rest
    → AreNetworks (items_view values) (networks ++ network ∷ rest)
    = λ rest are.
    let P : List Value → Type 0 = λ vs. AreNetworks (items_view vs) (network ∷ rest) in
    so_far.joined (network ∷ rest) (subst P (sym split) (good, are)) in
    let Q : List Value → Type 0 = λ vs. (rest : List Network) → AreNetworks (items_view vs) rest → ⊥ in
    record {
      joined = λ rest are.
          let same : after ++ rest ≡ networks ++ network ∷ rest =
          ap (λ all. all ++ rest) pushed ∙ append_assoc networks (network ∷ []) rest in
          let R : List Network → Type 0 = λ all. AreNetworks (items_view values) all in
          subst R (sym same) (joins rest are);
      none = λ none. so_far.none (subst Q (sym split) (later_none value (drop (i + 1) values) none));
    }

-- a text without an address where one has to be says no network
pub no_network_alone : (text : List ℕ) → position_or_len is_slash text ≡ length text → ((ip : Ipv4Addr) → IsIpv4Text text ip → ⊥)
    → (network : Network) → IsNetworkText text network → ⊥
no_network_alone text whole none network (inl one) = none network.address one.address
no_network_alone text whole none network (inr prefixed) = absurd (omega (arith, whole, prefixed.slash))

-- a text with no address before its slash says no network
pub no_network_before : (text before : List ℕ) → position_or_len is_slash text < length text → before ≡ before_first is_slash text
    → ((ip : Ipv4Addr) → IsIpv4Text before ip → ⊥) → (network : Network) → IsNetworkText text network → ⊥
no_network_before text before inside is none network (inl one) = absurd (omega (arith, inside, one.no_slash))
no_network_before text before inside is none network (inr prefixed) =
    let P : List ℕ → Type 0 = λ t. IsIpv4Text t network.address in
    none network.address (subst P (sym is) prefixed.address)

-- a text with no number up to 32 after its slash says no network
pub no_network_after : (text after : List ℕ) → position_or_len is_slash text < length text → after ≡ after_first is_slash text
    → ((bits : ℕ) → bits ≤ 32 → Writes 10 after bits → ⊥) → (network : Network) → IsNetworkText text network → ⊥
no_network_after text after inside is none network (inl one) = absurd (omega (arith, inside, one.no_slash))
no_network_after text after inside is none network (inr prefixed) =
    let P : List ℕ → Type 0 = λ t. Writes 10 t network.prefix_length in
    none network.prefix_length network.few (subst P (sym is) prefixed.prefix)

-- a value that is no text, or the text of no network
same_some : {A : Type 0} (x y : A) → Some x ≡ Some y → x ≡ y
same_some x y e = search (rules, e)

-- a value that is no text is no network
pub no_network_text : (value : Data) → as_str value ≡ None → (network : Network) → IsNetwork value network → ⊥
no_network_text value none network is = absurd (search (rules, none, is.1))

-- a value whose text says no network is no network
pub no_network_in : (value : Data) (text : List ℕ) → as_str value ≡ Some text → ((network : Network) → IsNetworkText text network → ⊥)
    → (network : Network) → IsNetwork value network → ⊥
no_network_in value text at none network is =
    let P : List ℕ → Type 0 = λ t. IsNetworkText t network in
    none network (subst P (same_some is.0 text (sym is.1 ∙ at)) is.2)

-- where no value is left, each is a network
pub all_networks : (values : List Value) (networks : List Network) (i : ℕ) → drop i values ≡ [] → AreSoFar values networks i
    → AreNetworks (items_view values) networks
all_networks values networks i past so_far =
    let P : List Value → Type 0 = λ vs. AreNetworks (items_view vs) [] in
    let Q : List Network → Type 0 = λ all. AreNetworks (items_view values) all in
    let same : networks ++ [] ≡ networks = search rules in
    subst Q same (so_far.joined [] (subst P (sym past) tt))

-- the key's value is no list, or a list of which no networks are said
no_value : {A : Type 0} (x : A) → Some x ≡ None → ⊥
no_value x e = search (rules, e)

-- two equal options with lists in them hold one list
same_items : (x y : Items) → Some x ≡ Some y → x ≡ y
same_items x y e = search (rules, e)

-- a key whose value is no list says no networks
pub no_list : (key : List ℕ) (document : Members) (value : Data) → get_member key document ≡ Some value → as_array value ≡ None
    → (found : Option (List Network)) → SaysNetworks key document found → ⊥
no_list key document value at none None says = no_value value (sym at ∙ says)
no_list key document value at none (Some networks) says =
    let both : Some says.0 ≡ None = sym says.1 ∙ (ap (option_and_then as_array) at ∙ none) in
    no_value says.0 both

-- a key whose list isn't one of networks says no networks
pub no_list_of : (key : List ℕ) (document : Members) (value : Data) (items : Items) → get_member key document ≡ Some value
    → as_array value ≡ Some items
    → ((networks : List Network) → AreNetworks items networks → ⊥) → (found : Option (List Network)) → SaysNetworks key document found → ⊥
no_list_of key document value items at is none None says = no_value value (sym at ∙ says)
no_list_of key document value items at is none (Some networks) says =
    let both : Some says.0 ≡ Some items = sym says.1 ∙ (ap (option_and_then as_array) at ∙ is) in
    let P : Items → Type 0 = λ list. AreNetworks list networks in
    none networks (subst P (same_items says.0 items both) says.2)

-- a key whose value is a list of these networks has them
pub says_list : (key : List ℕ) (document : Members) (value : Data) (items : Items) (networks : List Network)
    → get_member key document ≡ Some value
    → as_array value ≡ Some items → AreNetworks items networks → HasNetworks key document networks
says_list key document value items networks at is are = (items, ap (option_and_then as_array) at ∙ is, are)

-- where the key says no list of networks and isn't missing, no networks are denied by it
pub none_denied : (key : List ℕ) (document : Members) → ((found : Option (List Network)) → SaysNetworks key document found → ⊥)
    → (networks : List Network) → SaysNetworksOrNone key document networks → ⊥
none_denied key document none networks (inl missing) = none None missing.0
none_denied key document none networks (inr has) = none (Some networks) has

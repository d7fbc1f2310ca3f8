-- Networks (RFC 4632, section 3.1): which addresses are in one, and which a text or a key says.
use Rattle.std.specs.Prelude.{◌≡◌, ◌==◌, ◌/◌, ◌-◌, ◌^◌, ◌<◌, ◌⊎◌, ℕ, List, [], ◌∷◌, length, Bool, ⊤, Option, Some, None, MatchOption}
use Rattle.std.specs.Prelude.{option_and_then}
use Rattle.std.specs.List.{after_first, before_first, position_or_len}
use Rattle.std.specs.Net.Addr.{ipv4_bits}
use Rattle.std.specs.Net.Grammar.{IsIpv4Text}
use Rattle.std.specs.declared.net.ipv4_addr.Ipv4Addr.{Ipv4Addr}
use Rattle.toml.specs.Data.{Data, Items, no_items, item, Members, get_member, as_array, as_str}
use Rattle.adapt_bytes.specs.Numeral.{Writes}
use Rattle.proxy_config.specs.declared.network.Network.{Network}

-- the prefix of an address: its first bits, so many of 32
abbrev pub prefix_of : ℕ → Ipv4Addr → ℕ
prefix_of bits address = ipv4_bits address / 2 ^ (32 - bits)

-- the address is in the network: it has the prefix of the network's address
abbrev pub IsIn : Network → Ipv4Addr → Type 0
IsIn network address =
    prefix_of network.prefix_length address ≡ prefix_of network.prefix_length network.address

-- the address is in one of the networks
abbrev pub IsInOne : List Network → Ipv4Addr → Type 0
IsInOne [] address = ⊥
IsInOne (network ∷ networks) address = IsIn network address ⊎ IsInOne networks address

-- whoever comes from the address may use the proxy: it is in one of the networks, or the key is missing; an empty list lets nobody in
abbrev pub MayUse : Option (List Network) → Ipv4Addr → Type 0
MayUse None address = ⊤
MayUse (Some networks) address = IsInOne networks address

abbrev pub is_slash : ℕ → Bool
is_slash byte = byte == 47

-- an address alone is the network of that one address
pub record IsOneAddress (text : List ℕ) (network : Network) : Type 0 where
  pub no_slash : position_or_len is_slash text ≡ length text
  pub address : IsIpv4Text text network.address
  pub whole : network.prefix_length ≡ 32

-- the network's address stands before a slash, and the prefix length after it
pub record IsPrefixed (text : List ℕ) (network : Network) : Type 0 where
  pub slash : position_or_len is_slash text < length text
  pub address : IsIpv4Text (before_first is_slash text) network.address
  pub prefix : Writes 10 (after_first is_slash text) network.prefix_length

-- the text says the network
abbrev pub IsNetworkText : List ℕ → Network → Type 0
IsNetworkText text network = IsOneAddress text network ⊎ IsPrefixed text network

-- the value is such a text
abbrev pub IsNetwork : Data → Network → Type 0
IsNetwork value network = (text : List ℕ) × (as_str value ≡ Some text) × IsNetworkText text network

-- the values are these networks, one after the other
abbrev pub AreNetworks : Items → List Network → Type 0
AreNetworks no_items [] = ⊤
AreNetworks no_items (network ∷ networks) = ⊥
AreNetworks (item value items) [] = ⊥
AreNetworks (item value items) (network ∷ networks) = IsNetwork value network × AreNetworks items networks

-- the key's value is a list of these networks
abbrev pub HasNetworks : List ℕ → Members → List Network → Type 0
HasNetworks key document networks = (items : Items)
    × (option_and_then as_array (get_member key document) ≡ Some items) × AreNetworks items networks

-- the key has these networks, or is missing
abbrev pub SaysNetworks : List ℕ → Members → Option (List Network) → Type 0
SaysNetworks key document found =
    MatchOption found (get_member key document ≡ None) (HasNetworks key document)

-- the key has these networks; none where it is missing
abbrev pub SaysNetworksOrNone : List ℕ → Members → List Network → Type 0
SaysNetworksOrNone key document networks =
    ((get_member key document ≡ None) × (networks ≡ [])) ⊎ HasNetworks key document networks

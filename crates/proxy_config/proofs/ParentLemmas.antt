-- Where the parent is, and which of its keys is at fault.
use Rattle.std.proofs.Common.{◌≡◌, ◌⊎◌, ℕ, List, Option, Some, None, MatchOption, option_and_then, codes, inl, inr, refl, sym, subst}
use Rattle.std.specs.declared.net.socket_addr.SocketAddrV4.{SocketAddrV4}
use Rattle.toml.specs.Data.{Data, Members, get_member, as_table}
use Rattle.proxy_config.specs.declared.fault.ConfigFault.{ConfigFault}
use Rattle.proxy_config.specs.Fault.{Names}
use Rattle.proxy_config.specs.Parent.{IsInParent, IsItsOwnParent, IsParentFault, ReachesKey}
use Rattle.proxy_config.specs.Reach.{Reaches}
use Rattle.proxy_config.specs.Values.{HasAddress}
use Rattle.proxy_config.proofs.Addresses.{one_address, some_is_none}
use Rattle.proxy_config.proofs.Refusals.{names_so}

-- the listener of a key is the one at its address
pub at_its_address : (key : List ℕ) (document : Members) (to listener : SocketAddrV4) → HasAddress key document listener
    → ReachesKey key document to
    → Reaches to listener
at_its_address key document to listener has reaches =
    let P : SocketAddrV4 → Type 0 = λ own. Reaches to own in
    subst P (one_address key document reaches.0 listener reaches.1 has) reaches.2

-- what is said of the table that a value is
pub of_table : (value : Option Data) (table : Members) (Missing Other : Type 0) (P : Members → Type 0)
    → option_and_then as_table value ≡ Some table → P table
    → MatchOption value Missing (λ d. MatchOption (as_table d) Other P)
of_table None table Missing Other P at p = absurd (some_is_none table (sym at))
of_table (Some value) table Missing Other P at p =
    let Q : Option Members → Type 0 = λ found. MatchOption found Other P in
    subst Q (sym at) p

-- the first key at fault of the table is that of the document
pub fault_in_table : (document table : Members) → option_and_then as_table (get_member (codes "parent") document) ≡ Some table
    → (fault : ConfigFault) → Names (IsInParent table) fault → Names (IsParentFault document) fault
fault_in_table document table at =
    names_so (IsInParent table) (IsParentFault document)
    (λ key is. of_table (get_member (codes "parent") document) table ⊥ (key ≡ codes "parent")
    (λ t. IsInParent t key ⊎ (IsItsOwnParent document t × (key ≡ codes "parent"))) at (inl is))

-- the key itself is at fault where the table says the proxy itself
pub own_fault : (document table : Members) → option_and_then as_table (get_member (codes "parent") document) ≡ Some table
    → IsItsOwnParent document table
    → IsParentFault document (codes "parent")
own_fault document table at own =
    of_table (get_member (codes "parent") document) table ⊥ (codes "parent" ≡ codes "parent")
    (λ t. IsInParent t (codes "parent") ⊎ (IsItsOwnParent document t × (codes "parent" ≡ codes "parent"))) at (inr (own, refl))

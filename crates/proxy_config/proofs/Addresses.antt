-- A text that says no address makes a value, and a key, that have none.
use Rattle.std.proofs.Common.{◌≡◌, ◌≢◌, ℕ, List, Option, Some, None, IfNone, sym, ap, ◌∙◌, subst, rules}
use Rattle.std.proofs.NetLemmas.Theorems.{IsSocketV4Text_unique}
use Rattle.toml.specs.Data.{Data, Members, get_member, as_str}
use Rattle.std.specs.declared.net.socket_addr.SocketAddrV4.{SocketAddrV4}
use Rattle.std.specs.Net.Grammar.{IsSocketV4Text}
use Rattle.std.specs.Net.Socket.{v4_port}
use Rattle.proxy_config.specs.Values.{IsAddress, HasAddress}

-- two equal options with values in them hold one value
same_some : {A : Type 0} (x y : A) → Some x ≡ Some y → x ≡ y
same_some x y e = search (rules, e)

-- an option with a value in it isn't none
pub some_is_none : {A : Type 0} (x : A) → Some x ≡ None → ⊥
some_is_none x e = search (rules, e)

-- a value that is no text is no address
pub no_text : (value : Data) (address : SocketAddrV4) → as_str value ≡ None → IsAddress value address → ⊥
no_text value address none h = some_is_none h.0 (sym h.1 ∙ none)

-- a value whose text is no address with a port other than 0 is no address
pub no_address : (value : Data) (text : List ℕ) → as_str value ≡ Some text
    → ((a : SocketAddrV4) → IsSocketV4Text text a → v4_port a ≢ 0 → ⊥)
    → (address : SocketAddrV4) → IsAddress value address → ⊥
no_address value text some bad address h =
    let P : List ℕ → Type 0 = λ t. IsSocketV4Text t address in
    bad address (subst P (same_some h.0 text (sym h.1 ∙ some)) h.2) h.3

-- a key that is missing has no address
pub no_value : (key : List ℕ) (table : Members) (address : SocketAddrV4) → get_member key table ≡ None → HasAddress key table address → ⊥
no_value key table address none h = some_is_none h.0 (sym h.1 ∙ none)

-- a key whose value is no address has no address
pub no_key : (key : List ℕ) (table : Members) (value : Data) → get_member key table ≡ Some value
    → ((a : SocketAddrV4) → IsAddress value a → ⊥)
    → (address : SocketAddrV4) → HasAddress key table address → ⊥
no_key key table value some bad address h =
    let P : Data → Type 0 = λ d. IsAddress d address in
    bad address (subst P (same_some h.0 value (sym h.1 ∙ some)) h.2)

-- what follows from there being none
pub if_none_then : {A : Type 0} {P Q : Type 0} (found : Option A) → (P → Q) → IfNone found P → IfNone found Q
if_none_then None then_q h = then_q h
if_none_then (Some x) then_q h = tt

-- a key has one address
pub one_address : (name : List ℕ) (names : Members) (a b : SocketAddrV4) → HasAddress name names a → HasAddress name names b → a ≡ b
one_address name names a b h k =
    let value : h.0 ≡ k.0 = same_some h.0 k.0 (sym h.1 ∙ k.1) in
    let text : h.2.0 ≡ k.2.0 = same_some h.2.0 k.2.0 (sym h.2.1 ∙ ap as_str value ∙ k.2.1) in
    let P : List ℕ → Type 0 = λ t. IsSocketV4Text t a in
    IsSocketV4Text_unique k.2.0 a b (subst P text h.2.2) k.2.2

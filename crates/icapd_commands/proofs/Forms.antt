-- What stands at a key.
use Rattle.std.proofs.Common.{◌≡◌, ℕ, List, codes, Option, Some, None, option_map, is_some, refl, sym, ap, ◌∙◌, subst}
use Rattle.std.proofs.lemmas.Option.{same_Some}
use Rattle.std.proofs.NetLemmas.Theorems.{IsSocketV4Text_unique}
use Rattle.std.specs.Net.Grammar.{IsSocketV4Text}
use Rattle.std.specs.Net.Socket.{v4_port}
use Rattle.std.specs.declared.net.socket_addr.SocketAddrV4.{SocketAddrV4}
use Rattle.toml.specs.Data.{Members}
use Rattle.icapd_commands.specs.Config.{text_at, ListenIs}

-- an option has a value just if it has one after a mapping
pub some_kept : {A B : Type 0} (f : A → B) (r : Option A) → is_some r ≡ is_some (option_map f r)
some_kept f None = refl
some_kept f (Some x) = refl

-- the text at `listen` writes no address
pub no_address : (table : Members) (text : List ℕ) → text_at (codes "listen") table ≡ Some text
    → ((a : SocketAddrV4) → IsSocketV4Text text a → ⊥) → (a : SocketAddrV4) → ListenIs table a → ⊥
no_address table text found none a (other, is, spells, port) =
    none a (subst (λ t. IsSocketV4Text t a) (same_Some other text (sym is ∙ found)) spells)

-- it writes one whose port is 0
pub no_port : (table : Members) (text : List ℕ) (address : SocketAddrV4) → text_at (codes "listen") table ≡ Some text
    → IsSocketV4Text text address → v4_port address ≡ 0 → (a : SocketAddrV4) → ListenIs table a → ⊥
no_port table text address found writes nought a (other, is, spells, port) =
    port (ap v4_port (IsSocketV4Text_unique text a address (subst (λ t. IsSocketV4Text t a) (same_Some other text (sym is ∙ found)) spells)
    writes) ∙ nought)

-- A key that isn't known is the first such, since each before it is known.
use Rattle.std.proofs.Common.{◌≡◌, ℕ, List, ◌∷◌, false, Contains, String, Global, string_bytes, sym, ◌∙◌, subst, rules}
use Rattle.std.proofs.lemmas.Bool.{false≢true}
use Rattle.std.proofs.lemmas.Map.Iter.{rest_more}
use Rattle.std.specs.Map.{keys_of}
use Rattle.std.specs.Map.Iter.{deref}
use Rattle.toml.specs.View.{table_view}
use Rattle.proxy_config.specs.Order.{IsFirst}
use Rattle.proxy_config.specs.Unknown.{HasOther, texts}
use Rattle.proxy_config.proofs.UnknownKeys.{IsLooking, looks, looks_on, finds}
use Rattle.proxy_config.proofs.unknown.first_unknown.Goals as goal

pub loop-key-init : goal.loop-key-init
loop-key-init c =
    let known = texts c.args.known.now in
    let P : List (String Global) → Type 0 = λ rest. IsLooking known (table_view c.args.table.now) rest in
    let all : c.into_iter-key-iterator.result ≡ keys_of c.args.table.now.entries = search rules in
    subst P (sym all) (looks known c.args.table.now.entries c.keys-key-items.ensures.ordered c.keys-key-items.ensures.found)

pub returns-then-not-is_known : goal.returns-then-not-is_known
returns-then-not-is_known c =
    let known = texts c.args.known.now in
    let table = table_view c.args.table.now in
    let key = c.in-Some.key.now in
    let P : List (String Global) → Type 0 = λ rest. IsLooking known table rest in
    let rest : c.loop-key.key-iterator ≡ key ∷ c.next.new.self =
    rest_more deref c.loop-key.key-iterator c.next.new.self c.next.result c.in-Some.key c.in-Some.is c.next.ensures.steps in
    let looking : IsLooking known table (key ∷ c.next.new.self) = subst P rest c.loop-key.invariant in
    let K : List ℕ → Type 0 = λ text. Contains known text in
    let not_known : c.is_known.result ≡ false = search rules in
    let is_other : Contains known (string_bytes key) → ⊥ =
    λ contains. false≢true (sym not_known ∙ c.is_known.ensures.1 (subst K (sym c.as_str.ensures.value) contains)) in
    let F : List ℕ → Type 0 = λ text. IsFirst (HasOther known table) text in
    subst F (sym c.as_str-then-not-is_known.ensures.value) (finds known table key c.next.new.self looking is_other)

pub loop-key-preserved : goal.loop-key-preserved
loop-key-preserved c =
    let known = texts c.args.known.now in
    let table = table_view c.args.table.now in
    let key = c.in-Some.key.now in
    let P : List (String Global) → Type 0 = λ rest. IsLooking known table rest in
    let rest : c.loop-key.key-iterator ≡ key ∷ c.next.new.self =
    rest_more deref c.loop-key.key-iterator c.next.new.self c.next.result c.in-Some.key c.in-Some.is c.next.ensures.steps in
    let looking : IsLooking known table (key ∷ c.next.new.self) = subst P rest c.loop-key.invariant in
    let K : List ℕ → Type 0 = λ text. Contains known text in
    let is_known : Contains known (string_bytes key) = subst K c.as_str.ensures.value (c.is_known.ensures.0 (search rules)) in
    looks_on known table key c.next.new.self looking is_known

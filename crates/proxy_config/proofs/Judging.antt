-- What a key that is next says of those after it, and of the document's first fault.
use Rattle.std.proofs.Common.{◌≡◌, ℕ, List, [], ◌∷◌, Option, Some, None, IfSome, IfNone, Result, Ok, Err, IfOk, IfErr, codes, inl, inr, sym}
use Rattle.std.proofs.Common.{subst}
use Rattle.toml.specs.Data.{Members}
use Rattle.proxy_config.specs.declared.fault.ConfigFault.{ConfigFault}
use Rattle.proxy_config.specs.Config.{IsFirstFault, IsFirstIn}
use Rattle.proxy_config.specs.Fault.{Names, IsFaultAt}
use Rattle.proxy_config.specs.Keys.{Kind, Row, IsFaultOf, IsGood, table}
use Rattle.proxy_config.specs.Turns.{Begins, IsNext, IsPast, Reaches, rest, rows_from}
use Rattle.proxy_config.specs.Order.{IsFirst}
use Rattle.proxy_config.specs.Unknown.{IsUnknown}
use Rattle.proxy_config.proofs.Found.{some_at, at_none}
use Rattle.proxy_config.proofs.Refusals.{names_so}

-- what is said of a row's kind and name, where these are its kind and its name
of_row : (P : Kind → List ℕ → Type 0) (row : Row) (name : List ℕ) (kind : Kind) → row.name ≡ name → row.kind ≡ kind → P kind name
    → P row.kind row.name
of_row P row name kind same_name same_kind p =
    let Q : List ℕ → Type 0 = λ n. P row.kind n in
    let R : Kind → Type 0 = λ k. P k name in
    subst Q (sym same_name) (subst R (sym same_kind) p)

-- where the key of the first row is good, the rows after it are next
pub goes_on : (rows : List Row) (name : List ℕ) (kind : Kind) (document : Members) → Begins rows name kind → Reaches rows document
    → IsGood kind name document
    → Reaches (rest rows) document
unfolding IsFirstIn
goes_on [] name kind document begins reached good = absurd begins
goes_on (row ∷ rows) name kind document begins reached good = record {
  first = λ found later. reached.first found (inr (of_row (λ k n. IsGood k n document) row name kind begins.0 begins.1 good, later));
}

-- a fault of the first row's key, reached in turn, is the document's first
pub stops : (rows : List Row) (name : List ℕ) (kind : Kind) (document : Members) → Begins rows name kind → Reaches rows document
    → (found : List ℕ) → IsFaultOf kind name document found → IsFirstFault document found
unfolding IsFirstIn
stops [] name kind document begins reached found fault = absurd begins
stops (row ∷ rows) name kind document begins reached found fault =
    reached.first found (inl (of_row (λ k n. IsFaultOf k n document found) row name kind begins.0 begins.1 fault))

-- where a key is good, that after it is next
pub past : (name : List ℕ) (kind : Kind) (document : Members) → IsNext name kind document → IsGood kind name document → IsPast name document
past name kind document next good = goes_on (rows_from name table) name kind document next.is_row next.reached good

-- the fault of a key that is next is the document's first
pub first_fault : (name : List ℕ) (kind : Kind) (document : Members) → IsNext name kind document → (found : List ℕ)
    → IsFaultOf kind name document found
    → IsFirstFault document found
first_fault name kind document next = stops (rows_from name table) name kind document next.is_row next.reached

-- an unknown key is the document's first fault once the last row is past
pub first_unknown_fault : (document : Members) → IsPast (codes "parent") document → (found : List ℕ) → IsFirst (IsUnknown document) found
    → IsFirstFault document found
unfolding IsFirstIn
first_unknown_fault document last = last.first

-- a fault that says which key is at fault names the document's first
pub names_first : (name : List ℕ) (kind : Kind) (document : Members) → IsNext name kind document → (fault : ConfigFault)
    → Names (IsFaultOf kind name document) fault → Names (IsFirstFault document) fault
names_first name kind document next =
    names_so (IsFaultOf kind name document) (IsFirstFault document) (first_fault name kind document next)

-- what was found for a key that needs a value: where there is one the key is good
pub past_found : {A : Type 0} (P : A → Type 0) (found : Option A) (r : Result A ConfigFault) (name : List ℕ) (kind : Kind)
    (document : Members)
    → IsNext name kind document → ((value : A) → P value → IsGood kind name document) → IfSome found P
    → IfOk r (λ value. found ≡ Some value)
    → IfOk r (λ _. IsPast name document)
past_found P found (Ok value) name kind document next good some is = past name kind document next (good value (some_at P is some))
past_found P found (Err fault) name kind document next good some is = tt

-- and where there is none it is the first at fault
pub fault_found : {A : Type 0} (P : A → Type 0) (found : Option A) (r : Result A ConfigFault) (name : List ℕ) (kind : Kind)
    (document : Members)
    → IsNext name kind document → ((key : List ℕ) → ((value : A) → P value → ⊥) → key ≡ name → IsFaultOf kind name document key)
    → IfNone found ((value : A) → P value → ⊥) → IfErr r (λ _. found ≡ None) → IfErr r (IsFaultAt name)
    → IfErr r (Names (IsFirstFault document))
fault_found P found (Ok value) name kind document next bad none is named = tt
fault_found P found (Err fault) name kind document next bad none is named =
    names_so (λ key. key ≡ name) (IsFirstFault document) (λ key same. first_fault name kind document next key
    (bad key (at_none is none) same)) fault named

-- the same by whatever the want of a value means
pub fault_without : {A : Type 0} {Q : Type 0} (found : Option A) (r : Result A ConfigFault) (name : List ℕ) (kind : Kind)
    (document : Members)
    → IsNext name kind document → ((key : List ℕ) → Q → key ≡ name → IsFaultOf kind name document key)
    → IfNone found Q → IfErr r (λ _. found ≡ None) → IfErr r (IsFaultAt name) → IfErr r (Names (IsFirstFault document))
fault_without found (Ok value) name kind document next bad none is named = tt
fault_without found (Err fault) name kind document next bad none is named =
    names_so (λ key. key ≡ name) (IsFirstFault document) (λ key same. first_fault name kind document next key
    (bad key (at_none is none) same)) fault named

-- what was found is what the document says
pub said : {A : Type 0} (found says : Option A) → found ≡ says → IfSome found (λ value. says ≡ Some value)
said None says is = tt
said (Some value) says is = sym is

-- where nothing was found, and that is what the document says, it says no value
pub unsaid : {A : Type 0} (found says : Option A) → found ≡ says → IfNone found ((value : A) → says ≡ Some value → ⊥)
unsaid None says is = λ value some. cc
unsaid (Some value) says is = tt

-- two facts, one after the other
infixr 4 ◌&◌
-- of two facts both hold together
pub ◌&◌ : {P Q : Type 0} → P → Q → P × Q
p & q = (p, q)

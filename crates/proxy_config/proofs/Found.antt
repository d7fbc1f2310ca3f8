-- What holds of what was found, once it is known what that is.
use Rattle.std.proofs.Common.{◌≡◌, Option, Result, Ok, Err, Some, None, IfOk, IfSome, IfNone, IsErrAnd, IsSome, rules, subst}

-- what holds of any value found holds of the one that was found
pub some_at : {A : Type 0} {x : Option A} {a : A} (P : A → Type 0) → x ≡ Some a → IfSome x P → P a
some_at {A = A} P e h = let Q : Option A → Type 0 = λ o. IfSome o P in subst Q e h

-- what holds where nothing was found holds where it is none
pub at_none : {A : Type 0} {x : Option A} {P : Type 0} → x ≡ None → IfNone x P → P
at_none {A = A} {P = P} e h = let Q : Option A → Type 0 = λ o. IfNone o P in subst Q e h

-- an option that is this value isn't none
pub some_is : {A : Type 0} {x : Option A} {a : A} → x ≡ Some a → IsSome x
some_is e = search (rules, e)

-- an error is no result
pub no_ok : {T E : Type 0} (r : Result T E) (P : E → Type 0) (Q : T → Type 0) → IsErrAnd r P → IfOk r Q
no_ok (Ok value) P Q h = absurd h
no_ok (Err fault) P Q h = tt

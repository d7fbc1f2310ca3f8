-- What a test of a result tells.
use Rattle.std.proofs.Common.{◌≡◌, true, Result, Ok, Err, is_ok, refl}

-- a result that a test finds good has a value
pub ok_tells : {T E : Type 0} (r : Result T E) → is_ok r ≡ true → (x : T) × (r ≡ Ok x)
ok_tells (Ok x) is = (x, refl)
ok_tells (Err e) is = cc

-- The methods' names in a request line (RFC 3507, section 4.3.2).
use Rattle.std.specs.Prelude.{◌≢◌, ℕ, List, codes}
use Rattle.adapt_bytes.specs.declared.method.Method.{Method}
use Rattle.adapt_bytes.specs.declared.method.Method.TheVariants.{Reqmod, Respmod, Options}

abbrev pub method_name : Method → List ℕ
method_name Reqmod = codes "REQMOD"
method_name Respmod = codes "RESPMOD"
method_name Options = codes "OPTIONS"

-- no method has this name
abbrev pub NamesNoMethod : List ℕ → Type 0
NamesNoMethod name = (method : Method) → name ≢ method_name method

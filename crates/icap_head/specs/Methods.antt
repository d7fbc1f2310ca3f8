-- The methods of requests (RFC 3507, section 4.3.2).
use Rattle.std.specs.Prelude.{ℕ, List}
use Rattle.adapt_bytes.specs.Methods.{method_name}
use Rattle.icap_head.specs.declared.methods.RequestMethod.{RequestMethod}
use Rattle.icap_head.specs.declared.methods.RequestMethod.TheVariants.{Known, Other}

-- the name of a request's method
abbrev pub request_method_name : RequestMethod → List ℕ
request_method_name (Known method) = method_name method
request_method_name (Other other) = other.name.items

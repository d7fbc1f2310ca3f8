-- The ICAP method of each vectoring point (RFC 3507, sections 4.8 and 4.9).
use Rattle.adapt_bytes.specs.declared.method.Method.{Method}
use Rattle.adapt_bytes.specs.declared.method.Method.TheVariants as methods
use Rattle.trace_core.specs.declared.history.Point.{Point}
use Rattle.trace_core.specs.declared.history.Point.TheVariants.{Reqmod, Respmod}

abbrev pub method_of : Point → Method
method_of Reqmod = methods.Reqmod
method_of Respmod = methods.Respmod

-- The messages that a service is tried with.
use Rattle.std.specs.Prelude.{ℕ, ◌+◌, ◌-◌, nat_lt, Bool, true, false, if◌then◌else◌, List, Option, Some, None, codes}
use Rattle.trace_core.specs.declared.history.Kind.{Kind}
use Rattle.trace_core.specs.declared.history.Kind.TheVariants as kinds
use Rattle.service_probe.specs.declared.samples.Sample.{Sample}
use Rattle.service_probe.specs.declared.samples.Sample.TheVariants.{NoBody, Below, BelowAllow, Preview, PreviewAllow, Above, AboveAllow}
use Rattle.service_probe.specs.declared.samples.Sample.TheVariants.{Million, MillionAllow, Chunked, Eicar}

-- a byte less than a preview, where that is one or more
abbrev pub below : ℕ → Option ℕ
below preview = if nat_lt 1 preview then Some (preview - 1) else None

-- just a preview, where it has a byte
abbrev pub just : ℕ → Option ℕ
just preview = if nat_lt 0 preview then Some preview else None

-- how many bytes a sample's body has where a preview has so many
abbrev pub body_size : Sample → ℕ → Option ℕ
body_size NoBody preview = Some 0
body_size Below preview = below preview
body_size BelowAllow preview = below preview
body_size Preview preview = just preview
body_size PreviewAllow preview = just preview
body_size Above preview = Some (preview + 1)
body_size AboveAllow preview = Some (preview + 1)
body_size Million preview = Some 1000000
body_size MillionAllow preview = Some 1000000
body_size Chunked preview = Some 10000
body_size Eicar preview = Some 68

-- a body of no byte has no preview (RFC 3507, section 4.5)
abbrev pub sample_kind : Option ℕ → ℕ → Kind
sample_kind None size = kinds.Whole
sample_kind (Some most) size = if nat_lt 0 size then kinds.Preview most else kinds.Whole

-- the length that is said before the body comes
abbrev pub sample_length : Sample → ℕ → Option ℕ
sample_length Chunked size = None
sample_length _ size = Some size

-- the request has `Allow: 204` (RFC 3507, section 4.6)
abbrev pub allows : Sample → Bool
allows NoBody = true
allows BelowAllow = true
allows PreviewAllow = true
allows AboveAllow = true
allows MillionAllow = true
allows Eicar = true
allows _ = false

abbrev pub sample_name : Sample → List ℕ
sample_name NoBody = codes "no-body"
sample_name Below = codes "below"
sample_name BelowAllow = codes "below-allow"
sample_name Preview = codes "preview"
sample_name PreviewAllow = codes "preview-allow"
sample_name Above = codes "above"
sample_name AboveAllow = codes "above-allow"
sample_name Million = codes "million"
sample_name MillionAllow = codes "million-allow"
sample_name Chunked = codes "chunked"
sample_name Eicar = codes "eicar"

-- The plan of a message (RFC 3507, sections 4.5, 4.6 and 4.10.2).
use Rattle.std.specs.Prelude.{◌≡◌, ℕ, false, List, nat_lt, Option, Some, None, MatchOption, if◌then◌else◌}
use Rattle.adapt_bytes.specs.declared.limits.TheConstants.{COUNT_LIMIT}
use Rattle.trace_core.specs.declared.history.Plan.{Plan}
use Rattle.trace_core.specs.declared.history.Point.{Point}
use Rattle.trace_core.specs.declared.history.Kind.TheVariants.{Plain}
use Rattle.http_side.specs.declared.body.Framing.{Framing}
use Rattle.http_side.specs.declared.body.Framing.TheVariants as by
use Rattle.options_book.specs.Extension.{IsExtension}
use Rattle.options_book.specs.Options.{Options}
use Rattle.options_book.specs.Transfer.{treat_of}
use Rattle.plan_rules.specs.Offer.{IsPlanOf}
use Rattle.plan_rules.specs.declared.limits.Limits.{Limits}
use Rattle.proxy_config.specs.declared.config.Config.{Config}

-- the configuration's limits
pub record AreLimits (config : Config) (limits : Limits) : Type 0 where
  pub preview : limits.preview_limit ≡ config.preview_limit
  pub allow : limits.allow_limit ≡ config.allow_limit
  pub window : limits.window ≡ config.window
  pub turn : limits.turn ≡ config.turn
  pub retry : limits.retry ≡ config.retry

-- the length that a framing gives, if it can be counted
abbrev pub known_length : Framing → Option ℕ
known_length by.None = Some 0
known_length (by.Length n) = if nat_lt n COUNT_LIMIT then Some n else None
known_length by.Chunked = None
known_length by.Close = None

-- the path's extension, or none where it has none
abbrev pub IsExtensionOf : List ℕ → Option (List ℕ) → Type 0
IsExtensionOf path found = MatchOption found ((text : List ℕ) → IsExtension path text → ⊥) (λ text. IsExtension path text)

-- a message that isn't offered
pub record IsPlain (point : Point) (len : Option ℕ) (plan : Plan) : Type 0 where
  pub kind : plan.kind ≡ Plain
  pub allow : plan.allow ≡ false
  pub retry : plan.retry ≡ false
  pub len_is : plan.len ≡ len
  pub point_is : plan.point ≡ point

-- a message that is offered as the service wants it, by the extension of the path
pub record IsOffered (options : Options) (limits : Limits) (point : Point) (path : List ℕ) (len : Option ℕ) (plan : Plan) : Type 0 where
  pub extension : Option (List ℕ)
  pub extension_is : IsExtensionOf path extension
  pub plan_is : IsPlanOf (treat_of options.lists extension) options.preview limits point len plan

-- the plan of a message, by what the point's service says, where it has one
abbrev pub IsPlanned : Option Options → Limits → Point → List ℕ → Option ℕ → Plan → Type 0
IsPlanned None limits point path len plan = IsPlain point len plan
IsPlanned (Some options) limits point path len plan = IsOffered options limits point path len plan

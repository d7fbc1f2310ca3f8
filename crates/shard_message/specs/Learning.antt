-- What a service said of its options, once it was asked (RFC 3507, section 4.10.2).
use Rattle.std.specs.Prelude.{◌≡◌, ℕ, ◌<◌, List, Some, None, IsSome, string_bytes}
use Rattle.std.specs.Net.Socket.{v4_port}
use Rattle.trace_core.specs.declared.history.Point.{Point}
use Rattle.icap_head.specs.Heads.{Response}
use Rattle.options_book.specs.Options.{Options, IsRecordOf}
use Rattle.icap_client.specs.Asking.{options_request}
use Rattle.proxy_config.specs.declared.config.Config.{Config}
use Rattle.proxy_config.specs.declared.point.ServicePoint.{ServicePoint}
use Rattle.shard_message.specs.Planning.{service_of}

-- these are the options that were said, which last for so many seconds where the service said no time; for ever where they are 0
pub record LastsFor (seconds : ℕ) (said kept : Options) : Type 0 where
  pub stands : IsSome said.ttl → kept ≡ said
  pub ever : seconds ≡ 0 → kept ≡ said
  pub lasts : said.ttl ≡ None → 0 < seconds → kept ≡ record said { ttl = Some seconds }

-- An answer was read as its point's options at the moment that is said to be, and they are kept, with the configured seconds.
pub record IsLearned (config_is : Config → Type 0) (now_is : ℕ → Type 0) (keeps : Options → Type 0) (point : Point) (answer : Response) :
    Type 0 where
  pub config : Config
  pub config_at : config_is config
  pub now : ℕ
  pub now_at : now_is now
  pub said : Options
  pub read : IsRecordOf point now answer said
  pub kept : Options
  pub lasts : LastsFor config.options_ttl said kept
  pub keeps_it : keeps kept

-- The service of this point is asked for its options: the request for that, of this configuration, is what is to be sent.
pub record IsAsking (config_is : Config → Type 0) (point : Point) (waiting : List ℕ) : Type 0 where
  pub config : Config
  pub config_at : config_is config
  pub service : ServicePoint
  pub service_is : service_of config point ≡ Some service
  pub text : waiting ≡ options_request (string_bytes service.host) (v4_port service.address) (string_bytes service.path)

-- What `serve` reads.
use Rattle.std.specs.Prelude.{◌≡◌, ℕ, ◌≤◌, ◌<◌, List, length, Some, ⊤}
use Rattle.toml.specs.Data.{Members}
use Rattle.toml.specs.Parse.{parse_document}
use Rattle.proxy_config.specs.Config.{IsConfig, Refuses}
use Rattle.proxy_config.specs.declared.config.Config.{Config as Configuration}
use Rattle.proxy_config.specs.declared.fault.ConfigFault.{ConfigFault}
use Rattle.proxy_config.specs.declared.fault.ConfigFault.TheVariants.{Text as NoDocument, Key as AtKey, NoMemory as WithoutMemory}
use Rattle.adapt_bytes.specs.declared.limits.TheConstants.{MAX_INPUT}
use Rattle.proxy_commands.specs.declared.error.Error.TheVariants.{InputTooLong, NoMemory, ReadFailed}
use Rattle.proxy_commands.specs.declared.serve_error.ServeError.{ServeError}
use Rattle.proxy_commands.specs.declared.serve_error.ServeError.TheVariants.{Ended, CannotRead, Config, Key, KeyLine, CannotListen}
use Rattle.proxy_commands.specs.declared.serve_error.ServeError.TheVariants.{CannotListenOn, NoAnswer, AuditMissing}

-- the error that a refused configuration ends the program with
abbrev pub IsRefusedAs : ConfigFault → ServeError → Type 0
IsRefusedAs NoDocument error = error ≡ Config
IsRefusedAs (AtKey key) error = error ≡ Key key
IsRefusedAs WithoutMemory error = error ≡ Ended NoMemory

-- the text is a configuration with these values
pub record IsConfigured (text : List ℕ) (config : Configuration) : Type 0 where
  pub short : length text ≤ MAX_INPUT
  pub document : Members
  pub is_document : parse_document text ≡ Some document
  pub says : IsConfig document config

-- why a text is refused, its length first
abbrev pub IsUnconfigured : List ℕ → ServeError → Type 0
IsUnconfigured text (Ended InputTooLong) = MAX_INPUT < length text
IsUnconfigured text (Ended NoMemory) = ⊤
IsUnconfigured text (Ended ReadFailed) = ⊤
IsUnconfigured text (Ended other) = ⊥
IsUnconfigured text (CannotRead path) = ⊥
IsUnconfigured text Config = (length text ≤ MAX_INPUT) × Refuses text NoDocument
IsUnconfigured text (Key key) = (length text ≤ MAX_INPUT) × Refuses text (AtKey key)
IsUnconfigured text (KeyLine key number) = ⊥
IsUnconfigured text CannotListen = ⊥
IsUnconfigured text (CannotListenOn address) = ⊥
IsUnconfigured text NoAnswer = ⊥
IsUnconfigured text AuditMissing = ⊥

-- What a configuration says, and which fault of a document is the first.
use Rattle.std.specs.Prelude.{◌≡◌, ℕ, ◌⊎◌, List, [], ◌∷◌, Some, None, ⊤, IsUtf8, string_bytes}
use Rattle.toml.specs.Data.{Members}
use Rattle.toml.specs.Parse.{parse_document}
use Rattle.proxy_config.specs.Keys.{Row, IsFaultOf, IsGood, Says, table}
use Rattle.proxy_config.specs.Order.{IsFirst}
use Rattle.proxy_config.specs.Pages.{page_of}
use Rattle.proxy_config.specs.Unknown.{IsUnknown}
use Rattle.proxy_config.specs.declared.fault.ConfigFault.{ConfigFault}
use Rattle.proxy_config.specs.declared.fault.ConfigFault.TheVariants.{Text, Key, NoMemory}
use Rattle.proxy_config.specs.declared.config.Config.{Config}

-- the configuration has the value that the document says for each key
abbrev pub AreSaid : List Row → Members → Config → Type 0
AreSaid [] document config = Unit {0}
AreSaid (row ∷ rows) document config = Says row.kind row.name document (row.value_in config) × AreSaid rows document config

-- the document says these values, and has no other key; no page is read
pub record IsConfig (document : Members) (config : Config) : Type 0 where
  pub values : AreSaid table document config
  pub none_unknown : (key : List ℕ) → IsUnknown document key → ⊥
  pub no_pages : (status : ℕ) → page_of config.pages status ≡ None

-- the first key at fault of these rows, all before it being good, or else the first unknown key by its bytes
unfoldable pub IsFirstIn : List Row → Members → List ℕ → Type 0
IsFirstIn [] document found = IsFirst (IsUnknown document) found
IsFirstIn (row ∷ rows) document found =
    IsFaultOf row.kind row.name document found ⊎ (IsGood row.kind row.name document × IsFirstIn rows document found)

-- the first key at fault of a document
abbrev pub IsFirstFault : Members → List ℕ → Type 0
IsFirstFault = IsFirstIn table

-- why a text is no configuration: it is no document, or this is the first key at fault of its document
abbrev pub Refuses : List ℕ → ConfigFault → Type 0
Refuses text Text = (¬ (IsUtf8 text)) ⊎ (parse_document text ≡ None)
Refuses text NoMemory = ⊤
Refuses text (Key key) = (document : Members) × (parse_document text ≡ Some document) × IsFirstFault document (string_bytes key)

-- The configuration of `icapd serve`: what each key may hold, and which fault is answered.
use Rattle.std.specs.Prelude.{◌≡◌, ◌≢◌, ℕ, ◌≤◌, ◌<◌, ◌⊎◌, Bool, true, false, ℤ, pos, List, length, codes, Option, Some, None, is_some}
use Rattle.std.specs.Prelude.{option_and_then, IsUtf8, string_bytes}
use Rattle.std.specs.Net.Grammar.{IsSocketV4Text}
use Rattle.std.specs.Net.Socket.{v4_port}
use Rattle.std.specs.declared.net.socket_addr.SocketAddrV4.{SocketAddrV4}
use Rattle.toml.specs.Data.{Members, get_member, as_str, as_integer}
use Rattle.toml.specs.Parse.{parse_document}
use Rattle.icap_services.specs.declared.settings.TheConstants.{MAX_TTL}
use Rattle.icap_services.specs.Ranges.{IsTag}
use Rattle.icap_services.specs.Texts.{Shown}
use Rattle.adapt_bytes.specs.declared.limits.TheConstants.{MAX_CONNECTIONS, MAX_INPUT, MAX_PREVIEW}
use Rattle.icapd_commands.specs.declared.config.TheConstants.{DEFAULT_DEADLINE, DEFAULT_MAX, DEFAULT_PREVIEW, DEFAULT_TTL, MAX_DEADLINE}
use Rattle.icapd_commands.specs.declared.error.IcapdError.{IcapdError}
use Rattle.icapd_commands.specs.declared.error.IcapdError.TheVariants.{InputTooLong, Config as NoTable, NoMemory, Key as OfKey}
use Rattle.icapd_commands.specs.declared.error.Key.{Key}
use Rattle.icapd_commands.specs.declared.error.Key.TheVariants.{Listen, Istag, Max, Ttl, Preview, Deadline, Unknown}

-- whether the key is there, and the string and the integer that it holds
abbrev pub is_at : List ℕ → Members → Bool
is_at key table = is_some (get_member key table)

abbrev pub text_at : List ℕ → Members → Option (List ℕ)
text_at key table = option_and_then as_str (get_member key table)

abbrev pub integer_at : List ℕ → Members → Option ℤ
integer_at key table = option_and_then as_integer (get_member key table)

-- `listen` is a text that writes this address, with a port from 1 on
abbrev pub ListenIs : Members → SocketAddrV4 → Type 0
ListenIs table address =
    (text : List ℕ) × (text_at (codes "listen") table ≡ Some text) × IsSocketV4Text text address × (v4_port address ≢ 0)

-- the default ISTag
abbrev pub default_tag : List ℕ
default_tag = codes "adapt-1"

-- `istag` is this text, which can be an ISTag; its default if it is missing
abbrev pub TagIs : Members → List ℕ → Type 0
TagIs table tag =
    ((is_at (codes "istag") table ≡ false) × (tag ≡ default_tag))
    ⊎ ((is_at (codes "istag") table ≡ true) × (text_at (codes "istag") table ≡ Some tag) × IsTag tag)

-- the key holds this number, which is within its range; its default if it is missing
abbrev pub NumberIs : List ℕ → ℕ → ℕ → ℕ → Members → ℕ → Type 0
NumberIs key least most default table n =
    ((is_at key table ≡ false) × (n ≡ default))
    ⊎ ((is_at key table ≡ true) × (integer_at key table ≡ Some (pos n)) × (least ≤ n) × (n ≤ most))

abbrev pub MaxIs : Members → ℕ → Type 0
MaxIs table n = NumberIs (codes "max") 1 MAX_CONNECTIONS DEFAULT_MAX table n

abbrev pub TtlIs : Members → ℕ → Type 0
TtlIs table n = NumberIs (codes "ttl") 0 MAX_TTL DEFAULT_TTL table n

abbrev pub PreviewIs : Members → ℕ → Type 0
PreviewIs table n = NumberIs (codes "preview") 0 MAX_PREVIEW DEFAULT_PREVIEW table n

abbrev pub DeadlineIs : Members → ℕ → Type 0
DeadlineIs table n = NumberIs (codes "deadline") 1 MAX_DEADLINE DEFAULT_DEADLINE table n

-- a key that a configuration may have
abbrev pub IsKnown : List ℕ → Type 0
IsKnown key = (key ≡ codes "listen") ⊎ (key ≡ codes "istag") ⊎ (key ≡ codes "max") ⊎ (key ≡ codes "ttl") ⊎ (key ≡ codes "preview")
    ⊎ (key ≡ codes "deadline")

-- the six keys hold these values
pub record HasValues (table : Members) (address : SocketAddrV4) (s : Shown) (seconds : ℕ) : Type 0 where
  pub listen : ListenIs table address
  pub istag : TagIs table s.istag
  pub max : MaxIs table s.max
  pub ttl : TtlIs table s.ttl
  pub preview : PreviewIs table s.preview
  pub deadline : DeadlineIs table seconds

-- each key up to this one holds what it may
abbrev pub HasListen : Members → Type 0
HasListen table = (address : SocketAddrV4) × ListenIs table address

abbrev pub HasTag : Members → Type 0
HasTag table = HasListen table × ((tag : List ℕ) × TagIs table tag)

abbrev pub HasMax : Members → Type 0
HasMax table = HasTag table × ((n : ℕ) × MaxIs table n)

abbrev pub HasTtl : Members → Type 0
HasTtl table = HasMax table × ((n : ℕ) × TtlIs table n)

abbrev pub HasPreview : Members → Type 0
HasPreview table = HasTtl table × ((n : ℕ) × PreviewIs table n)

abbrev pub HasDeadline : Members → Type 0
HasDeadline table = HasPreview table × ((n : ℕ) × DeadlineIs table n)

-- the first key that holds something else, or an unknown key after all of them
abbrev pub IsBad : Key → Members → Type 0
IsBad Listen table = (address : SocketAddrV4) → ListenIs table address → ⊥
IsBad Istag table = HasListen table × ((tag : List ℕ) → TagIs table tag → ⊥)
IsBad Max table = HasTag table × ((n : ℕ) → MaxIs table n → ⊥)
IsBad Ttl table = HasMax table × ((n : ℕ) → TtlIs table n → ⊥)
IsBad Preview table = HasTtl table × ((n : ℕ) → PreviewIs table n → ⊥)
IsBad Deadline table = HasPreview table × ((n : ℕ) → DeadlineIs table n → ⊥)
IsBad (Unknown key) table = HasDeadline table × (IsKnown (string_bytes key) → ⊥)

-- why a table is refused
abbrev pub IsTableBad : Members → IcapdError → Type 0
IsTableBad table (OfKey key) = IsBad key table
IsTableBad table NoMemory = Unit {0}
IsTableBad table other = ⊥

-- the text is a table with these values
pub record IsConfig (input : List ℕ) (address : SocketAddrV4) (s : Shown) (seconds : ℕ) : Type 0 where
  pub short : length input ≤ MAX_INPUT
  pub table : Members
  pub is_table : parse_document input ≡ Some table
  pub values : HasValues table address s seconds

-- why a text is refused, the first that stands
abbrev pub IsRefused : List ℕ → IcapdError → Type 0
IsRefused input InputTooLong = MAX_INPUT < length input
IsRefused input NoTable = (length input ≤ MAX_INPUT) × (IsUtf8 input → parse_document input ≡ None)
IsRefused input (OfKey key) = (length input ≤ MAX_INPUT) × ((table : Members) × (parse_document input ≡ Some table) × IsBad key table)
IsRefused input NoMemory = length input ≤ MAX_INPUT
IsRefused input other = ⊥

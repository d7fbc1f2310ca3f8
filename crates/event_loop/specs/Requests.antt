-- What the lines of the admin port ask for, and requests for the counters over HTTP.
use Rattle.std.specs.Prelude.{◌≡◌, ◌≢◌, ℕ, ◌≤◌, ◌<◌, ◌⊎◌, ◌||◌, ◌==◌, Bool, List, Some, ◌++◌, length, slice_get, slice_index, take, codes}
use Rattle.std.specs.Prelude.{IsTrue}
use Rattle.std.specs.Char.{is_ascii_uppercase}
use Rattle.std.specs.Str.{str_eq_ignore_ascii_case}
use Rattle.span_bank.specs.declared.limits.TheConstants.{MAX_CAPACITY}
use Rattle.adapt_bytes.specs.Numeral.{Writes}
use Rattle.exchange_report.specs.declared.exchange_id.ExchangeId.{ExchangeId}
use Rattle.exchange_report.specs.Live.{SpellsId}
use Rattle.event_loop.specs.declared.admin_lines.Question.{Question}
use Rattle.event_loop.specs.declared.admin_lines.Question.TheVariants.{Exchanges, Waiting, Trace}
use Rattle.event_loop.specs.declared.admin_lines.Request.{Request}
use Rattle.event_loop.specs.declared.admin_lines.Request.TheVariants.{Book, Capacity, Drain, Stats, Reopen, Refresh, Reload, Stop, Show}
use Rattle.event_loop.specs.declared.admin_lines.Request.TheVariants.{Bad}
use Rattle.event_loop.specs.declared.scrape.Scrape.{Scrape}
use Rattle.event_loop.specs.declared.scrape.Scrape.TheVariants as scrapes

-- the digits spell a size of the buffer budget
abbrev pub SpellsSize : List ℕ → ℕ → Type 0
SpellsSize digits n = Writes 10 digits n × (1 ≤ n) × (n ≤ MAX_CAPACITY)

-- the line asks for this size of the buffer budget
abbrev pub AsksForSize : List ℕ → ℕ → Type 0
AsksForSize line n = (digits : List ℕ) × (line ≡ codes "capacity " ++ digits) × SpellsSize digits n

-- the line asks for the script of this exchange
abbrev pub AsksForScript : List ℕ → ExchangeId → Type 0
AsksForScript line id = (text : List ℕ) × (line ≡ codes "trace " ++ text) × SpellsId text id

-- the line asks this about exchanges
abbrev pub AsksAbout : List ℕ → Question → Type 0
AsksAbout line Exchanges = line ≡ codes "exchanges"
AsksAbout line Waiting = line ≡ codes "exchanges waiting"
AsksAbout line (Trace id) = AsksForScript line id

-- the line asks nothing about exchanges
pub record AsksNothing (line : List ℕ) : Type 0 where
  pub exchanges : line ≢ codes "exchanges"
  pub waiting : line ≢ codes "exchanges waiting"
  pub script : (id : ExchangeId) → AsksForScript line id → ⊥

-- the line asks for this, or for nothing that there is
abbrev pub Asks : List ℕ → Request → Type 0
Asks line Book = line ≡ codes "book"
Asks line Drain = line ≡ codes "drain"
Asks line Stats = line ≡ codes "stats"
Asks line Reopen = line ≡ codes "reopen"
Asks line Refresh = line ≡ codes "refresh"
Asks line Reload = line ≡ codes "reload"
Asks line Stop = line ≡ codes "stop"
Asks line (Capacity n) = AsksForSize line n
Asks line (Show question) = AsksAbout line question
Asks line Bad = (line ≢ codes "book") × (line ≢ codes "drain") × (line ≢ codes "stats") × (line ≢ codes "reopen") × (line ≢ codes "refresh")
    × (line ≢ codes "reload") × (line ≢ codes "stop") × ((n : ℕ) → AsksForSize line n → ⊥) × AsksNothing line

-- a byte of a method as all registered ones are written: a capital letter or a hyphen (RFC 9110, section 9.1)
abbrev pub is_method_byte : ℕ → Bool
is_method_byte b = is_ascii_uppercase b || b == 45

-- one byte of a method or more stand first, and then a space: a request line (RFC 9112, section 3)
pub record BeginsWithMethod (line : List ℕ) : Type 0 where
  pub count : ℕ
  pub some : 0 < count
  pub method : (k : ℕ) → k < count → IsTrue (is_method_byte (slice_index line k))
  pub within : count < length line
  pub space : slice_index line count ≡ 32

-- the line is one of HTTP: a request line, or the field Host
abbrev pub IsHttp : List ℕ → Type 0
IsHttp line = BeginsWithMethod line ⊎ IsTrue (str_eq_ignore_ascii_case (take 5 line) (codes "host:"))

-- a query, or nothing: the first byte, if there is one, is a question mark
abbrev pub IsQuery : List ℕ → Type 0
IsQuery text = (b : ℕ) → slice_get text 0 ≡ Some b → b ≡ 63

-- the target is that of the counters: /metrics, and then nothing or a query (RFC 9112, section 3.2.1)
abbrev pub IsOfCounters : List ℕ → Type 0
IsOfCounters target = (query : List ℕ) × (target ≡ codes "/metrics" ++ query) × IsQuery query

-- a request of this method for this target gets this: the counters for GET alone
abbrev pub Deserves : (method target : List ℕ) → Scrape → Type 0
Deserves method target scrapes.Counters = IsOfCounters target × (method ≡ codes "GET")
Deserves method target scrapes.NotAllowed = IsOfCounters target × (method ≢ codes "GET")
Deserves method target scrapes.NotFound = IsOfCounters target → ⊥
Deserves method target _ = ⊥

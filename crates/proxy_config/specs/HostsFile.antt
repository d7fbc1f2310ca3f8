-- A hosts file (hosts(5)): an address and the names at it a line.
use Rattle.std.specs.Prelude.{◌≡◌, ◌==◌, ◌+◌, ◌<◌, ◌⊎◌, ℕ, List, [], ◌∷◌, ◌++◌, length, map, filter, Bool, ◌||◌, nat_lt, All, ⊤, Option}
use Rattle.std.specs.Prelude.{Some, None, string_bytes}
use Rattle.std.specs.Borrow.{Bor}
use Rattle.std.specs.List.{slice_split, before_first}
use Rattle.std.specs.Net.Grammar.{IsIpv4Text, IsIpv6Text}
use Rattle.std.specs.Net.Socket.{v4_ip, v4_port}
use Rattle.std.specs.declared.net.ipv6_addr.Ipv6Addr.{Ipv6Addr}
use Rattle.std.specs.declared.net.socket_addr.SocketAddrV4.{SocketAddrV4}
use Rattle.adapt_bytes.specs.Text.{is_blank}
use Rattle.proxy_config.specs.declared.host.Host.{Host}
use Rattle.proxy_config.specs.declared.config.Config.{Config}
use Rattle.proxy_config.specs.declared.hosts.TheConstants.{HTTP_PORT}
use Rattle.proxy_config.specs.declared.hosts_file.HostsFault.{HostsFault}
use Rattle.proxy_config.specs.declared.hosts_file.HostsFault.TheVariants.{Line, NoMemory}
use Rattle.proxy_config.specs.declared.words.Words.{Words}
use Rattle.proxy_config.specs.Hosts.{address_of_name}

abbrev pub is_line_end : ℕ → Bool
is_line_end byte = byte == 10

-- a byte between words: a blank, or the CR of a line's end
abbrev pub is_gap : ℕ → Bool
is_gap byte = is_blank byte || byte == 13

-- a comment begins
abbrev pub is_hash : ℕ → Bool
is_hash byte = byte == 35

-- the parts of a text that aren't empty
abbrev pub filled : List (List ℕ) → List (List ℕ)
filled parts = filter (λ part. nat_lt 0 (length part)) parts

-- the words of a line, up to a comment
abbrev pub words_of : List ℕ → List (List ℕ)
words_of line = filled (slice_split is_gap (before_first is_hash line))

-- the lines of what is left of a text
abbrev pub lines_left : Option (Bor (List ℕ)) → List (List ℕ)
lines_left None = []
lines_left (Some rest) = slice_split is_line_end rest.now

-- the parts of what is left of a line
abbrev pub parts_left : Option (Bor (List ℕ)) → List (List ℕ)
parts_left None = []
parts_left (Some rest) = slice_split is_gap rest.now

-- the words that are still to come
abbrev pub words_left : Words → List (List ℕ)
words_left words = filled (parts_left words.rest)

-- the zone of an IPv6 address begins
abbrev pub is_percent : ℕ → Bool
is_percent byte = byte == 37

-- the word is an IPv6 address (RFC 4291, section 2.2), with its zone where it has one (RFC 4007, section 11)
abbrev pub IsIpv6Word : List ℕ → Type 0
IsIpv6Word word = (address : Ipv6Addr) × IsIpv6Text (before_first is_percent word) address

-- these are hosts of these names, all at one address
pub record AreNamed (address : SocketAddrV4) (names : List (List ℕ)) (hosts : List Host) : Type 0 where
  pub are : map (λ host. string_bytes host.name) hosts ≡ names
  pub at : All (λ host. host.address ≡ address) hosts

-- a line of an IPv4 address and one or more names says these hosts, at the port of `http`
pub record IsEntry (first : List ℕ) (names : List (List ℕ)) (hosts : List Host) : Type 0 where
  pub address : SocketAddrV4
  pub ip : IsIpv4Text first (v4_ip address)
  pub port : v4_port address ≡ HTTP_PORT
  pub some : 0 < length names
  pub named : AreNamed address names hosts

-- a line of these words says these hosts: none where it has no words, or where its address is one of IPv6
abbrev pub Says : List (List ℕ) → List Host → Type 0
Says [] hosts = hosts ≡ []
Says (first ∷ names) hosts = (IsIpv6Word first × (hosts ≡ [])) ⊎ ((IsIpv6Word first → ⊥) × IsEntry first names hosts)

-- the line can be read, and can't
abbrev pub IsGoodLine : List ℕ → Type 0
IsGoodLine line = (hosts : List Host) × Says (words_of line) hosts

abbrev pub IsBadLine : List ℕ → Type 0
IsBadLine line = (hosts : List Host) → Says (words_of line) hosts → ⊥

-- the lines say these hosts, one line after the other
abbrev pub AreSaid : List (List ℕ) → List Host → Type 0
AreSaid [] hosts = hosts ≡ []
AreSaid (line ∷ lines) hosts = (first : List Host) × (rest : List Host) × Says (words_of line) first × AreSaid lines rest
    × (hosts ≡ first ++ rest)

-- of lines that are counted from a number on, this is the first that can't be read
abbrev pub IsFirstBad : ℕ → List (List ℕ) → ℕ → Type 0
IsFirstBad from [] number = ⊥
IsFirstBad from (line ∷ lines) number = ((number ≡ from) × IsBadLine line) ⊎ (IsGoodLine line × IsFirstBad (from + 1) lines number)

-- the lines of a text; after the last LF an empty one stands
abbrev pub lines_of : List ℕ → List (List ℕ)
lines_of text = slice_split is_line_end text

-- a text's first line that can't be read
abbrev pub IsBadAt : List ℕ → ℕ → Type 0
IsBadAt text number = IsFirstBad 1 (lines_of text) number

-- A configuration has the names of a text in place of those that its hosts file had, and so many: each is found at the first host of the
-- text that has it. Nothing else changes.
pub record NamesHosts (text : List ℕ) (old new : Config) (count : ℕ) : Type 0 where
  pub hosts : List Host
  pub said : AreSaid (lines_of text) hosts
  pub counted : count ≡ length hosts
  pub found : (name : List ℕ) → address_of_name name new.hosts.file.entries.items ≡ address_of_name name hosts
  pub others : new ≡ record old { hosts = record old.hosts { file = new.hosts.file } }

-- hosts of these names at an address were added, of which there is one at least
abbrev pub AddsNames : SocketAddrV4 → List (List ℕ) → List Host → List Host → Type 0
AddsNames address names old new = (added : List Host) × (new ≡ old ++ added) × (0 < length names) × AreNamed address names added

-- there is no name, or one is no name of any host
abbrev pub HasNoHosts : List (List ℕ) → Type 0
HasNoHosts names = (hosts : List Host) → 0 < length names → map (λ host. string_bytes host.name) hosts ≡ names → ⊥

-- the hosts that a line says were added
abbrev pub AddsLine : List ℕ → List Host → List Host → Type 0
AddsLine line old new = (added : List Host) × (new ≡ old ++ added) × Says (words_of line) added

-- why a text isn't taken
abbrev pub IsHostsFault : List ℕ → HostsFault → Type 0
IsHostsFault text (Line number) = IsBadAt text number
IsHostsFault text NoMemory = ⊤

-- Version 1: a line that people can read (proxy-protocol.txt, section 2.1).
use Rattle.std.specs.Prelude.{◌≡◌, ℕ, ◌<◌, ◌≤◌, List, [], ◌∷◌, ◌++◌, length, codes, Option, Some, None, ◌==◌}
use Rattle.std.specs.List.{slice_split}
use Rattle.std.specs.Net.Grammar.{IsIpv4Text}
use Rattle.std.specs.declared.net.ipv4_addr.Ipv4Addr.{Ipv4Addr}
use Rattle.adapt_bytes.specs.Numeral.{HasNoLeadingZero, Writes}
use Rattle.adapt_bytes.specs.Text.{Lacks}

-- a port, in decimal without leading zeros
pub record IsPort (text : List ℕ) : Type 0 where
  pub port : ℕ
  pub number : Writes 10 text port
  pub fits : port ≤ 65535
  pub plain : HasNoLeadingZero text

-- what stands between the spaces
abbrev pub words : List ℕ → List (List ℕ)
words text = slice_split (λ b. b == 32) text

-- the addresses of a connection and then its ports, those of its source first
pub record IsConnection (text : List ℕ) (from : Ipv4Addr) : Type 0 where
  pub source : List ℕ
  pub target : List ℕ
  pub source_port : List ℕ
  pub target_port : List ℕ
  pub to : Ipv4Addr
  pub words_are : words text ≡ source ∷ target ∷ source_port ∷ target_port ∷ []
  pub source_is : IsIpv4Text source from
  pub target_is : IsIpv4Text target to
  pub source_port_is : IsPort source_port
  pub target_port_is : IsPort target_port

-- a line without its end says where the connection comes from; None where that isn't known, whatever else it says
abbrev pub Says : List ℕ → Option Ipv4Addr → Type 0
Says line None = (rest : List ℕ) × (line ≡ codes "PROXY UNKNOWN" ++ rest)
Says line (Some from) = (text : List ℕ) × (line ≡ codes "PROXY TCP4 " ++ text) × IsConnection text from

-- the header: one line, CRLF at its end
pub record IsLine (header : List ℕ) (from : Option Ipv4Addr) : Type 0 where
  pub line : List ℕ
  pub spelled : header ≡ line ++ 13 ∷ 10 ∷ []
  pub one : Lacks 10 line
  pub short : length header ≤ 107
  pub says : Says line from

-- a line whose end may still come
pub record IsCutLine (bytes : List ℕ) : Type 0 where
  pub rest : List ℕ
  pub front : bytes ≡ codes "PROXY " ++ rest
  pub unended : Lacks 10 bytes
  pub short : length bytes < 107

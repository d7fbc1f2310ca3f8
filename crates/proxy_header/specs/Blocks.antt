-- Version 2: a signature, a command, a family, a length, and so many bytes (proxy-protocol.txt, section 2.2).
use Rattle.std.specs.Prelude.{◌≡◌, ℕ, ◌+◌, ◌*◌, ◌<◌, ◌≤◌, ◌⊎◌, List, [], ◌∷◌, ◌++◌, length, take, Option, Some, None}
use Rattle.std.specs.Net.Addr.{ipv4_octets}
use Rattle.std.specs.declared.net.ipv4_addr.Ipv4Addr.{Ipv4Addr}

abbrev pub signature : List ℕ
signature = 13 ∷ 10 ∷ 13 ∷ 10 ∷ 0 ∷ 13 ∷ 10 ∷ 81 ∷ 85 ∷ 73 ∷ 84 ∷ 10 ∷ []

-- What is said: nothing by LOCAL (0x20), whatever follows, nor by PROXY (0x21) of an unspecified family; by PROXY of TCP over IPv4 (0x11)
-- the source's address, before the target's and both ports. Whatever stands after these is skipped.
abbrev pub Tells : ℕ → ℕ → List ℕ → Option Ipv4Addr → Type 0
Tells command family block None = (command ≡ 32) ⊎ ((command ≡ 33) × (family ≡ 0))
Tells command family block (Some from) = (command ≡ 33) × (family ≡ 17) × (12 ≤ length block) × (ipv4_octets from ≡ take 4 block)

-- the header
pub record IsBlock (header : List ℕ) (from : Option Ipv4Addr) : Type 0 where
  pub command : ℕ
  pub family : ℕ
  pub high : ℕ
  pub low : ℕ
  pub block : List ℕ
  pub spelled : header ≡ signature ++ command ∷ family ∷ high ∷ low ∷ block
  pub counted : length block ≡ high * 256 + low
  pub short : length block ≤ 520
  pub tells : Tells command family block from

-- fewer bytes than the header says, or before it says that
abbrev pub LacksBytes : List ℕ → Type 0
LacksBytes (command ∷ family ∷ high ∷ low ∷ block) = (high * 256 + low ≤ 520) × (length block < high * 256 + low)
LacksBytes [] = Unit {0}
LacksBytes (command ∷ []) = Unit {0}
LacksBytes (command ∷ family ∷ []) = Unit {0}
LacksBytes (command ∷ family ∷ high ∷ []) = Unit {0}

-- a block whose end may still come
pub record IsCutBlock (bytes : List ℕ) : Type 0 where
  pub rest : List ℕ
  pub front : bytes ≡ signature ++ rest
  pub lacks : LacksBytes rest

-- what stands between the signature and the addresses, how many bytes it says that follow, and what follows
abbrev pub IsFixed : List ℕ → (command family count : ℕ) → List ℕ → Type 0
IsFixed rest command family count behind = (high low : ℕ) × (rest ≡ command ∷ family ∷ high ∷ low ∷ behind) × (count ≡ high * 256 + low)

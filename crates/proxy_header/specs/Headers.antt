-- Headers of both versions, and what the first bytes of a connection are.
use Rattle.std.specs.Prelude.{◌≡◌, ℕ, ◌+◌, ◌<◌, ◌⊎◌, List, [], ◌∷◌, ◌++◌, length, codes, Option, Some, None}
use Rattle.std.specs.declared.net.ipv4_addr.Ipv4Addr.{Ipv4Addr}
use Rattle.proxy_header.specs.declared.reading.Reading.{Reading}
use Rattle.proxy_header.specs.declared.reading.Reading.TheVariants.{Whole, Partial, Fault}
use Rattle.proxy_header.specs.declared.reading.Said.{Said}
use Rattle.proxy_header.specs.declared.reading.Said.TheVariants.{From, Unknown, Nothing}
use Rattle.proxy_header.specs.Lines.{IsLine, IsCutLine, Says}
use Rattle.proxy_header.specs.Blocks.{IsBlock, IsCutBlock, signature}

-- a header that says where a connection comes from; None where that is the connection's own address
abbrev pub IsHeader : List ℕ → Option Ipv4Addr → Type 0
IsHeader header from = IsLine header from ⊎ IsBlock header from

-- a part of what a header begins with
abbrev pub IsCutFront : List ℕ → Type 0
IsCutFront bytes = ((more : List ℕ) × (codes "PROXY " ≡ bytes ++ more)) ⊎ ((more : List ℕ) × (signature ≡ bytes ++ more))

-- a part of a header, as far as is known
abbrev pub IsCut : List ℕ → Type 0
IsCut bytes = IsCutFront bytes ⊎ IsCutLine bytes ⊎ IsCutBlock bytes

-- the bytes begin with a header of this length
pub record Begins (Is : List ℕ → Option Ipv4Addr → Type 0) (bytes : List ℕ) (from : Option Ipv4Addr) (size : ℕ) : Type 0 where
  pub header : List ℕ
  pub behind : List ℕ
  pub spelled : bytes ≡ header ++ behind
  pub is : Is header from
  pub counted : length header ≡ size

-- What the bytes are: such a header and what follows it, such a part of one, or neither.
abbrev pub Answers : (List ℕ → Option Ipv4Addr → Type 0) → (List ℕ → Type 0) → List ℕ → Reading → Type 0
Answers Is Cut bytes (Whole header) = Begins Is bytes header.from header.length
Answers Is Cut bytes Partial = Cut bytes
Answers Is Cut bytes Fault = ((from : Option Ipv4Addr) (size : ℕ) → Begins Is bytes from size → ⊥) × (Cut bytes → ⊥)

-- what a header says, where it says something; else it's no header
abbrev pub IsSaid : (Option Ipv4Addr → Type 0) → Said → Type 0
IsSaid Says (From from) = Says (Some from)
IsSaid Says Unknown = Says None
IsSaid Says Nothing = (from : Option Ipv4Addr) → Says from → ⊥

-- a header of this length that says this
abbrev pub is_reading : Said → ℕ → Reading
is_reading (From from) size = Whole (record { from = Some from; length = size })
is_reading Unknown size = Whole (record { from = None; length = size })
is_reading Nothing size = Fault

-- what a line is of which this stands before its line feed
abbrev pub IsRawLine : List ℕ → Reading → Type 0
IsRawLine raw (Whole header) = (line : List ℕ) × (raw ≡ line ++ 13 ∷ []) × Says line header.from × (length raw < 107)
    × (header.length ≡ length raw + 1)
IsRawLine raw Partial = ⊥
IsRawLine raw Fault = (line : List ℕ) (from : Option Ipv4Addr) → raw ≡ line ++ 13 ∷ [] → Says line from → length raw < 107 → ⊥

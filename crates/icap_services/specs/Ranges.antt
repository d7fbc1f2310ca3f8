-- The ranges of the settings.
use Rattle.std.specs.Prelude.{ℕ, ◌≤◌, ◌&&◌, ◌==◌, Bool, not, nat_le, List, length, IsTrue, All}
use Rattle.adapt_bytes.specs.declared.limits.TheConstants.{MAX_CONNECTIONS, MAX_PREVIEW}
use Rattle.icap_services.specs.declared.settings.TheConstants.{MAX_ISTAG, MAX_TTL}

-- a byte of an ISTag without its quotes: printable ASCII, but for the quote and the backslash
abbrev pub is_tag_byte : ℕ → Bool
is_tag_byte b = nat_le 32 b && nat_le b 126 && not (b == 34) && not (b == 92)

-- an ISTag without its quotes (RFC 3507, section 4.7)
abbrev pub IsTag : List ℕ → Type 0
IsTag text = (1 ≤ length text) × (length text ≤ MAX_ISTAG) × All (λ b. IsTrue (is_tag_byte b)) text

-- the ranges of the settings
abbrev pub AreInRange : List ℕ → ℕ → ℕ → ℕ → Type 0
AreInRange istag max ttl preview = IsTag istag × (1 ≤ max) × (max ≤ MAX_CONNECTIONS) × (ttl ≤ MAX_TTL) × (preview ≤ MAX_PREVIEW)

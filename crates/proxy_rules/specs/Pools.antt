-- The connections to a service (RFC 3507, section 4.10.2).
use Rattle.std.specs.Prelude.{ℕ, Bool, not, ◌&&◌, List, length, Option, Some, None, ◌==◌}
use Rattle.adapt_bytes.specs.Fields.{FieldList}
use Rattle.icap_client.specs.Said.{says_close}

-- no raw byte is left over after the answer, and it doesn't say that the connection closes
abbrev pub is_reusable_after : List ℕ → FieldList → Bool
is_reusable_after raw fields = (length raw == 0) && not (says_close fields)

-- what the service says, else what is configured
abbrev pub maximum_of : Option ℕ → ℕ → ℕ
maximum_of None configured = configured
maximum_of (Some said) configured = said

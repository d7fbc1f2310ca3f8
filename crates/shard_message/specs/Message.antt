-- The message whose head comes, or was read.
use Rattle.std.specs.Prelude.{ℕ, Bool, true, false, ◌&&◌, not, List, [], ◌∷◌, Option, Some, None, Box}
use Rattle.std.specs.Box.{box_value}
use Rattle.http_relay.specs.declared.side.head.SourceHead.{SourceHead}
use Rattle.http_relay.specs.declared.side.head.SourceHead.TheVariants.{Unread}
use Rattle.proxy_rules.specs.declared.incoming.Incoming.{Incoming}

-- it wasn't read
abbrev pub is_unread : SourceHead → Bool
is_unread Unread = true
is_unread _ = false

-- there is none of them
abbrev pub is_none : List ℕ → Bool
is_none [] = true
is_none (byte ∷ bytes) = false

-- a byte of its head came
abbrev pub has_come : {A : Type 0} → Option (Box Incoming A) → Bool
has_come None = false
has_come (Some message) = not (is_unread (box_value message).side.head && is_none (box_value message).side.raw.items)

-- Where a configuration comes from.
use Rattle.std.specs.Prelude.{◌≡◌, ◌+◌, ℕ, List, take, ⊤, Option, Some, None, string_bytes, IfSome}
use Rattle.adapt_bytes.specs.declared.limits.TheConstants.{MAX_INPUT}
use Rattle.proxy_commands.specs.declared.error.Error.TheVariants.{NoMemory}
use Rattle.proxy_commands.specs.declared.serve_error.ServeError.{ServeError}
use Rattle.proxy_commands.specs.declared.serve_error.ServeError.TheVariants.{Ended, CannotRead}
use Rattle.proxy_commands.specs.declared.source.Source.{Source}
use Rattle.proxy_commands.specs.declared.source.Source.TheVariants.{Path, Text}

-- the file of this path, where the arguments give one; else all that is left of standard input, as far as it is read
abbrev pub IsSourceOf : Option (List ℕ) → (input : Option (List ℕ)) → Source → Type 0
IsSourceOf (Some path) input (Path named) = string_bytes named ≡ path
IsSourceOf None input (Text text) = IfSome input (λ bytes. text.items ≡ take (MAX_INPUT + 1) bytes)
IsSourceOf _ input _ = ⊥

-- what a source may say: a file may have changed
abbrev pub Says : Source → List ℕ → Type 0
Says (Path path) text = ⊤
Says (Text said) text = text ≡ said.items

-- the error of a file of this path that can't be read
abbrev pub IsOfPath : List ℕ → ServeError → Type 0
IsOfPath path (CannotRead named) = string_bytes named ≡ path
IsOfPath path (Ended NoMemory) = ⊤
IsOfPath path _ = ⊥

-- why a source isn't read: its file can't be, or memory ran out
abbrev pub IsUnread : Source → ServeError → Type 0
IsUnread (Path path) error = IsOfPath (string_bytes path) error
IsUnread (Text said) error = error ≡ Ended NoMemory

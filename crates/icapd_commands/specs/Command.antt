-- The command line.
use Rattle.std.specs.Prelude.{◌≡◌, ℕ, List, [], ◌∷◌, codes}
use Rattle.icapd_commands.specs.declared.command.IcapdCommand.{IcapdCommand}
use Rattle.icapd_commands.specs.declared.command.IcapdCommand.TheVariants.{Once, Serve, Check, Help, Version}

-- the word of a command
abbrev pub word_of : IcapdCommand → List ℕ
word_of Once = codes "once"
word_of Serve = codes "serve"
word_of Check = codes "check"
word_of Help = codes "--help"
word_of Version = codes "--version"

-- the arguments are the command's word alone
abbrev pub IsCommand : List (List ℕ) → IcapdCommand → Type 0
IsCommand words command = words ≡ word_of command ∷ []

-- A run of the program: what it prints for the bytes that it is given.
use Rattle.std.specs.Prelude.{◌≡◌, ℕ, ◌≤◌, ◌<◌, List, length, Option, IfSome}
use Rattle.std.specs.Io.KnownBytes.{Appends}
use Rattle.adapt_bytes.specs.declared.limits.TheConstants.{MAX_INPUT}
use Rattle.proxy_commands.specs.declared.command.Command.{Command}
use Rattle.proxy_commands.specs.declared.command.Command.TheVariants.{Trace, Chunks}
use Rattle.proxy_commands.specs.declared.error.Error.{Error}
use Rattle.proxy_commands.specs.declared.error.Error.TheVariants.{Usage, InputTooLong, Line}
use Rattle.proxy_commands.specs.Answers.{IsOutput}
use Rattle.proxy_commands.specs.Chunks.{IsChunksOutput, IsChunksRefused}
use Rattle.proxy_commands.specs.Lines.{lines_of}
use Rattle.proxy_commands.specs.Script.{IsFirstBad, IsRefused}
use Rattle.proxy_commands.specs.Command.{IsCommand}
use Rattle.proxy_commands.specs.Errors.{status_of}

-- the bytes are the command's output for this input
abbrev pub IsCommandOutput : Command → List ℕ → List ℕ → Type 0
IsCommandOutput Trace input output = (length input ≤ MAX_INPUT) × IsOutput input output
IsCommandOutput (Chunks piece_size) input output = (length input ≤ MAX_INPUT) × IsChunksOutput input output

-- the command refuses this input
abbrev pub RefusesInput : Command → List ℕ → Error → Type 0
RefusesInput Trace input error = IsRefused input error
RefusesInput (Chunks piece_size) input error = IsChunksRefused input error

-- a size of pieces is at least 1
abbrev pub IsRunnable : Command → Type 0
IsRunnable Trace = Unit {0}
IsRunnable (Chunks piece_size) = 1 ≤ piece_size

-- the arguments name a command, and where the input's bytes are known, its output for them has been added to what was printed
abbrev pub PrintsOutput : List (List ℕ) → Option (List ℕ) → Option (List ℕ) → Option (List ℕ) → Type 0
PrintsOutput words known before behind =
    IfSome known (λ input. (command : Command) × (output : List ℕ) × IsCommand words command × IsCommandOutput command input output
    × Appends before behind output)

abbrev pub IsNamed : List (List ℕ) → Type 0
IsNamed words = (command : Command) × IsCommand words command

-- why a run ends without an answer: `usage` goes before the input, its length before its lines
abbrev pub Fails : List (List ℕ) → Option (List ℕ) → Error → Type 0
Fails words known Usage = IsNamed words → ⊥
Fails words known InputTooLong = IsNamed words × IfSome known (λ input. MAX_INPUT < length input)
Fails words known (Line number) = IsCommand words Trace × IfSome known (λ input. (length input ≤ MAX_INPUT)
    × IsFirstBad (lines_of input) number)
Fails words known _ = IsNamed words

-- some error with this status
abbrev pub FailsWith : List (List ℕ) → Option (List ℕ) → ℕ → Type 0
FailsWith words known status = (error : Error) × Fails words known error × (status_of error ≡ status)

-- What is said where a new configuration isn't taken over.
use Rattle.std.specs.Prelude.{◌≡◌, ◌⊎◌, ◌-◌, ℕ, List, [], ◌++◌, ⊤, Some, None, codes, drop, take, length}
use Rattle.adapt_bytes.specs.Numeral.{numeral}
use Rattle.proxy_config.specs.Changes.{fixed_rows, IsFirstChange}
use Rattle.proxy_config.specs.declared.config.Config.{Config as Configuration}
use Rattle.proxy_commands.specs.ServeErrors.{serve_error_text}
use Rattle.proxy_commands.specs.Sources.{Says}
use Rattle.proxy_commands.specs.Whole.{IsWhole, IsWholeFault}
use Rattle.proxy_commands.specs.declared.error.Error.TheVariants.{NoMemory as WithoutMemory}
use Rattle.proxy_commands.specs.declared.serve_error.ServeError.{ServeError}
use Rattle.proxy_commands.specs.declared.serve_error.ServeError.TheVariants.{Ended}
use Rattle.proxy_commands.specs.declared.source.Source.{Source}
use Rattle.proxy_commands.specs.declared.source.Source.TheVariants.{Path, Text}
use Rattle.proxy_commands.specs.declared.whole.WholeFault.{WholeFault}
use Rattle.proxy_commands.specs.declared.whole.WholeFault.TheVariants.{Refused, Hosts, HostsLine, Page, NoMemory}

-- a line of the program without its name and the LF
abbrev pub said_in : List ℕ → List ℕ
said_in line = drop (length (codes "adaptproxy: ")) (take (length line - 1) line)

-- the answer to a fault: that of a text is its line on standard error without the program's name and the LF
abbrev pub Answers : WholeFault → List ℕ → Type 0
Answers (Refused error) line = line ≡ said_in (serve_error_text error)
Answers Hosts line = line ≡ codes "cannot open"
Answers (HostsLine number) line = line ≡ codes "bad line " ++ numeral 10 number
Answers Page line = line ≡ codes "config refusal_pages"
Answers NoMemory line = line ≡ codes "out of memory"

-- the fault of a source that can't be read
abbrev pub IsReadFault : ServeError → WholeFault → Type 0
IsReadFault (Ended WithoutMemory) fault = fault ≡ NoMemory
IsReadFault _ fault = fault ≡ Hosts

-- it is a file
abbrev pub IsFile : Source → Type 0
IsFile (Path path) = ⊤
IsFile (Text said) = ⊥

-- why a source says no configuration: its file can't be read, memory is lacking, or what it says is none
abbrev pub IsSourceFault : Source → WholeFault → Type 0
IsSourceFault source fault = (IsFile source × (fault ≡ Hosts)) ⊎ (fault ≡ NoMemory)
    ⊎ ((text : List ℕ) × Says source text × IsWholeFault text fault)

-- what a source says is a configuration, with so many names, that may take the place of the old one
pub record IsTaken (source : Source) (old new : Configuration) (count : ℕ) : Type 0 where
  pub text : List ℕ
  pub said : Says source text
  pub whole : IsWhole text new count
  pub fixed : IsFirstChange fixed_rows old new None

-- it is one in which this key is the first that differs and can't change, and the line says so
pub record IsRestart (source : Source) (old : Configuration) (line : List ℕ) : Type 0 where
  pub text : List ℕ
  pub new : Configuration
  pub count : ℕ
  pub key : List ℕ
  pub said : Says source text
  pub whole : IsWhole text new count
  pub fixed : IsFirstChange fixed_rows old new (Some key)
  pub says : line ≡ codes "restart " ++ key

-- the answer where a source isn't taken over: none where no memory was found for it
abbrev pub IsNotTaken : Source → (old : Configuration) → (line : List ℕ) → Type 0
IsNotTaken source old line = (line ≡ []) ⊎ ((fault : WholeFault) × IsSourceFault source fault × Answers fault line)
    ⊎ IsRestart source old line

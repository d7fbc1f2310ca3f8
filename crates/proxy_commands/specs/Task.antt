-- The commands of the proxy itself.
use Rattle.std.specs.Prelude.{◌≡◌, ◌≢◌, ◌⊎◌, ℕ, List, [], ◌∷◌, codes, bytes_eq, if◌then◌else◌, Option, Some, None}
use Rattle.proxy_commands.specs.declared.task.Task.{Task}
use Rattle.proxy_commands.specs.declared.task.Task.TheVariants.{Serve, Check, Tell, Probe, Help, Version}

-- the word is that of a task that may stand alone
abbrev pub IsTaskAlone : List ℕ → Task → Type 0
IsTaskAlone word Serve = word ≡ codes "serve"
IsTaskAlone word Check = word ≡ codes "check"
IsTaskAlone word Tell = ⊥
IsTaskAlone word Probe = word ≡ codes "probe"
IsTaskAlone word Help = word ≡ codes "--help"
IsTaskAlone word Version = word ≡ codes "--version"

-- the word is that of a task that takes others after it
abbrev pub IsTaskBefore : List ℕ → Task → Type 0
IsTaskBefore word Tell = word ≡ codes "tell"
IsTaskBefore word Probe = word ≡ codes "probe"
IsTaskBefore word _ = ⊥

-- the word is that of a task that may stand before `--config` and a path alone
abbrev pub IsTaskWithPath : List ℕ → Task → Type 0
IsTaskWithPath word Serve = word ≡ codes "serve"
IsTaskWithPath word Check = word ≡ codes "check"
IsTaskWithPath word Probe = word ≡ codes "probe"
IsTaskWithPath word _ = ⊥

-- the word is that of a task before two words, of which this is the first
abbrev pub IsTaskOfThree : List ℕ → List ℕ → Task → Type 0
IsTaskOfThree word option task = ((option ≡ codes "--config") × IsTaskWithPath word task)
    ⊎ ((option ≢ codes "--config") × IsTaskBefore word task)

-- the arguments are a word, `--config` and a path
abbrev pub HasPathAlone : List (List ℕ) → List ℕ → Type 0
HasPathAlone words word = (path : List ℕ) × (words ≡ word ∷ codes "--config" ∷ path ∷ [])

-- the arguments are a word, which stands alone or before `--config` and a path
abbrev pub IsAlone : List (List ℕ) → List ℕ → Type 0
IsAlone words word = (words ≡ word ∷ []) ⊎ HasPathAlone words word

-- the arguments are `tell` and one word or more, beside `--config` and a path
abbrev pub IsTelling : List (List ℕ) → Type 0
IsTelling words = (first : List ℕ) × (rest : List (List ℕ)) × (words ≡ codes "tell" ∷ first ∷ rest)
    × (HasPathAlone words (codes "tell") → ⊥)

-- the arguments are `probe`, and its choice
abbrev pub IsProbing : List (List ℕ) → Type 0
IsProbing words = (choice : List (List ℕ)) × (words ≡ codes "probe" ∷ choice)

-- the arguments give the task
abbrev pub IsTask : List (List ℕ) → Task → Type 0
IsTask words Tell = IsTelling words
IsTask words Probe = IsProbing words
IsTask words Serve = IsAlone words (codes "serve")
IsTask words Check = IsAlone words (codes "check")
IsTask words Help = (word : List ℕ) × (words ≡ word ∷ []) × IsTaskAlone word Help
IsTask words Version = (word : List ℕ) × (words ≡ word ∷ []) × IsTaskAlone word Version

-- the path of the configuration that the arguments give
abbrev pub config_path : List (List ℕ) → Option (List ℕ)
config_path (task ∷ option ∷ path ∷ rest) = if bytes_eq option (codes "--config") then Some path else None
config_path _ = None

-- the words after a task, and after `--config` and its path
abbrev pub words_after : List (List ℕ) → List (List ℕ)
words_after [] = []
words_after (task ∷ []) = []
words_after (task ∷ word ∷ []) = word ∷ []
words_after (task ∷ option ∷ path ∷ rest) = if bytes_eq option (codes "--config") then rest else option ∷ path ∷ rest

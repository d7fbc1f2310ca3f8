-- What is said to the administrator's port, and what its answer means.
use Rattle.std.specs.Prelude.{ℕ, List, ◌++◌, Bool, ◌||◌, if◌then◌else◌, String, codes, nat_eq, string_bytes, bytes_eq}
use Rattle.std.specs.List.{starts_with, ends_with, join_by}
use Rattle.std.specs.declared.alloc.Global.{Global}

-- the line that words say: a space between each two, and LF at the end
abbrev pub line_of_words : List (String Global) → List ℕ
line_of_words words = join_by string_bytes (codes " ") words ++ codes "\n"

-- the list of exchanges has come to its end: its last line counts them
abbrev pub is_counted : List ℕ → Bool
is_counted answer =
    ends_with nat_eq answer (codes " idle\n") || (ends_with nat_eq answer (codes " left out\n") || bytes_eq answer (codes "bad\n"))

-- the answer to a line has come to its end: counters and a script, which begin with `#`, with `# EOF`, any other one with its line
abbrev pub is_whole : (line : List ℕ) → (answer : List ℕ) → Bool
is_whole line answer = if starts_with nat_eq line (codes "exchanges") then is_counted answer
    else if starts_with nat_eq answer (codes "#") then ends_with nat_eq answer (codes "\n# EOF\n") else ends_with nat_eq answer (codes "\n")

-- the answer refuses a line, or its memory or file
abbrev pub is_refused : List ℕ → Bool
is_refused answer =
    starts_with nat_eq answer (codes "refused ") || (bytes_eq answer (codes "out of memory\n") || bytes_eq answer (codes "cannot open\n"))

-- the answer refuses a new configuration
abbrev pub is_kept : List ℕ → Bool
is_kept answer =
    starts_with nat_eq answer (codes "bad line ")
    || (starts_with nat_eq answer (codes "restart ") || (starts_with nat_eq answer (codes "config") || starts_with nat_eq answer
    (codes "input too long")))

-- the status that an answer gives: 2 where the line is none that the port takes, 1 where nothing was done, else 0
abbrev pub told_status : List ℕ → ℕ
told_status answer = if bytes_eq answer (codes "bad\n") then 2 else if is_refused answer then 1 else if is_kept answer then 1 else 0

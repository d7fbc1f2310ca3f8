-- A script: comments aside, the plan is on the first line, and an event or a question on each line after it.
use Rattle.std.specs.Prelude.{◌≡◌, ℕ, ◌+◌, ◌<◌, ◌≤◌, ◌⊎◌, ⊤, Bool, true, false, List, [], ◌∷◌, ◌++◌, length, Option, Some, None, codes}
use Rattle.trace_core.specs.declared.history.Plan.{Plan}
use Rattle.trace_core.specs.declared.history.Kind.{Kind}
use Rattle.trace_core.specs.declared.history.Kind.TheVariants.{Plain, Whole, Preview}
use Rattle.trace_core.specs.declared.history.Point.TheVariants.{Respmod}
use Rattle.trace_core.specs.Legal.{IsPlanned}
use Rattle.adapt_bytes.specs.declared.limits.TheConstants.{MAX_INPUT}
use Rattle.proxy_commands.specs.declared.script.Line.{Line}
use Rattle.proxy_commands.specs.declared.script.Script.{Script}
use Rattle.proxy_commands.specs.declared.error.Error.{Error}
use Rattle.proxy_commands.specs.declared.error.Error.TheVariants.{InputTooLong, Line as BadLine, NoMemory}
use Rattle.exchange_report.specs.Script.{allow_text}
use Rattle.proxy_commands.specs.Lines.{lines_of, is_comment, said}
use Rattle.proxy_commands.specs.Words.{IsWordsThenNumber, SaysLine}

-- the text names the kind of a plan
abbrev pub SaysKind : List ℕ → Kind → Type 0
SaysKind text Plain = IsWordsThenNumber text (codes "plain") None
SaysKind text Whole = IsWordsThenNumber text (codes "whole") None
SaysKind text (Preview size) = IsWordsThenNumber text (codes "preview") (Some size)

-- the text says how long the body is, where that is known
abbrev pub SaysLength : List ℕ → Option ℕ → Type 0
SaysLength text None = IsWordsThenNumber text [] None
SaysLength text (Some bytes) = IsWordsThenNumber text (codes " len") (Some bytes)

-- the text is the word `plan`, a space, the kind, and then ` allow` or ` retry` or both in this order and ` len N` where they stand
pub record SaysParts (text : List ℕ) (kind : Kind) (allow : Bool × Bool) (len : Option ℕ) : Type 0 where
  pub kind_text : List ℕ
  pub len_text : List ℕ
  pub text_is : text ≡ codes "plan " ++ (kind_text ++ (allow_text allow ++ len_text))
  pub kind_is : SaysKind kind_text kind
  pub len_is : SaysLength len_text len

-- the text is the line of this plan, whose numbers are at most 2^62 - 1;
-- a script doesn't say the vectoring point, which changes no answer
pub record SaysPlan (text : List ℕ) (plan : Plan) : Type 0 where
  pub parts : SaysParts text plan.kind (plan.allow, plan.retry) plan.len
  pub in_range : IsPlanned plan.kind plan.len
  pub point : plan.point ≡ Respmod

-- each text is the line beside it
abbrev pub SaysLines : List (List ℕ) → List Line → Type 0
SaysLines [] [] = ⊤
SaysLines (text ∷ texts) (line ∷ lines) = SaysLine text line × SaysLines texts lines
SaysLines _ _ = ⊥

-- the first text is the plan's, and the others are these lines
abbrev pub SaysAll : List (List ℕ) → Plan → List Line → Type 0
SaysAll [] plan lines = ⊥
SaysAll (first ∷ texts) plan lines = SaysPlan first plan × SaysLines texts lines

-- the text is this script, comments aside
abbrev pub IsScript : List ℕ → Script → Type 0
IsScript text script = SaysAll (said (lines_of text)) script.plan script.lines.items

-- the first of these texts that is neither a comment nor a line of a script has the number n, where they are counted from `from`
abbrev pub IsFirstOther : ℕ → List (List ℕ) → ℕ → Type 0
IsFirstOther from [] n = ⊥
IsFirstOther from (text ∷ texts) n =
    ((is_comment text ≡ true) × IsFirstOther (from + 1) texts n)
    ⊎ (((is_comment text ≡ false) × ((line : Line) → SaysLine text line → ⊥) × (n ≡ from))
    ⊎ ((line : Line) × SaysLine text line × IsFirstOther (from + 1) texts n))

-- the first line of another form has the number n, where these texts are counted from `from`: the plan's is the first that is no
-- comment, and where there is none the line after the last one lacks it
abbrev pub IsBadFrom : ℕ → List (List ℕ) → ℕ → Type 0
IsBadFrom from [] n = n ≡ from
IsBadFrom from (text ∷ texts) n =
    ((is_comment text ≡ true) × IsBadFrom (from + 1) texts n)
    ⊎ (((is_comment text ≡ false) × ((plan : Plan) → SaysPlan text plan → ⊥) × (n ≡ from))
    ⊎ ((plan : Plan) × SaysPlan text plan × IsFirstOther (from + 1) texts n))

-- the first line of another form has the number n
abbrev pub IsFirstBad : List (List ℕ) → ℕ → Type 0
IsFirstBad texts n = IsBadFrom 1 texts n

-- why a text is refused as a script: its length goes before its lines, and both go before want of memory
abbrev pub IsRefused : List ℕ → Error → Type 0
IsRefused text InputTooLong = MAX_INPUT < length text
IsRefused text (BadLine number) = (length text ≤ MAX_INPUT) × IsFirstBad (lines_of text) number
IsRefused text NoMemory = (length text ≤ MAX_INPUT) × ((plan : Plan) × (lines : List Line) × SaysAll (said (lines_of text)) plan lines)
IsRefused text _ = ⊥

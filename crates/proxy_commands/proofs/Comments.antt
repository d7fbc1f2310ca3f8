-- Comments are passed over, and no line of a script is one.
use Rattle.std.proofs.Common.{◌≡◌, ℕ, true, false, List, ◌∷◌, Option, Some, None, if◌then◌else◌, codes, ap, ◌∙◌, refl}
use Rattle.trace_core.specs.declared.history.Plan.{Plan}
use Rattle.trace_core.specs.declared.history.Event.TheVariants.{In, End, Svc, Stop, Heard, Continue, NoMod, Mod, Ad, AdEnd, Usr, Done, Fail}
use Rattle.trace_core.specs.declared.history.Event.TheVariants.{Retry}
use Rattle.trace_core.specs.declared.history.Payload.TheVariants.{Body, NullBody}
use Rattle.trace_core.specs.declared.tape.Tape.TheVariants.{Original, Adapted}
use Rattle.exchange_report.specs.Script.{event_number}
use Rattle.proxy_commands.specs.declared.script.Line.{Line}
use Rattle.proxy_commands.specs.declared.script.Line.TheVariants.{Step, Need}
use Rattle.proxy_commands.specs.Lines.{is_comment, said}
use Rattle.proxy_commands.specs.Words.{SaysLine, IsWordsThenNumber}
use Rattle.proxy_commands.specs.Script.{SaysPlan}

-- where the first line is a comment, what is said is what the others say
pub passed : (text : List ℕ) (texts : List (List ℕ)) → is_comment text ≡ true → said (text ∷ texts) ≡ said texts
passed text texts e = ap (λ b. if b then said texts else text ∷ said texts) e

-- where it is none, it is the first that says something
pub kept : (text : List ℕ) (texts : List (List ℕ)) → is_comment text ≡ false → said (text ∷ texts) ≡ text ∷ said texts
kept text texts e = ap (λ b. if b then said texts else text ∷ said texts) e

-- words that don't begin with `#`, and what may follow them
worded : (b : ℕ) (words text : List ℕ) (number : Option ℕ) → is_comment (b ∷ words) ≡ false → IsWordsThenNumber text (b ∷ words) number
    → is_comment text ≡ false
worded b words text None e h = ap is_comment h ∙ e
worded b words text (Some n) e h = ap is_comment h.1 ∙ e

-- a line of a script is no comment
pub line_says : (text : List ℕ) (line : Line) → SaysLine text line → is_comment text ≡ false
line_says text (Step (In n)) h = worded 105 (codes "n") text (Some n) refl h
line_says text (Step End) h = worded 101 (codes "nd") text None refl h
line_says text (Step (Svc n)) h = worded 115 (codes "vc") text (Some n) refl h
line_says text (Step Stop) h = worded 115 (codes "top") text None refl h
line_says text (Step Heard) h = worded 104 (codes "eard") text None refl h
line_says text (Step Continue) h = worded 49 (codes "00") text None refl h
line_says text (Step NoMod) h = worded 50 (codes "04") text None refl h
line_says text (Step (Mod Body)) h = worded 50 (codes "00") text None refl h
line_says text (Step (Mod NullBody)) h = worded 50 (codes "00 null") text None refl h
line_says text (Step (Ad n)) h = worded 97 (codes "d") text (Some n) refl h
line_says text (Step AdEnd) h = worded 97 (codes "dend") text None refl h
line_says text (Step (Usr n)) h = worded 117 (codes "sr") text (Some n) refl h
line_says text (Step Done) h = worded 100 (codes "one") text None refl h
line_says text (Step (Fail cause)) h = worded 102 (codes "ail") text (event_number (Fail cause)) refl h
line_says text (Step Retry) h = worded 114 (codes "etry") text None refl h
line_says text (Need Original place) h = worded 110 (codes "eed original") text (Some place) refl h
line_says text (Need Adapted place) h = worded 110 (codes "eed adapted") text (Some place) refl h

-- nor is a plan's line
pub plan_says : (text : List ℕ) (plan : Plan) → SaysPlan text plan → is_comment text ≡ false
plan_says text plan h = ap is_comment h.parts.text_is

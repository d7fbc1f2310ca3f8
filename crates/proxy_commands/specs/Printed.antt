-- The script that is printed of a history: what it says, and what comes of it when it is run.
use Rattle.std.specs.Prelude.{◌≡◌, ℕ, List, [], ◌∷◌, ◌++◌, map, reverse, codes}
use Rattle.trace_core.specs.declared.history.Plan.{Plan}
use Rattle.trace_core.specs.declared.history.Point.TheVariants.{Respmod}
use Rattle.trace_core.specs.declared.history.Event.{Event}
use Rattle.trace_core.specs.declared.history.Seen.{Seen}
use Rattle.trace_core.specs.declared.tape.Tape.TheVariants.{Original, Adapted}
use Rattle.trace_core.specs.History.{seen}
use Rattle.trace_core.specs.Legal.{MayFollow}
use Rattle.trace_core.specs.Norm.{norm}
use Rattle.trace_core.specs.Faults.{first_fault}
use Rattle.trace_core.specs.Held.{held_original, held_adapted}
use Rattle.exchange_report.specs.declared.caption.Caption.{Caption}
use Rattle.exchange_report.specs.Live.{exchange_script}
use Rattle.exchange_report.specs.Script.{ends_of}
use Rattle.proxy_commands.specs.declared.script.Line.{Line}
use Rattle.proxy_commands.specs.declared.script.Line.TheVariants.{Step, Need}

-- what stands after a script that is sent: whoever reads it knows that it is whole
abbrev pub last_comment : List ℕ
last_comment = codes "# EOF\n"

-- the script of an exchange as it is sent to the administrator
abbrev pub sent_script : Caption → Plan → List Event → List ℕ
sent_script caption plan events = exchange_script caption plan events ++ last_comment

-- the plan that a script says: it leaves out the vectoring point
abbrev pub said_plan : Plan → Plan
said_plan plan = record plan { point = Respmod }

-- the lines after it: the events as steps, the oldest first, and a question for the first and for the last held byte of each body
abbrev pub printed_lines : Plan → List Event → List Line
printed_lines plan events =
    map Step (reverse events)
    ++ (map (Need Original) (ends_of (held_original (seen plan events))) ++ map (Need Adapted) (ends_of (held_adapted (seen plan events))))

-- each of these events may follow, the first of them first, where a transaction keeps what happened in short form after each, and
-- after the last of them it keeps this
abbrev pub Runs : Plan → (before : List Event) → (events : List Event) → (kept : List Event) → Type 0
Runs plan before [] kept = kept ≡ before
Runs plan before (event ∷ events) kept = MayFollow plan before event × Runs plan (norm (event ∷ before)) events kept

-- the same places are held, and each event is refused with the same fault, or may follow both
pub record AnswersAlike (x y : Seen) : Type 0 where
  pub original : held_original x ≡ held_original y
  pub adapted : held_adapted x ≡ held_adapted y
  pub fault : (event : Event) → first_fault x event ≡ first_fault y event

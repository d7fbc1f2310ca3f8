-- What is printed for a script.
use Rattle.std.specs.Prelude.{◌≡◌, ℕ, List, [], ◌∷◌, ◌++◌, Option, Some, None, if◌then◌else◌, codes}
use Rattle.adapt_bytes.specs.Numeral.{numeral}
use Rattle.trace_core.specs.declared.history.Plan.{Plan}
use Rattle.trace_core.specs.declared.history.Event.{Event}
use Rattle.trace_core.specs.declared.history.StepFault.{StepFault}
use Rattle.trace_core.specs.declared.history.Answer.{Answer}
use Rattle.trace_core.specs.declared.history.Answer.TheVariants.{Held, Fault}
use Rattle.trace_core.specs.declared.history.Seen.{Seen}
use Rattle.trace_core.specs.History.{seen}
use Rattle.trace_core.specs.Faults.{first_fault, fault_number, fault_name}
use Rattle.trace_core.specs.Held.{held_original}
use Rattle.trace_core.specs.Run.{shown_adapted}
use Rattle.trace_core.specs.View.{answer_to, after_answer}
use Rattle.trace_core.specs.declared.tape.Tape.{Tape}
use Rattle.exchange_report.specs.Script.{range_text, event_text}
use Rattle.need_witness.specs.Needs.{is_held}
use Rattle.need_witness.specs.Table.{script_of}
use Rattle.proxy_commands.specs.declared.script.Line.{Line}
use Rattle.proxy_commands.specs.declared.script.Line.TheVariants.{Step, Need}
use Rattle.proxy_commands.specs.Lines.{lines_of, said}
use Rattle.proxy_commands.specs.Script.{SaysAll}

-- Texts.

abbrev pub adapted_text : Option (ℕ × ℕ) → List ℕ
adapted_text None = []
adapted_text (Some range) = codes " adapted " ++ range_text range

-- the answer to an event
abbrev pub answer_text : Answer → List ℕ
answer_text (Held original adapted) = codes "held " ++ range_text original ++ adapted_text adapted ++ codes "\n"
answer_text (Fault fault) = codes "fault " ++ numeral 10 (fault_number fault) ++ codes " " ++ fault_name fault ++ codes "\n"

-- answers, one after another
abbrev pub answers_text : List Answer → List ℕ
answers_text [] = []
answers_text (answer ∷ answers) = answer_text answer ++ answers_text answers

-- each event after a space
abbrev pub events_text : List Event → List ℕ
events_text [] = []
events_text (event ∷ events) = codes " " ++ event_text event ++ events_text events

-- the answer to a question for a script
abbrev pub script_text : Option (List Event) → List ℕ
script_text None = codes "none\n"
script_text (Some events) = codes "script" ++ events_text events ++ codes "\n"

-- Answers, by what has happened: a plan and the accepted events, the newest first.

abbrev pub answer_behind : Plan → List Event → Event → Option StepFault → Answer
answer_behind plan before event None = Held (held_original (seen plan (event ∷ before))) (shown_adapted (seen plan (event ∷ before)))
answer_behind plan before event (Some fault) = Fault fault

-- an event is refused by the first fault that stands; else what is held after it is said
abbrev pub answer_of : Plan → List Event → Event → Answer
answer_of plan before event = answer_behind plan before event (first_fault (seen plan before) event)

abbrev pub accepted_by : List Event → Event → Option StepFault → List Event
accepted_by before event None = event ∷ before
accepted_by before event (Some fault) = before

-- a refused event leaves no trace
abbrev pub accepted_with : Plan → List Event → Event → List Event
accepted_with plan before event = accepted_by before event (first_fault (seen plan before) event)

-- the script of the table for a place that is held, and `None` for any other
abbrev pub needed_script : Tape → Seen → ℕ → Option (List Event)
needed_script tape x place = if is_held tape x place then Some (script_of tape x place) else None

-- what is printed for lines after these events
abbrev pub output_after : Plan → List Event → List Line → List ℕ
output_after plan before [] = []
output_after plan before (Step event ∷ lines) = answer_text (answer_of plan before event)
    ++ output_after plan (accepted_with plan before event) lines
output_after plan before (Need tape place ∷ lines) =
    script_text (needed_script tape (seen plan before) place) ++ output_after plan before lines

-- what is printed for a script
abbrev pub output_of : Plan → List Line → List ℕ
output_of plan lines = output_after plan [] lines

-- What is printed, by what a history shows alone.

-- what is printed for a line
abbrev pub line_output : Seen → Line → List ℕ
line_output x (Step event) = answer_text (answer_to x event)
line_output x (Need tape place) = script_text (needed_script tape x place)

-- what is shown after it
abbrev pub seen_behind : Seen → Line → Seen
seen_behind x (Step event) = after_answer x event
seen_behind x (Need tape place) = x

abbrev pub output_from : Seen → List Line → List ℕ
output_from x [] = []
output_from x (line ∷ lines) = line_output x line ++ output_from (seen_behind x line) lines

-- the bytes are what is printed for the script that the text is
abbrev pub IsOutput : List ℕ → List ℕ → Type 0
IsOutput text output = (plan : Plan) × (lines : List Line) × SaysAll (said (lines_of text)) plan lines × (output ≡ output_of plan lines)

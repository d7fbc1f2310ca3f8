-- A history as a script has it: the plan on a line, each event on a line, and the places that are asked for after them.
use Rattle.std.specs.Prelude.{ℕ, ◌+◌, ◌-◌, Bool, true, false, List, [], ◌∷◌, ◌++◌, Option, Some, None, nat_lt, reverse, if◌then◌else◌}
use Rattle.std.specs.Prelude.{codes}
use Rattle.adapt_bytes.specs.Numeral.{numeral}
use Rattle.trace_core.specs.declared.history.Plan.{Plan}
use Rattle.trace_core.specs.declared.history.Kind.{Kind}
use Rattle.trace_core.specs.declared.history.Kind.TheVariants.{Plain, Whole, Preview}
use Rattle.trace_core.specs.declared.history.Event.{Event}
use Rattle.trace_core.specs.declared.history.Event.TheVariants.{In, End, Svc, Stop, Heard, Continue, NoMod, Mod, Ad, AdEnd, Usr, Done, Fail}
use Rattle.trace_core.specs.declared.history.Event.TheVariants.{Retry}
use Rattle.trace_core.specs.declared.history.Payload.TheVariants.{Body, NullBody}
use Rattle.trace_core.specs.declared.history.Cause.{Cause}
use Rattle.trace_core.specs.declared.history.Cause.TheVariants.{Source, Service, NextHop, Memory, Deadline, Stopping}
use Rattle.trace_core.specs.declared.tape.Tape.{Tape}
use Rattle.trace_core.specs.declared.tape.Tape.TheVariants.{Original, Adapted}
use Rattle.trace_core.specs.declared.history.Seen.{Seen}
use Rattle.trace_core.specs.Held.{held_original, held_adapted}

-- a number after a space, with no leading zero
abbrev pub printed_number : Option ℕ → List ℕ
printed_number None = []
printed_number (Some n) = 32 ∷ numeral 10 n

-- a range of offsets, the second one not in it
abbrev pub range_text : ℕ × ℕ → List ℕ
range_text range = numeral 10 range.0 ++ codes ".." ++ numeral 10 range.1

-- The plan.

abbrev pub kind_text : Kind → List ℕ
kind_text Plain = codes "plain"
kind_text Whole = codes "whole"
kind_text (Preview size) = codes "preview" ++ printed_number (Some size)

-- whether the request carries `Allow: 204`, and whether it may begin anew
abbrev pub allow_text : Bool × Bool → List ℕ
allow_text (true, true) = codes " allow retry"
allow_text (true, false) = codes " allow"
allow_text (false, true) = codes " retry"
allow_text (false, false) = []

-- how long the body is, where that is known
abbrev pub length_text : Option ℕ → List ℕ
length_text None = []
length_text (Some bytes) = codes " len" ++ printed_number (Some bytes)

-- the plan, without its point
abbrev pub plan_text : Plan → List ℕ
plan_text plan = codes "plan " ++ kind_text plan.kind ++ allow_text (plan.allow, plan.retry) ++ length_text plan.len

-- The events.

-- the word of an event; a 200 with null-body has two words
abbrev pub event_word : Event → List ℕ
event_word (In n) = codes "in"
event_word End = codes "end"
event_word (Svc n) = codes "svc"
event_word Stop = codes "stop"
event_word Heard = codes "heard"
event_word Continue = codes "100"
event_word NoMod = codes "204"
event_word (Mod Body) = codes "200"
event_word (Mod NullBody) = codes "200 null"
event_word (Ad n) = codes "ad"
event_word AdEnd = codes "adend"
event_word (Usr n) = codes "usr"
event_word Done = codes "done"
event_word (Fail cause) = codes "fail"
event_word Retry = codes "retry"

abbrev pub cause_number : Cause → ℕ
cause_number Source = 1
cause_number Service = 2
cause_number NextHop = 3
cause_number Memory = 4
cause_number Deadline = 5
cause_number Stopping = 6

-- the number after the word of an event, if it has one
abbrev pub event_number : Event → Option ℕ
event_number (In n) = Some n
event_number (Svc n) = Some n
event_number (Ad n) = Some n
event_number (Usr n) = Some n
event_number (Fail cause) = Some (cause_number cause)
event_number _ = None

abbrev pub event_text : Event → List ℕ
event_text event = event_word event ++ printed_number (event_number event)

-- events in the order in which they happened, each on its line
abbrev pub events_lines : List Event → List ℕ
events_lines [] = []
events_lines (event ∷ events) = event_text event ++ codes "\n" ++ events_lines events

-- the plan on its line, and each event of a history on its line, the oldest first
unfoldable pub history_text : Plan → List Event → List ℕ
history_text plan events = plan_text plan ++ codes "\n" ++ events_lines (reverse events)

-- The places that are asked for.

abbrev pub need_words : Tape → List ℕ
need_words Original = codes "need original"
need_words Adapted = codes "need adapted"

-- a question for a script that sends this place
abbrev pub need_text : Tape → ℕ → List ℕ
need_text tape place = need_words tape ++ printed_number (Some place)

-- the first and the last place of a range: one where both are one, and none where it is empty
abbrev pub ends_of : ℕ × ℕ → List ℕ
ends_of range =
    if nat_lt range.0 range.1
    then (if nat_lt (range.0 + 1) range.1 then range.0 ∷ (range.1 - 1) ∷ [] else range.0 ∷ [])
    else []

-- a line for each of these places
abbrev pub needs_lines : Tape → List ℕ → List ℕ
needs_lines tape [] = []
needs_lines tape (place ∷ places) = need_text tape place ++ codes "\n" ++ needs_lines tape places

-- a question for the first and for the last byte that is held of each body
unfoldable pub needs_text : Seen → List ℕ
needs_text x = needs_lines Original (ends_of (held_original x)) ++ needs_lines Adapted (ends_of (held_adapted x))

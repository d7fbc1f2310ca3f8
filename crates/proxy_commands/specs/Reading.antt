-- What is read from a line, by cases: the first word with which it begins decides.
-- The forms themselves are those of `Words` and `Script`; a law says that both agree.
use Rattle.std.specs.Prelude.{ℕ, ◌^◌, Bool, true, false, ◌&&◌, List, [], ◌∷◌, length, take, drop, Option, Some, None, option_and_then}
use Rattle.std.specs.Prelude.{if◌then◌else◌, ◌==◌, nat_lt, codes}
use Rattle.std.specs.List.{list_all}
use Rattle.std.specs.Char.{digit_value}
use Rattle.std.specs.Str.{bytes_eq}
use Rattle.std.specs.Str.Parse.{digits_value}
use Rattle.trace_core.specs.declared.history.Event.{Event}
use Rattle.trace_core.specs.declared.history.Event.TheVariants.{In, End, Svc, Stop, Heard, Continue, NoMod, Mod, Ad, AdEnd, Usr, Done, Fail}
use Rattle.trace_core.specs.declared.history.Event.TheVariants.{Retry}
use Rattle.trace_core.specs.declared.history.Payload.TheVariants.{Body, NullBody}
use Rattle.trace_core.specs.declared.history.Cause.{Cause}
use Rattle.trace_core.specs.declared.history.Cause.TheVariants.{Source, Service, NextHop, Memory, Deadline, Stopping}
use Rattle.trace_core.specs.declared.history.Kind.{Kind}
use Rattle.trace_core.specs.declared.history.Kind.TheVariants.{Plain, Whole, Preview}
use Rattle.trace_core.specs.declared.tape.Tape.TheVariants.{Original, Adapted}
use Rattle.proxy_commands.specs.declared.script.Line.{Line}
use Rattle.proxy_commands.specs.declared.script.Line.TheVariants.{Step, Need}

-- the number that the digits write, where it is at most 2^64 - 1
unfoldable pub decimal_of : List ℕ → Option ℕ
decimal_of digits =
    if nat_lt 0 (length digits) && (list_all (λ c. nat_lt (digit_value c) 10) digits && nat_lt (digits_value 10 digits) (2 ^ 64))
    then Some (digits_value 10 digits) else None

-- what follows this prefix
abbrev pub behind : List ℕ → List ℕ → Option (List ℕ)
behind front text = if bytes_eq (take (length front) text) front then Some (drop (length front) text) else None

-- an event that is a word alone
unfoldable pub mark_of : List ℕ → Option Event
mark_of text =
    if bytes_eq text (codes "end") then Some End
    else (if bytes_eq text (codes "stop") then Some Stop
    else (if bytes_eq text (codes "heard") then Some Heard
    else (if bytes_eq text (codes "100") then Some Continue
    else (if bytes_eq text (codes "204") then Some NoMod
    else (if bytes_eq text (codes "200") then Some (Mod Body)
    else (if bytes_eq text (codes "200 null") then Some (Mod NullBody)
    else (if bytes_eq text (codes "adend") then Some AdEnd
    else (if bytes_eq text (codes "done") then Some Done
    else (if bytes_eq text (codes "retry") then Some Retry
    else None)))))))))

unfoldable pub cause_of : ℕ → Option Cause
cause_of n =
    if n == 1 then Some Source
    else (if n == 2 then Some Service
    else (if n == 3 then Some NextHop
    else (if n == 4 then Some Memory
    else (if n == 5 then Some Deadline
    else (if n == 6 then Some Stopping
    else None)))))

-- a line of this prefix and a number, else what the other forms say
abbrev pub or_number : Option (List ℕ) → (ℕ → Option Line) → Option Line → Option Line
or_number None make other = other
or_number (Some digits) make other = option_and_then make (decimal_of digits)

abbrev pub fail_of : Option Cause → Option Line
fail_of None = None
fail_of (Some cause) = Some (Step (Fail cause))

-- a line with a number
unfoldable pub numbered_of : List ℕ → Option Line
numbered_of text =
    or_number (behind (codes "in ") text) (λ n. Some (Step (In n)))
    (or_number (behind (codes "svc ") text) (λ n. Some (Step (Svc n)))
    (or_number (behind (codes "ad ") text) (λ n. Some (Step (Ad n)))
    (or_number (behind (codes "usr ") text) (λ n. Some (Step (Usr n)))
    (or_number (behind (codes "fail ") text) (λ n. fail_of (cause_of n))
    (or_number (behind (codes "need original ") text) (λ n. Some (Need Original n))
    (or_number (behind (codes "need adapted ") text) (λ n. Some (Need Adapted n))
    None))))))

abbrev pub step_or : Option Event → Option Line → Option Line
step_or None other = other
step_or (Some event) other = Some (Step event)

-- a line after the plan
unfoldable pub line_of : List ℕ → Option Line
line_of text = step_or (mark_of text) (numbered_of text)

-- the text up to its first space, and from there on
abbrev pub up_to_space : List ℕ → List ℕ
up_to_space [] = []
up_to_space (b ∷ text) = if b == 32 then [] else b ∷ up_to_space text

abbrev pub from_space : List ℕ → List ℕ
from_space [] = []
from_space (b ∷ text) = if b == 32 then b ∷ text else from_space text

abbrev pub preview_of : Option ℕ → List ℕ → Option (Kind × List ℕ)
preview_of None rest = None
preview_of (Some size) rest = Some (Preview size, rest)

abbrev pub sized_of : Option (List ℕ) → Option (Kind × List ℕ)
sized_of None = None
sized_of (Some text) = preview_of (decimal_of (up_to_space text)) (from_space text)

abbrev pub kind_or : Option (List ℕ) → Kind → Option (Kind × List ℕ) → Option (Kind × List ℕ)
kind_or None kind other = other
kind_or (Some rest) kind other = Some (kind, rest)

-- the kind at the beginning of the text, and what follows it
unfoldable pub kind_of : List ℕ → Option (Kind × List ℕ)
kind_of text =
    kind_or (behind (codes "plain") text) Plain
    (kind_or (behind (codes "whole") text) Whole
    (sized_of (behind (codes "preview ") text)))

abbrev pub known_length : Option ℕ → Option (Option ℕ)
known_length None = None
known_length (Some bytes) = Some (Some bytes)

abbrev pub length_behind : Option (List ℕ) → Option (Option ℕ)
length_behind None = None
length_behind (Some digits) = known_length (decimal_of digits)

-- the length of the body: `None` for an empty text
unfoldable pub length_of : List ℕ → Option (Option ℕ)
length_of [] = Some None
length_of (b ∷ text) = length_behind (behind (codes " len ") (b ∷ text))

abbrev pub allow_or : Option (List ℕ) → Bool × Bool → (Bool × Bool) × List ℕ → (Bool × Bool) × List ℕ
allow_or None allow other = other
allow_or (Some rest) allow other = (allow, rest)

-- whether the request carries `Allow: 204`, whether it may begin anew, and what follows that
abbrev pub allow_of : List ℕ → (Bool × Bool) × List ℕ
allow_of text =
    allow_or (behind (codes " allow retry") text) (true, true)
    (allow_or (behind (codes " allow") text) (true, false)
    (allow_or (behind (codes " retry") text) (false, true)
    ((false, false), text)))

abbrev pub with_length : Kind → Bool × Bool → Option (Option ℕ) → Option (Kind × (Bool × Bool) × Option ℕ)
with_length kind allow None = None
with_length kind allow (Some len) = Some (kind, allow, len)

abbrev pub with_options : Kind → (Bool × Bool) × List ℕ → Option (Kind × (Bool × Bool) × Option ℕ)
with_options kind options = with_length kind options.0 (length_of options.1)

abbrev pub with_kind : Option (Kind × List ℕ) → Option (Kind × (Bool × Bool) × Option ℕ)
with_kind None = None
with_kind (Some found) = with_options found.0 (allow_of found.1)

abbrev pub with_plan : Option (List ℕ) → Option (Kind × (Bool × Bool) × Option ℕ)
with_plan None = None
with_plan (Some text) = with_kind (kind_of text)

-- the kind, whether 204 is allowed and whether the request may begin anew, and the length, as a plan's line names them
unfoldable pub parts_of : List ℕ → Option (Kind × (Bool × Bool) × Option ℕ)
parts_of text = with_plan (behind (codes "plan ") text)

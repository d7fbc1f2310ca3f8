-- What came of a message that a service was tried with.
use Rattle.std.specs.Prelude.{ℕ, ◌/◌, ◌%◌, ◌==◌, if◌then◌else◌, Bool, true, false, List, [], ◌∷◌, ◌++◌, Option, Some, None, codes}
use Rattle.adapt_bytes.specs.Numeral.{numeral, three_digits}
use Rattle.service_probe.specs.Text.{escaped_text}
use Rattle.service_probe.specs.declared.finding.ProbeOutcome.{ProbeOutcome}
use Rattle.service_probe.specs.declared.finding.ProbeOutcome.TheVariants as came
use Rattle.service_probe.specs.declared.finding.Finding.{Finding}
use Rattle.service_probe.specs.declared.attempt.ProbeAttempt.{ProbeAttempt}
use Rattle.service_probe.specs.declared.report.ConnectionUse.{ConnectionUse}
use Rattle.service_probe.specs.declared.report.ConnectionUse.TheVariants as ways
use Rattle.adapt_sides.specs.declared.fault.ClientFault.{ClientFault}
use Rattle.adapt_sides.specs.declared.fault.ClientFault.TheVariants as sides
use Rattle.service_probe.specs.declared.finding.Fault.{Fault}
use Rattle.service_probe.specs.declared.finding.Fault.TheVariants.{Refused, Head, Layout, Chunk, NotLegal, Status, Closed, Device, Deadline}
use Rattle.service_probe.specs.declared.finding.Fault.TheVariants.{Message, LeftOver, NoMethods, NoTag, Number, Encapsulated, System}

-- the fault of the service's side
abbrev pub fault_of_side : ClientFault → Fault
fault_of_side sides.Head = Head
fault_of_side sides.Layout = Layout
fault_of_side sides.Chunk = Chunk
fault_of_side sides.NotLegal = NotLegal
fault_of_side sides.Status = Status
fault_of_side sides.Closed = Closed
fault_of_side sides.Device = Device
fault_of_side sides.NoMemory = System

-- its name, and what it is
abbrev pub fault_words : Fault → List ℕ
fault_words Refused = codes "Refused: no connection can be had"
fault_words Head = codes "Head: no ICAP head"
fault_words Layout = codes "Layout: the Encapsulated list, or a part that it names, is broken"
fault_words Chunk = codes "Chunk: a broken chunk"
fault_words NotLegal = codes "NotLegal: a reply that may not come there"
fault_words Status = codes "Status: a status that isn't taken"
fault_words Closed = codes "Closed: the connection ended before the reply was whole"
fault_words Device = codes "Device: the connection failed"
fault_words Deadline = codes "Deadline: nothing moved for too long"
fault_words Message = codes "Message: the adapted message's head is none of HTTP"
fault_words LeftOver = codes "LeftOver: bytes after the reply, that no request asked for"
fault_words NoMethods = codes "NoMethods: Methods is missing, or lacks the method"
fault_words NoTag = codes "NoTag: ISTag is missing, empty or too long"
fault_words Number = codes "Number: Preview, Max-Connections or Options-TTL is no good number"
fault_words Encapsulated = codes "Encapsulated: the list is none of an OPTIONS answer"
fault_words System = codes "System: this machine has no memory for it, or its clock fails"

-- the octets that broke a rule, where some came
abbrev pub octets_text : List ℕ → List ℕ
octets_text [] = []
octets_text (b ∷ octets) = (codes " \"" ++ escaped_text (b ∷ octets)) ++ codes "\""

-- a fault, the offset, and the octets from there on
abbrev pub finding_text : Finding → List ℕ
finding_text f = (((codes "fault " ++ fault_words f.fault) ++ codes ", at octet ") ++ numeral 10 f.at) ++ octets_text f.octets.items

-- what stands after a status that came after a 100, or didn't
abbrev pub after_text : Bool → List ℕ
after_text true = codes " after 100"
after_text false = []

abbrev pub size_text : ℕ → List ℕ
size_text n = if n == 1 then codes "1 byte" else numeral 10 n ++ codes " bytes"

-- what stands between the status of a page and its size
abbrev pub page_words : Bool → List ℕ
page_words true = codes " after 100 with a page of "
page_words false = codes " with a page of "

-- what came of a message
abbrev pub came_text : ProbeOutcome → List ℕ
came_text came.Options = codes "200"
came_text (came.Unchanged continued) = codes "204" ++ after_text continued
came_text (came.Changed continued bytes) = ((codes "200" ++ after_text continued) ++ codes " with ") ++ size_text bytes
came_text (came.Page continued status bytes) = (numeral 10 status ++ page_words continued) ++ size_text bytes
came_text (came.Broken finding) = finding_text finding

-- microseconds as milliseconds
abbrev pub time_text : ℕ → List ℕ
time_text micros = ((numeral 10 (micros / 1000) ++ codes ".") ++ three_digits (micros % 1000)) ++ codes " ms"

abbrev pub way_text : ConnectionUse → List ℕ
way_text ways.Kept = codes "kept"
way_text ways.Fresh = codes "fresh"

abbrev pub body_text : Option ℕ → List ℕ
body_text None = []
body_text (Some size) = (codes " (" ++ size_text size) ++ codes ")"

abbrev pub serves_text : Bool → List ℕ
serves_text true = codes "; serves again\n"
serves_text false = codes "; doesn't serve again\n"

-- over which connection a message went, its name, and the size of its body
unfoldable pub trial_text : ConnectionUse → List ℕ → Option ℕ → List ℕ
trial_text way name size = (((codes "  " ++ way_text way) ++ codes " ") ++ name) ++ body_text size

-- what came of it, how long that took, and whether the connection serves again
unfoldable pub answer_text : ProbeAttempt → List ℕ
answer_text a = (((codes ": " ++ came_text a.came) ++ codes "; ") ++ time_text a.micros) ++ serves_text a.serves

-- the line of an attempt
abbrev pub attempt_text : ConnectionUse → List ℕ → Option ℕ → ProbeAttempt → List ℕ
attempt_text way name size a = trial_text way name size ++ answer_text a

-- a number, and words
unfoldable pub counted_text : ℕ → List ℕ → List ℕ
counted_text number words = numeral 10 number ++ words

-- the last line: how many answers came, and how many of them broke a rule
abbrev pub tally_text : ℕ → ℕ → List ℕ
tally_text all broken = counted_text all (codes " answers, of which ") ++ counted_text broken (codes " broke a rule\n")

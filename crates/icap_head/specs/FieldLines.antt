-- The field lines of a head and the empty line after them (RFC 9112, section 5), as `httparse` reads them.
use Rattle.std.specs.Prelude.{◌≡◌, ℕ, ◌≤◌, ◌⊎◌, List, length, map, nat_lt, if◌then◌else◌, ◌==◌}
use Rattle.std.specs.List.{count_by}
use Rattle.adapt_bytes.specs.declared.limits.TheConstants.{MAX_FIELDS, MAX_HEAD}
use Rattle.httparse.specs.Grammar.{LineEnd, Field as Line, ReadsSection, HasNoSection, NeverHasSection, MayBecomeSection}
use Rattle.httparse.specs.Spans.{name_and_value, SectionExceeds}
use Rattle.adapt_bytes.specs.Fields.{FieldList}
use Rattle.icap_head.specs.declared.reading.HeadFault.{HeadFault}
use Rattle.icap_head.specs.declared.reading.HeadFault.TheVariants.{More, Field, TooLong, TooMany}

-- the text is field lines with these names and values, an empty line, and then rest
abbrev pub ReadsFields : List ℕ → FieldList → List ℕ → Type 0
ReadsFields text fields rest =
    (lines : List Line) × (last : LineEnd) × ReadsSection text lines last rest × (map name_and_value lines ≡ fields)

-- the text begins with at most 100 fields and an empty line
abbrev pub HasFields : List ℕ → Type 0
HasFields text = (fields : FieldList) × (rest : List ℕ) × ReadsFields text fields rest × (length fields ≤ MAX_FIELDS)

-- the text begins with more than 100 whole field lines
abbrev pub HasTooMany : List ℕ → Type 0
HasTooMany text = SectionExceeds MAX_FIELDS text

-- no prefix is field lines and an empty line, and some bytes can follow that make it so
abbrev pub IsOpen : List ℕ → Type 0
IsOpen text = HasNoSection text × MayBecomeSection text

-- what is said of a head without its end in a text of this many bytes: More, and TooLong once the limit is reached
abbrev pub unended : ℕ → HeadFault
unended len = if nat_lt len MAX_HEAD then More else TooLong

-- why the fields are refused, in a text of this many bytes
abbrev pub RefusesFields : HeadFault → ℕ → List ℕ → Type 0
RefusesFields fault len text =
    ((fault ≡ Field) × NeverHasSection text × ¬ (HasTooMany text))
    ⊎ ((fault ≡ TooMany) × HasTooMany text)
    ⊎ ((fault ≡ unended len) × IsOpen text × ¬ (HasTooMany text))

-- why lines are refused that have at most 101 ends; the last fault is that of lines without an empty one
abbrev pub RefusesFieldLines : HeadFault → HeadFault → List ℕ → Type 0
RefusesFieldLines fault last text =
    ((fault ≡ Field) × NeverHasSection text) ⊎ ((fault ≡ TooMany) × HasTooMany text) ⊎ ((fault ≡ last) × IsOpen text)

-- how many lines end in the text
abbrev pub line_count : List ℕ → ℕ
line_count text = count_by (λ b. b == 10) text

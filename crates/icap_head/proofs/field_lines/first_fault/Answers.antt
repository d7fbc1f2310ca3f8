-- The fault of the first 101 lines is that of the whole text; where fewer lines end, the text's fault is the one that was given.
use Rattle.std.proofs.Common.{◌≡◌, ℕ, ◌-◌, ◌<◌, ◌≤◌, List, length, get_or, take, drop, subst}
use Rattle.std.proofs.lemmas.List.{take_rest}
use Rattle.icap_head.specs.FieldLines.{line_count}
use Rattle.icap_head.proofs.FieldFaults.{whole_fault, cut_stands, cut_has}
use Rattle.icap_head.proofs.field_lines.first_fault.Goals as goal

pub lines_fault-requires-clause-unread : goal.lines_fault-requires-clause-unread
lines_fault-requires-clause-unread c =
    let seen = c.args.seen.now in
    let start = c.args.start in
    let end = c.in-Some.end in
    let fits = subst (λ (t : List ℕ). end ≤ length t) (take_rest seen start) c.in-Some.ensures.some.1 in
    λ has. c.requires.unread (cut_has seen start end c.requires.inside fits has)

pub returns-in-Some : goal.returns-in-Some
returns-in-Some c =
    let seen = c.args.seen.now in
    let start = c.args.start in
    let end = c.in-Some.end in
    let e = subst (λ (t : List ℕ). (0 < end) × (end ≤ length t) × (line_count (take end t) ≡ 101) × (get_or t (end - 1) 0 ≡ 10))
    (take_rest seen start) c.in-Some.ensures.some in
    λ len h. cut_stands c.lines_fault.result len seen start end c.requires.inside e.0 e.1 e.2 e.3 c.lines_fault.ensures

pub returns-in-None : goal.returns-in-None
returns-in-None c =
    let seen = c.args.seen.now in
    let start = c.args.start in
    let few = subst (λ (t : List ℕ). line_count t < 101) (take_rest seen start) c.in-None.ensures.none in
    λ len h. whole_fault c.args.fault len (drop start seen) few h

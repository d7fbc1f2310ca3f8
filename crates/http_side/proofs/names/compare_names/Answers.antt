-- Where one of the names ends and no byte before differed, their lengths decide.
use Rattle.std.proofs.Common.{◌≤◌, length, inl, inr, ◌⊎◌, sym, ◌∙◌, arith}
use Rattle.std.proofs.lemmas.Bool.{cases_lt}
use Rattle.http_side.proofs.NameLemmas.{order_at_end}
use Rattle.http_side.proofs.names.compare_names.Goals as goal

pub returns : goal.returns
returns c =
    let a = c.args.name.now in
    let b = c.args.other.now in
    let i = c.loop-at.at in
    let one : (length a ≤ i) ⊎ (length b ≤ i) = elim (cases_lt i (length a)) [ inl l ↦ inr (omega arith) | inr l ↦ inl l ] in
    c.cmp.ensures ∙ order_at_end a b i (omega arith) (omega arith) one ∙ sym c.loop-at.invariant

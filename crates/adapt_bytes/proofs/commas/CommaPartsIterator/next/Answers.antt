-- The part that is given ends at the first comma, and others follow; where no comma is left, it is the last one.
use Rattle.std.proofs.Common.{◌≡◌, ◌+◌, ◌-◌, [], ◌∷◌, length, take, drop, rules, arith, sym, ap, ◌∙◌, add-one}
use Rattle.std.proofs.lemmas.List.{take_rest}
use Rattle.adapt_bytes.specs.Text.{comma_parts, left_of, parts_left}
use Rattle.adapt_bytes.proofs.Parts.{comma_parts_at, comma_parts_whole}
use Rattle.adapt_bytes.proofs.commas.CommaPartsIterator.next.Goals.{After-trim, After-trim-in-None}
use Rattle.adapt_bytes.proofs.commas.CommaPartsIterator.next.Goals as goal

-- the part ends at the first comma
at_comma : (c : After-trim) → parts_left c.args.self.now ≡ c.trim.result.now ∷ comma_parts
    (take (length c.in_ok-rest.rest.now - (c.in-Some.comma + 1)) (drop (c.in-Some.comma + 1) c.in_ok-rest.rest.now))
at_comma c =
    let rest = c.in_ok-rest.rest.now in
    let at = c.in-Some.comma in
    let split = comma_parts_at rest at (search rules) (search rules) (search rules) in
    let part = c.trim.ensures in
    ap left_of c.in_ok-rest.was ∙ split ∙ simp (take_rest, add-one, part)

-- where no comma is left, the part that is given is the last of those that were left
at_end : (c : After-trim-in-None) → parts_left c.args.self.now ≡ c.trim-in-None.result.now ∷ []
at_end c =
    ap left_of c.in_ok-rest.was ∙ comma_parts_whole c.in_ok-rest.rest.now (search rules) ∙ ap (λ x. x ∷ []) (sym c.trim-in-None.ensures)

pub returns-in-Some-clause-steps : goal.returns-in-Some-clause-steps
returns-in-Some-clause-steps c = at_comma c

pub returns-in-Some-clause-goes : goal.returns-in-Some-clause-goes
returns-in-Some-clause-goes c =
    record { on = λ _. (tt, tt, omega (arith, ap length (at_comma c))); keeps = tt; rests = λ _. tt }

pub returns-in-None-clause-steps : goal.returns-in-None-clause-steps
returns-in-None-clause-steps c = at_end c

pub returns-in-None-clause-goes : goal.returns-in-None-clause-goes
returns-in-None-clause-goes c =
    record { on = λ _. (tt, tt, omega (arith, ap length (at_end c))); keeps = tt; rests = λ _. tt }

-- A text that isn't cut, or not after a number, begins with no number and hyphen.
use Rattle.std.proofs.Common.{◌≡◌, ◌∷◌, ◌++◌, ℕ, List}
use Rattle.exchange_report.specs.Live.{SpellsNumber}
use Rattle.exchange_report.proofs.IdCuts.{not_cut, no_part}
use Rattle.exchange_report.proofs.exchange_id.read_part.Goals as goal

pub returns-in_err-digits-clause-none : goal.returns-in_err-digits-clause-none
returns-in_err-digits-clause-none c =
    let text = c.args.text.now in
    let nothing : (digits rest : List ℕ) (n : ℕ) → text ≡ digits ++ 45 ∷ rest → SpellsNumber digits n → ⊥ =
    λ digits rest n e s. not_cut text digits rest c.in_err-digits.ensures.none e in
    rw c.from_residual.ensures nothing

pub returns-in_err-read_decimal-clause-none : goal.returns-in_err-read_decimal-clause-none
returns-in_err-read_decimal-clause-none c =
    let cut = c.in_ok-digits.ensures.found in
    let nothing = no_part c.args.text.now c.in_ok-digits.digits.now c.in_ok-digits.rest.now cut.0 cut.1
    c.in_err-read_decimal.ensures.none in
    rw c.from_residual-in_err-read_decimal.ensures nothing

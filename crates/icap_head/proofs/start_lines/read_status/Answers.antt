-- Three digits are a status without a phrase; with a space after them, what follows it is the phrase.
use Rattle.std.proofs.Common.{rules, ◌≡◌, get_or, arith, subst, sym}
use Rattle.std.proofs.lemmas.List.{take_rest}
use Rattle.icap_head.specs.StartLines.{IsStatus}
use Rattle.icap_head.proofs.Statuses.{status_alone, status_with}
use Rattle.icap_head.proofs.start_lines.read_status.Goals as goal

pub returns-in_ok-read_three_digits-in-len3-clause-some : goal.returns-in_ok-read_three_digits-in-len3-clause-some
returns-in_ok-read_three_digits-in-len3-clause-some c =
    let d = c.in_ok-read_three_digits-in-len3.ensures.some in
    status_alone c.args.text.now c.in_ok-read_three_digits-in-len3.field-0 (omega arith) d.0 d.1

pub returns-in_ok-read_three_digits-in-32-clause-some : goal.returns-in_ok-read_three_digits-in-32-clause-some
returns-in_ok-read_three_digits-in-32-clause-some c =
    let d = c.in_ok-read_three_digits-in-32.ensures.some in
    let text = c.args.text.now in
    let space : get_or text 3 0 ≡ 32 = search rules in
    subst (IsStatus text c.in_ok-read_three_digits-in-32.field-0) (sym (take_rest text 4))
    (status_with text c.in_ok-read_three_digits-in-32.field-0 (omega arith) space d.0 d.1)

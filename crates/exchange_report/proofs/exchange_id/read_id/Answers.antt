-- A text that lacks one of the three numbers is no id.
use Rattle.exchange_report.proofs.IdCuts.{no_key, no_number}
use Rattle.exchange_report.proofs.exchange_id.read_id.Goals as goal

pub returns-in_err-key-clause-none : goal.returns-in_err-key-clause-none
returns-in_err-key-clause-none c =
    let thread = c.in_ok-thread in
    let part = thread.ensures.found in
    let nothing = no_key c.args.text.now part.0 thread.rest.now thread.thread part.1 part.2 c.in_err-key.ensures.none in
    rw c.from_residual-in_err-key.ensures nothing

pub returns-in_err-number-clause-none : goal.returns-in_err-number-clause-none
returns-in_err-number-clause-none c =
    let thread = c.in_ok-thread in
    let part = thread.ensures.found in
    let key = c.in_ok-key in
    let second = key.ensures.found in
    let nothing = no_number c.args.text.now part.0 thread.rest.now second.0 key.rest.now thread.thread key.key part.1 part.2
    second.1 second.2 c.in_err-number.ensures.none in
    rw c.from_residual-in_err-number.ensures nothing

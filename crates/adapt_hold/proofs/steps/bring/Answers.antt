-- Bytes within their room fit the claim, and leave a window where an adapted body may come.
use Rattle.adapt_hold.proofs.Row.{fits_in, brought_roomy}
use Rattle.adapt_hold.proofs.steps.bring.Goals as goal

pub put_in-requires-clause-room : goal.put_in-requires-clause-room
put_in-requires-clause-room g c = λ m. fits_in c.args.hold.now c.args.event c.args.bytes.now c.state-state.ensures.tied c.requires.roomy
    c.requires.brings c.requires.room m

pub returns-clause-roomy : goal.returns-clause-roomy
returns-clause-roomy g c = brought_roomy c.args.hold.now c.put_in.new.self c.args.event c.args.bytes.now c.state-state.ensures.tied
    c.requires.roomy c.requires.brings c.requires.room c.requires.may c.in-Ok.ensures.1

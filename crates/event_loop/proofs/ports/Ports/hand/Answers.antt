-- The user waits, or was handed to the loop whose turn it is.
use Rattle.std.proofs.Common.{◌≡◌, ◌+◌, ◌≤◌, true, false, ap, arith}
use Rattle.std.proofs.lemmas.Bool.Decides.{nat_tests}
use Rattle.event_loop.proofs.Handing.{asked_for_room, one_handed_to}
use Rattle.event_loop.proofs.ports.Ports.hand.Goals as goal

pub returns-in_default-clause-out : goal.returns-in_default-clause-out
returns-in_default-clause-out g c =
    asked_for_room g.M.Mail c.args.mail.now c.ask_for_room.new.mail c.args.own c.args.self.now.loops c.args.self.now.accepted
    c.ask_for_room.new.self.accepted false _
    (ap (λ p. p.accepted) c.ask_for_room.ensures.kept) c.ask_for_room.ensures.asks c.ask_for_room.ensures.none

pub returns-then-is_own-clause-out : goal.returns-then-is_own-clause-out
returns-then-is_own-clause-out g c =
    let sum = c.saturating_add-self.ensures in
    let one : c.saturating_add-self.result ≤ c.args.self.now.accepted + 1 = omega (arith, sum) in
    one_handed_to g.M.Mail c.args.mail.now c.hand_to.new.mail c.args.own c.args.self.now.loops c.args.self.now.accepted
    c.saturating_add-self.result true c.loop_of-to.result
    one c.loop_of-to.ensures.turn c.hand_to.ensures (λ none same. let no : true ≡ false = none in cc)

pub returns-else-is_own-clause-out : goal.returns-else-is_own-clause-out
returns-else-is_own-clause-out g c =
    let sum = c.saturating_add-self.ensures in
    let one : c.saturating_add-self.result ≤ c.args.self.now.accepted + 1 = omega (arith, sum) in
    let apart = c.if-is_own.false in
    one_handed_to g.M.Mail c.args.mail.now c.hand_to.new.mail c.args.own c.args.self.now.loops c.args.self.now.accepted
    c.saturating_add-self.result false c.loop_of-to.result
    one c.loop_of-to.ensures.turn c.hand_to.ensures (λ none same. grind (arith, nat_tests))

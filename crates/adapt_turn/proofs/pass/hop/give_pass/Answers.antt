-- The writer back to the user gives where it has a message, else the next hop's; the other and its wire stay.
use Rattle.std.proofs.Common.{inl, inr, refl}
use Rattle.adapt_turn.proofs.pass.hop.give_pass.Goals as goal

pub returns-then-is_idle-clause-gives : goal.returns-then-is_idle-clause-gives
returns-then-is_idle-clause-gives g c =
    let e = c.give.ensures in inl (
      c.is_idle.ensures.idle c.if-is_idle.true,
      record { reports = e.reports; reason = e.reason; again = e.again; gift = e.gift; framing = e.framing; whole = e.whole },
      refl,
      refl,
    )

pub returns-else-is_idle-clause-gives : goal.returns-else-is_idle-clause-gives
returns-else-is_idle-clause-gives g c =
    let e = c.give-else-is_idle.ensures in inr (
      c.is_idle.ensures.busy c.if-is_idle.false,
      record { reports = e.reports; reason = e.reason; again = e.again; gift = e.gift; framing = e.framing; whole = e.whole },
      refl,
      refl,
    )

-- A writer with a message keeps it; else one begins on the user's writer if it answers the user, or on the next hop's.
use Rattle.std.proofs.Common.{inl, inr, refl, sym, ◌∙◌, subst}
use Rattle.adapt_hold.specs.Holding.{shows}
use Rattle.adapt_turn.specs.ChosenHead.{MakesAt}
use Rattle.adapt_turn.proofs.pass.hop.begin.Goals as goal

pub returns-then-not-is_idle-clause-begun : goal.returns-then-not-is_idle-clause-begun
returns-then-not-is_idle-clause-begun g c = inl (record {
  unasked = refl;
  busy = λ n b. c.is_idle.ensures.busy c.if-not-is_idle.true n;
  next_is = refl;
  back_is = refl;
})

pub returns-then-not-is_idle-2-clause-begun : goal.returns-then-not-is_idle-2-clause-begun
returns-then-not-is_idle-2-clause-begun g c = inl (record {
  unasked = refl;
  busy = λ n b. c.is_idle-2.ensures.busy c.if-not-is_idle-2.true b;
  next_is = refl;
  back_is = refl;
})

pub returns-then-answers-clause-begun : goal.returns-then-answers-clause-begun
returns-then-answers-clause-begun g c = inr (inr (record {
  way = sym c.answers_user-answers.ensures ∙ c.if-answers.true;
  idle = c.is_idle-2.ensures.idle c.if-not-is_idle-2.false;
  other_idle = c.is_idle.ensures.idle c.if-not-is_idle.false;
  other_is = refl;
  gift = c.begin.ensures.gift;
  fault = c.begin.ensures.fault;
  head = c.in-Ok.head.items;
  made = subst (λ z. MakesAt g.E.Maker.MakesHead g.E.Client.Service c.forwarded.new.maker (g.E.Reader.Source.head c.args.source.now)
      c.args.service.now (shows c.args.hold.now.history) c.in-Ok.head.items z) (sym c.begin.ensures.framing) c.in-Ok.ensures.made;
  given = c.begin.ensures.given;
}))

pub returns-else-answers-clause-begun : goal.returns-else-answers-clause-begun
returns-else-answers-clause-begun g c = inr (inl (record {
  way = sym c.answers_user-answers.ensures ∙ c.if-answers.false;
  idle = c.is_idle.ensures.idle c.if-not-is_idle.false;
  other_idle = c.is_idle-2.ensures.idle c.if-not-is_idle-2.false;
  other_is = refl;
  gift = c.begin-else-answers.ensures.gift;
  fault = c.begin-else-answers.ensures.fault;
  head = c.in-Ok.head.items;
  made = subst (λ z. MakesAt g.E.Maker.MakesHead g.E.Client.Service c.forwarded.new.maker (g.E.Reader.Source.head c.args.source.now)
      c.args.service.now (shows c.args.hold.now.history) c.in-Ok.head.items z) (sym c.begin-else-answers.ensures.framing)
      c.in-Ok.ensures.made;
  given = c.begin-else-answers.ensures.given;
}))

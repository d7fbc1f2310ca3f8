-- One user after another is handed out.
use Rattle.std.proofs.Common.{◌≡◌, ℕ, true, false, refl, sym, ◌∙◌, subst}
use Rattle.event_loop.specs.Mail.{HandsOut}
use Rattle.event_loop.proofs.Handing.{hands_on}
use Rattle.event_loop.proofs.ports.Ports.accept.Goals as goal
use Rattle.event_loop.proofs.ports.Ports.accept.Goals.{in-One+in-Own, in-One+in-Other, in-Gone}

pub returns-in-Waits-clause-out : goal.returns-in-Waits-clause-out
returns-in-Waits-clause-out g c =
    hands_on g.M.Mail c.args.mail.now c.loop.mail c.hand.new.mail c.args.own c.args.self.now.loops c.next.new.self.loops
    c.args.self.now.accepted c.loop.self.accepted c.next.new.self.accepted c.hand.new.self.accepted c.loop.came false c.loop.came
    (c.next.ensures.kept.1 ∙ c.loop.invariant.loops) c.next.ensures.kept.0 c.loop.invariant.out c.in-Waits.ensures.out
    (λ none. (none, refl))

pub loop-preserved : goal.loop-preserved
loop-preserved g c =
    elim c.match-next.branch [
      | in-One+in-Own w ↦
          rw (w.self-is, w.mail-is, w.came-is)
          (record {
            out = hands_on g.M.Mail c.args.mail.now c.loop.mail w.hand.new.mail c.args.own c.args.self.now.loops c.next.new.self.loops
                c.args.self.now.accepted c.loop.self.accepted c.next.new.self.accepted w.hand.new.self.accepted c.loop.came true true
                (c.next.ensures.kept.1 ∙ c.loop.invariant.loops) c.next.ensures.kept.0 c.loop.invariant.out w.in-Own.ensures.out
                (λ none. let no : true ≡ false = none in cc);
            loops = w.in-Own.ensures.loops ∙ (c.next.ensures.kept.1 ∙ c.loop.invariant.loops);
          })
      | in-One+in-Other w ↦
          rw (w.self-is, w.mail-is, w.came-is)
          (record {
            out = hands_on g.M.Mail c.args.mail.now c.loop.mail w.hand.new.mail c.args.own c.args.self.now.loops c.next.new.self.loops
                c.args.self.now.accepted c.loop.self.accepted c.next.new.self.accepted w.hand.new.self.accepted c.loop.came false
                c.loop.came
                (c.next.ensures.kept.1 ∙ c.loop.invariant.loops) c.next.ensures.kept.0 c.loop.invariant.out w.in-Other.ensures.out
                (λ none. (none, refl));
            loops = w.in-Other.ensures.loops ∙ (c.next.ensures.kept.1 ∙ c.loop.invariant.loops);
          })
      | in-Gone w ↦
          rw (w.self-is, w.mail-is, w.came-is)
          (record {
            out = subst (λ (n : ℕ). HandsOut g.M.Mail c.args.mail.now c.loop.mail c.args.own c.args.self.now.loops c.args.self.now.accepted
                n c.loop.came)
                (sym c.next.ensures.kept.0) c.loop.invariant.out;
            loops = c.next.ensures.kept.1 ∙ c.loop.invariant.loops;
          })
    ]

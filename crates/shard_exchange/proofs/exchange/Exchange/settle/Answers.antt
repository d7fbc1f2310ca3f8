-- The message's connections and reservation are back, its end is told, and a withdrawn request is there to be sent again.
use Rattle.std.proofs.Common.{◌≡◌, ◌∙◌, Bool, true, false, Option, None, Some, ◌||◌, if◌then◌else◌, sym, subst, refl, ap}
use Rattle.std.proofs.Math.Bool.{or-true}
use Rattle.exchange_core.specs.declared.connection.Connection.{Connection}
use Rattle.exchange_core.specs.declared.connection.Connection.TheVariants.{Absent, Ready, InUse, Spent}
use Rattle.exchange_core.specs.declared.state.CourseState.{CourseState}
use Rattle.shard_exchange.specs.declared.ends.End.{End}
use Rattle.shard_exchange.specs.declared.ends.End.TheVariants as ends
use Rattle.shard_exchange.specs.EndedBy.{is_good, served_as}
use Rattle.shard_exchange.specs.Ends.{IsServedBy, IsToldServed, Succeeds}
use Rattle.shard_exchange.proofs.exchange.Exchange.settle.Goals as goal

-- what the message stood over has come back
pub invariant_of-self : goal.invariant_of-self
invariant_of-self g c =
    let old = c.args.self.now in
    let back = c.settle-report.ensures.back in
    let leaves = c.tell.ensures.leaves in
    let room = g.H.InHand.hand old.holdings in
    let moved = old.moves ∙ c.requires.moves in
    record {
      leased = back.0 ∙ (old.leased ∙ sym leaves.0.0);
      moves = back.3 ∙ sym leaves.1;
      staked = ap (λ (r : Bool). r || (g.H.InHand.hand c.settle-report.new.self).moving) back.1
          ∙ sym (leaves.0.1 ∙ (sym old.staked ∙ (ap (λ (m : Bool). room.room || m) moved ∙ or-true room.room)));
      opened = ap (λ (r : Bool). r || (g.H.InHand.hand c.settle-report.new.self).moving) back.2
          ∙ sym (leaves.0.2 ∙ (sym old.opened ∙ (ap (λ (m : Bool). room.origin || m) moved ∙ or-true room.origin)));
    }

-- a connection of which nothing is told is what it was
untold : (usable : Bool) (old new : Connection) → new ≡ old → IsServedBy usable old new
untold usable Absent new same = same
untold usable (Ready reused) new same = same
untold usable (InUse reused) new same = subst (λ (c : Connection). IsServedBy usable (InUse reused) c) (sym same) tt
untold usable Spent new same = same

-- a connection is as its service left it, whether something was told of it or nothing
served_where : (told usable : Bool) (old new : Connection) → IsToldServed (if told then Some usable else None) old new
    → IsServedBy usable old new
served_where true usable old new h = h
served_where false usable old new h = untold usable old new h

-- the service's connection is ready for others exactly where its exchange was whole
pub returns-clause-served : goal.returns-clause-served
returns-clause-served g c =
    let report = c.settle-report in
    let old = c.args.self.now in
    let usable = g.H.Holder.reusable old.holdings in
    served_where (is_good report.result.end || usable) usable old.course.connection c.tell.new.course.connection
    (subst (λ (s : Option Bool). IsToldServed s old.course.connection c.tell.new.course.connection) report.ensures.served
    c.tell.ensures.served)

-- a good end cuts no connection, so it is told as one
succeeding : (told answered : Bool) (served : Option Bool) (usable : Bool) (old new : CourseState) (cuts : Bool) (end : End)
    → told ≡ answered
    → served ≡ served_as usable end → (is_good end ≡ true → cuts ≡ false) → (cuts ≡ false → Succeeds told served old new end)
    → Succeeds answered (served_as usable end) old new end
succeeding told answered served usable old new cuts (ends.Sent has_memory) some is whole tells =
    subst (λ (a : Bool). Succeeds a (Some usable) old new (ends.Sent has_memory)) some
    (subst (λ (s : Option Bool). Succeeds told s old new (ends.Sent has_memory)) is (tells (whole refl)))
succeeding told answered served usable old new cuts (ends.Answered keeps lasts) some is whole tells =
    subst (λ (a : Bool). Succeeds a (Some usable) old new (ends.Answered keeps lasts)) some
    (subst (λ (s : Option Bool). Succeeds told s old new (ends.Answered keeps lasts)) is (tells (whole refl)))
succeeding told answered served usable old new cuts (ends.Withdrawn has_memory) some is whole tells = λ begun. tt
succeeding told answered served usable old new cuts (ends.Failed why) some is whole tells = λ begun. tt
succeeding told answered served usable old new cuts ends.Stopped some is whole tells = λ begun. tt
succeeding told answered served usable old new cuts ends.Lost some is whole tells = λ begun. tt

pub returns-clause-ended : goal.returns-clause-ended
returns-clause-ended g c =
    let report = c.settle-report in
    let tells = c.tell.ensures in
    record {
      end = report.result.end;
      is_so = report.ensures.told;
      next = report.ensures.followed;
      over = tells.leaves.1;
      served = returns-clause-served g c;
      alone = λ some. tells.alone (report.ensures.answered ∙ some);
      owed = λ why e none. let unanswered = report.ensures.answered ∙ none in tells.owed why e unanswered (report.ensures.cuts unanswered);
      lost = tells.lost;
      keeps = tells.keeps;
      lasts = tells.lasts;
      succeeds = succeeding report.result.has_answered (g.H.Holder.answered c.args.self.now.holdings) report.result.served
          (g.H.Holder.reusable c.args.self.now.holdings) c.args.self.now.course c.tell.new.course report.result.cuts report.result.end
          report.ensures.answered report.ensures.served report.ensures.whole tells.succeeds;
      awaits = tells.awaits;
      withdrawn = (
        tells.withdrawn,
        λ e. let again = report.ensures.withdrawn e in
            tells.again e again.2 (report.ensures.cuts again.2) again.0,
      );
      wanting = λ e none. let unanswered = report.ensures.answered ∙ none in tells.wanting e unanswered (report.ensures.cuts unanswered);
    }

-- a request that was withdrawn is here to be sent again, and nothing of an answer went out
pub returns-clause-withdrawn : goal.returns-clause-withdrawn
returns-clause-withdrawn g c = λ back.
    let report = c.settle-report in
    let again = report.ensures.withdrawn (c.tell.ensures.withdrawn back) in
    (again.1, sym report.ensures.answered ∙ again.2, again.0)

-- Its work was told.
use Rattle.std.proofs.Common.{refl, subst}
use Rattle.std.specs.Prelude.{Bool}
use Rattle.event_loop.specs.Deeds.{Adds}
use Rattle.event_loop.specs.Deeds.Deed.{Heard}
use Rattle.event_loop.proofs.Turning.{does_one}
use Rattle.event_loop.proofs.looping.EventLoop.hear_poll.Goals as goal

pub returns : goal.returns
returns g c =
    does_one g.K.Work c.args.self.now _ (Heard _)
    (subst (λ (whole : Bool). Adds (g.K.Work.past c.args.self.now.work) (g.K.Work.past c.heard.new.self) (Heard whole)) c.is_whole.ensures
    c.heard.ensures.past)
    (λ x key. (refl, refl, tt)) c.heard.ensures.kept refl refl

-- The exchange was driven, and then one that blocked it gave way.
use Rattle.std.proofs.Common.{[], ◌∷◌, ◌++◌, refl}
use Rattle.event_loop.specs.Deeds.Deed.{Drove}
use Rattle.event_loop.specs.Turns.{ways}
use Rattle.event_loop.proofs.Turning.{did_is, does_way}
use Rattle.event_loop.proofs.looping.EventLoop.drive_now.Goals as goal

pub returns : goal.returns
returns g c =
    did_is g.K.Work c.args.self.now c.clear_way.new.self (ways c.drive_one-driven.result
    ++ (Drove c.args.key c.drive_one-driven.result ∷ []))
    (does_way g.K.Work c.args.self.now c.drive_one-driven.new.self c.clear_way.new.self c.args.key c.drive_one-driven.result
    c.drive_one-driven.ensures c.clear_way.ensures.works c.clear_way.ensures.kept.0 c.clear_way.ensures.kept.1)
    (record { driven = c.drive_one-driven.result; is = refl })

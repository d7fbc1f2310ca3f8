-- A body of which something was told, or that has another length, doesn't agree with the plan's beginning.
use Rattle.std.proofs.Common.{◌≡◌, true, false, sym, ◌∙◌}
use Rattle.http_relay.proofs.side.SourceSide.begins.Goals as goal

pub returns-then-is_none-clause-refuses : goal.returns-then-is_none-clause-refuses
returns-then-is_none-clause-refuses c = λ e free read a.
    let t = c.begins.ensures.1 (sym a.received, sym a.ended, a.len) in
    let odd : false ≡ true = sym e ∙ t in cc

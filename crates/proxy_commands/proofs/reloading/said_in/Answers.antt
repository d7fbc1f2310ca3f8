-- The rest of a line begins after the program's name.
use Rattle.std.proofs.Common.{◌≡◌, ℕ, ◌-◌, List, length, take, drop, ap, ◌∙◌}
use Rattle.std.proofs.lemmas.List.{take_rest}
use Rattle.proxy_commands.proofs.reloading.said_in.Goals as goal

pub returns-in-Some : goal.returns-in-Some
returns-in-Some c =
    let found = c.in-Some.ensures.lookup in
    let text : List ℕ = take c.saturating_sub.result c.args.line.now in
    let rest : take (length text - 12) (drop 12 text) ≡ drop 12 text = take_rest text 12 in
    found.0.2 ∙ rest ∙ ap (λ n. drop 12 (take n c.args.line.now)) c.saturating_sub.ensures

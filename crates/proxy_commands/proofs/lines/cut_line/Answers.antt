-- The first line ends before the first LF, and the rest begins after it; with no LF all is one line.
use Rattle.std.proofs.Common.{◌≡◌, ◌∷◌, ◌-◌, [], length, take, drop, rules, add-one, ap, ◌∙◌, sym}
use Rattle.std.proofs.lemmas.List.{take_rest}
use Rattle.proxy_commands.specs.Lines.{lines_of}
use Rattle.proxy_commands.proofs.Cuts.{lines_of-at, lines_of-all}
use Rattle.proxy_commands.proofs.lines.cut_line.Goals as goal

pub returns-in-Some-clause-cut : goal.returns-in-Some-clause-cut
returns-in-Some-clause-cut c =
    let text = c.args.text.now in
    let end = c.in-Some.end in
    let cut = lines_of-at text end (search rules) (search rules) (search rules) in
    cut ∙ simp (take_rest, add-one)

pub returns-in-None-clause-cut : goal.returns-in-None-clause-cut
returns-in-None-clause-cut c =
    let text = c.args.text.now in
    let whole = lines_of-all text c.requires (search rules) in
    let none : take (length text - length text) (drop (length text) text) ≡ [] = search (rules, take_rest) in
    whole ∙ ap (λ t. text ∷ lines_of t) (sym none)

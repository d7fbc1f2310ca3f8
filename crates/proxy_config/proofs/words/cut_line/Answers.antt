-- The first line ends at the first LF.
use Rattle.std.proofs.Common.{◌≡◌, ◌≢◌, ℕ, suc, ◌<◌, ◌∷◌, List, length, get_or, take, drop, rules, add-one, eq-eqb, ne_eqb, ◌∙◌}
use Rattle.std.proofs.lemmas.List.{take_rest}
use Rattle.std.specs.List.{slice_split}
use Rattle.proxy_config.specs.HostsFile.{is_line_end}
use Rattle.proxy_config.proofs.WordSplits.{split_at, split_whole}
use Rattle.proxy_config.proofs.words.cut_line.Goals as goal

-- a text's lines are what stands before its first LF, and the lines after that
line_at : (text : List ℕ) (end : ℕ) → end < length text → get_or text end 0 ≡ 10 → ((k : ℕ) → k < end → get_or text k 0 ≢ 10)
    → slice_split is_line_end text ≡ take end text ∷ slice_split is_line_end (drop (suc end) text)
line_at text end inside here before =
    split_at is_line_end text end inside (eq-eqb _ 10 here) (λ k below. ne_eqb _ 10 (before k below))

pub returns-in-Some : goal.returns-in-Some
returns-in-Some c =
    line_at c.args.text.now c.in-Some.end (search rules) (search rules) (search rules) ∙ simp (take_rest, add-one)

pub returns-in-None : goal.returns-in-None
returns-in-None c =
    let none : (k : ℕ) → k < length c.args.text.now → get_or c.args.text.now k 0 ≢ 10 = search rules in
    split_whole is_line_end c.args.text.now (λ k below. ne_eqb _ 10 (none k below))

-- The first part ends at the first byte between words.
use Rattle.std.proofs.Common.{rules, add-one, ◌∙◌}
use Rattle.std.proofs.lemmas.List.{take_rest}
use Rattle.proxy_config.specs.HostsFile.{is_gap}
use Rattle.proxy_config.proofs.WordSplits.{split_at, split_whole}
use Rattle.proxy_config.proofs.words.cut_word.Goals as goal

pub returns-in-Some : goal.returns-in-Some
returns-in-Some c =
    split_at is_gap c.args.text.now c.in-Some.end (search rules) (search rules) (search rules) ∙ simp (take_rest, add-one)

pub returns-in-None : goal.returns-in-None
returns-in-None c =
    split_whole is_gap c.args.text.now (search rules)

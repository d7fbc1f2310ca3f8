-- The lists are the same where their texts are.
use Rattle.std.proofs.Common.{rules, ◌≡◌, sym, ◌∙◌}
use Rattle.std.specs.Cmp.Lexicographic.{pointwise}
use Rattle.std.specs.String.{string_eq}
use Rattle.proxy_config.proofs.SameTexts.{same_texts, texts_same}
use Rattle.proxy_config.proofs.changes.same_names.Goals as goal

pub returns : goal.returns
returns c =
    let is : c.eq.result ≡ pointwise string_eq c.args.a.now c.args.b.now = search rules in
    (λ same. texts_same c.args.a.now c.args.b.now (sym is ∙ same), λ same. is ∙ same_texts c.args.a.now c.args.b.now same)

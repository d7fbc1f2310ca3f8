-- The first of the document's and its tables' first unknown keys is the first of all.
use Rattle.std.proofs.Common.{◌≡◌, ℕ, List, Option, Some, None, option_copied, option_map, string_bytes, ap, ◌∙◌, subst}
use Rattle.toml.specs.View.{table_view}
use Rattle.proxy_config.specs.Config.{IsFirstFault}
use Rattle.proxy_config.specs.Order.{IsFirstOrNone, first_text}
use Rattle.proxy_config.specs.Unknown.{IsUnknown}
use Rattle.proxy_config.proofs.Judging.{first_unknown_fault}
use Rattle.proxy_config.proofs.Refusals.{names_it}
use Rattle.proxy_config.proofs.UnknownKeys.{first_unknown_key}
use Rattle.proxy_config.proofs.unknown.check_keys.Goals as goal

-- what is found in three steps, each the first of two texts, is the first of all four texts
first_texts : (a b d e found of_tables of_two one two three : Option (List ℕ)) → found ≡ first_text a of_tables
    → of_tables ≡ first_text one of_two
    → of_two ≡ first_text two three → one ≡ b → two ≡ d → three ≡ e → found ≡ first_text a (first_text b (first_text d e))
first_texts a b d e found of_tables of_two one two three is of of_both is_one is_two is_three =
    is ∙ ap (first_text a) (of ∙ ap (λ t. first_text t of_two) is_one
    ∙ ap (first_text b) (of_both ∙ ap (λ t. first_text t three) is_two ∙ ap (first_text d) is_three))

pub returns-in-Some-clause-err : goal.returns-in-Some-clause-err
returns-in-Some-clause-err c =
    let document = table_view c.args.table.now in
    let a = option_copied c.first_unknown.result in
    let b = option_map string_bytes c.in_ok-reqmod.reqmod in
    let d = option_map string_bytes c.in_ok-respmod.respmod in
    let e = option_map string_bytes c.in_ok-parent.parent in
    let found : option_copied c.first_of-2.result ≡ first_text a (first_text b (first_text d e))
    = first_texts a b d e
    (option_copied c.first_of-2.result)
    (option_copied c.first_of-of_tables.result)
    (option_copied c.first_of.result)
    (option_copied c.text_of.result)
    (option_copied c.text_of-2.result)
    (option_copied c.text_of-3.result)
    c.first_of-2.ensures
    c.first_of-of_tables.ensures
    c.first_of.ensures
    c.text_of.ensures
    c.text_of-2.ensures
    c.text_of-3.ensures in
    let all = first_unknown_key document a b d e (option_copied c.first_of-2.result) found c.first_unknown.ensures c.in_ok-reqmod.ensures
    c.in_ok-respmod.ensures c.in_ok-parent.ensures in
    let is : option_copied c.first_of-2.result ≡ Some c.in-Some.key.now = ap option_copied c.in-Some.is in
    let P : Option (List ℕ) → Type 0 = λ text. IsFirstOrNone (IsUnknown document) text in
    names_it c.in-Some.key.now (IsFirstFault document) (first_unknown_fault document c.requires c.in-Some.key.now (subst P is all))
    c.at_key.result c.at_key.ensures

pub returns-clause-ok : goal.returns-clause-ok
returns-clause-ok c =
    let document = table_view c.args.table.now in
    let a = option_copied c.first_unknown.result in
    let b = option_map string_bytes c.in_ok-reqmod.reqmod in
    let d = option_map string_bytes c.in_ok-respmod.respmod in
    let e = option_map string_bytes c.in_ok-parent.parent in
    let found : option_copied c.first_of-2.result ≡ first_text a (first_text b (first_text d e))
    = first_texts a b d e
    (option_copied c.first_of-2.result)
    (option_copied c.first_of-of_tables.result)
    (option_copied c.first_of.result)
    (option_copied c.text_of.result)
    (option_copied c.text_of-2.result)
    (option_copied c.text_of-3.result)
    c.first_of-2.ensures
    c.first_of-of_tables.ensures
    c.first_of.ensures
    c.text_of.ensures
    c.text_of-2.ensures
    c.text_of-3.ensures in
    let all = first_unknown_key document a b d e (option_copied c.first_of-2.result) found c.first_unknown.ensures c.in_ok-reqmod.ensures
    c.in_ok-respmod.ensures c.in_ok-parent.ensures in
    let is : option_copied c.first_of-2.result ≡ None = ap option_copied c.in-None.is in
    let P : Option (List ℕ) → Type 0 = λ text. IsFirstOrNone (IsUnknown document) text in
    subst P is all

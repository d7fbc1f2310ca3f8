-- A text without an equals sign, without an offset after it, or without a token before it, is no item.
use Rattle.std.proofs.Common.{rules, IsTrue, false}
use Rattle.std.proofs.lemmas.List.{take_rest}
use Rattle.encapsulated.proofs.ItemLemmas.{no_item, item_cut, false_true}
use Rattle.encapsulated.proofs.items.read_item.Goals as goal

pub returns-in_err-at-clause-none : goal.returns-in_err-at-clause-none
returns-in_err-at-clause-none c = rw c.from_residual.ensures (λ name offset. no_item c.args.text.now name offset (search rules))

pub returns-in_err-offset-clause-none : goal.returns-in_err-offset-clause-none
returns-in_err-offset-clause-none c = rw c.from_residual-in_err-offset.ensures (λ name offset item.
    let cut = item_cut c.args.text.now name offset c.in_ok-at.at item (search rules) (search rules) (search rules) in
    c.in_err-offset.ensures.none offset item.fits (rw take_rest cut.1))

pub returns-else-is_token-clause-none : goal.returns-else-is_token-clause-none
returns-else-is_token-clause-none c = λ name offset item.
    let cut = item_cut c.args.text.now name offset c.in_ok-at.at item (search rules) (search rules) (search rules) in
    let wrong : IsTrue false = c.if-is_token.ensures.1 cut.0 in
    false_true wrong

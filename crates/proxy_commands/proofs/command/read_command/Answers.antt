-- The one word trace is a command, and so are chunks and a size; chunks and a text that is no size are none.
use Rattle.std.proofs.Common.{◌∷◌, ◌∙◌, [], List, ℕ, codes, map, string_bytes, sym, ap, subst, arith}
use Rattle.proxy_commands.specs.Command.{IsPieceSize}
use Rattle.proxy_commands.proofs.LineForms.{text_is}
use Rattle.proxy_commands.proofs.ArgumentForms.{one_word, two_words, no_size}
use Rattle.proxy_commands.proofs.command.read_command.Goals as goal

pub returns-in_err-piece_size-in-len2-clause-none : goal.returns-in_err-piece_size-in-len2-clause-none
returns-in_err-piece_size-in-len2-clause-none c =
    let size = c.size-item.result in
    let two = two_words string_bytes c.args.args.now c.word-item-then-args-lt3.result size (omega arith) c.word-item-then-args-lt3.is
    c.size-item.is in
    let none : (n : ℕ) → IsPieceSize (string_bytes size) n → ⊥ =
    rw (c.in_err-piece_size-in-len2.was, c.as_bytes.ensures.value) at c.read_piece_size.ensures.none in
    rw c.from_residual.ensures (no_size (map string_bytes c.args.args.now) _ (string_bytes size) two none)

pub returns-then-eq-clause-found : goal.returns-then-eq-clause-found
returns-then-eq-clause-found c =
    let word = c.word-item.result in
    let one = one_word string_bytes c.args.args.now word (omega arith) c.word-item.is in
    let is = text_is c.as_str.result.now (codes "trace") (sym c.eq.ensures ∙ c.if-eq.true) in
    one ∙ ap (λ t. t ∷ []) (sym c.as_str.ensures.value ∙ is)

pub returns-in_ok-piece_size-in-len2-clause-found : goal.returns-in_ok-piece_size-in-len2-clause-found
returns-in_ok-piece_size-in-len2-clause-found c =
    let word = c.word-item-then-args-lt3.result in
    let size = c.size-item.result in
    let two = two_words string_bytes c.args.args.now word size (omega arith) c.word-item-then-args-lt3.is c.size-item.is in
    let is = text_is c.as_str-in-len2.result.now (codes "chunks") (sym c.eq-in-len2.ensures ∙ c.if-eq-2.true) in (
      string_bytes size,
      two ∙ ap (λ t. t ∷ string_bytes size ∷ []) (sym c.as_str-in-len2.ensures.value ∙ is),
      subst (λ (d : List ℕ). IsPieceSize d c.in_ok-piece_size-in-len2.piece_size) c.as_bytes.ensures.value
          c.in_ok-piece_size-in-len2.ensures.found,
    )

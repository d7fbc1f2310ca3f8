-- A decimal from 1 to the largest piece is a size; another one isn't, nor is a text that is no decimal.
use Rattle.std.proofs.Common.{◌∙◌, sym, arith}
use Rattle.proxy_commands.proofs.ArgumentForms.{size_is, not_a_size, no_number}
use Rattle.proxy_commands.proofs.command.read_piece_size.Goals.{else-size-ge1-via-then-size-ge1+else-size-le-MAX_PIECE}
use Rattle.proxy_commands.proofs.command.read_piece_size.Goals.{else-size-ge1-via-else-size-ge1}
use Rattle.proxy_commands.proofs.command.read_piece_size.Goals as goal

pub returns-in_err-size-clause-none : goal.returns-in_err-size-clause-none
returns-in_err-size-clause-none c =
    let none = no_number c.args.digits.now (sym c.number.ensures ∙ c.in_err-size.was) in
    rw c.from_residual.ensures none

pub returns-then-size-le-MAX_PIECE-clause-found : goal.returns-then-size-le-MAX_PIECE-clause-found
returns-then-size-le-MAX_PIECE-clause-found c =
    size_is c.args.digits.now c.in_ok-size.size (sym c.number.ensures ∙ c.in_ok-size.was) c.if-size-ge1.true c.if-size-le-MAX_PIECE.true

pub returns-else-size-ge1-clause-none : goal.returns-else-size-ge1-clause-none
returns-else-size-ge1-clause-none c =
    not_a_size c.args.digits.now c.in_ok-size.size (sym c.number.ensures ∙ c.in_ok-size.was) (λ some bound.
    elim c.else-size-ge1.branch [
      | else-size-ge1-via-then-size-ge1+else-size-le-MAX_PIECE w ↦ omega arith
      | else-size-ge1-via-else-size-ge1 w ↦ omega arith
    ])

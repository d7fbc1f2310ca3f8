-- What is held after a legal history is its book, and a history has one book alone.
use Rattle.world_core.proofs.Booked.{is_book_of, book_once}
use Rattle.world_core.specs.WorldSound.{held_in}
use Rattle.world_ties.proofs.bank.bank_holds_the_book.Goals as goal

pub returns : goal.returns
returns c = λ w events n l b. book_once w events (held_in events) n (is_book_of w events l) b

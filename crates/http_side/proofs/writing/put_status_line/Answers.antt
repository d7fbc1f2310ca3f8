-- The version, three digits, a space, the phrase and CR LF are written one after the other.
use Rattle.std.proofs.Common.{List, ℕ, subst}
use Rattle.adapt_bytes.specs.Room.{Puts}
use Rattle.http_side.proofs.Writes.{puts_both}
use Rattle.http_side.proofs.writing.put_status_line.Goals as goal

pub returns : goal.returns
returns c =
    let P : List ℕ → Type 0 = λ t. Puts c.put.new.self c.put-2.new.self t in
    puts_both (puts_both (puts_both (puts_both c.put.ensures (subst P c.three_digits.ensures c.put-2.ensures)) c.put-3.ensures)
    c.put-4.ensures) c.put-5.ensures

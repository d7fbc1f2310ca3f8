-- A read that gives bytes gives the next ones of the input, right after those that were read before.
use Rattle.std.proofs.Common.{arith, ◌≡◌, ◌++◌, ap, sym, ◌∙◌, take, drop, List, ℕ}
use Rattle.std.proofs.lemmas.List.{take_rest}
use Rattle.wire_kit.proofs.Pieces.{one_more_piece}
use Rattle.wire_kit.proofs.stream.Stream.read.Goals as goal

pub returns-in_default-clause-past : goal.returns-in_default-clause-past
returns-in_default-clause-past c p h =
    let stream = c.args.self.now in
    let input : List ℕ = stream.input.items in
    let e : take c.copy_front.result c.copy_front.new.buf ≡ take c.copy_front.result
    (drop c.args.self.now.read_len input) =
    c.copy_front.ensures.copied ∙ (ap (λ (xs : List ℕ). take c.copy_front.result xs)
    (take_rest c.deref.result.now c.args.self.now.read_len) ∙ ap (λ (xs : List ℕ).
    take c.copy_front.result (drop c.args.self.now.read_len xs)) c.deref.ensures.value) in
    record {
      read = ap (λ (xs : List ℕ). xs ++ take c.copy_front.result c.copy_front.new.buf) h.read
          ∙ sym (one_more_piece c.args.self.now.read_len c.copy_front.result input c.copy_front.new.buf e);
      taken = h.taken;
      ends = h.ends;
      read_waits = h.read_waits;
      write_waits = h.write_waits;
      faults = h.faults;
      reads = λ b. let v = c.saturating_add-self-in_default.ensures in let e = h.reads in omega arith;
      writes = h.writes;
    }

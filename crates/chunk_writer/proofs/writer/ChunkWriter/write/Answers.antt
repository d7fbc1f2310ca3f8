-- Where nothing waits and nothing comes next there is no text to offer; a long head goes out by itself.
use Rattle.std.proofs.Common.{◌≡◌, ◌-◌, ℕ, true, false, [], nat_lt, length, drop, rules, sym, subst}
use Rattle.wire_kit.specs.Past.{part_taken}
use Rattle.chunk_writer.specs.declared.draft.TheConstants.{LONG_HEAD}
use Rattle.chunk_writer.proofs.Moving.{none_offered}
use Rattle.chunk_writer.specs.Moves.{Moves}
use Rattle.chunk_writer.specs.Moves.Moves.{start, passed}
use Rattle.chunk_writer.proofs.writer.ChunkWriter.write.Goals as goal

pub returns-then-is_idle-clause-moves : goal.returns-then-is_idle-clause-moves
returns-then-is_idle-clause-moves g c =
    let w = c.args.self.now in
    let tape = c.args.tape.now in
    let next = c.args.next.now in
    let none : next.count ≡ 0 = c.is_idle.ensures.none c.if-is_idle.true in
    subst (λ (n : ℕ). Moves tape next w n c.finish.result [] c.finish.new.self) none
    (c.finish.ensures.moves tape w [] (subst (λ (n : ℕ). Moves tape next w n false [] w) (sym none) start))

pub returns-then-as_slice-self-gt-LONG_HEAD-clause-moves :
    goal.returns-then-as_slice-self-gt-LONG_HEAD-clause-moves
returns-then-as_slice-self-gt-LONG_HEAD-clause-moves g c =
    let w = c.args.self.now in
    let long : nat_lt LONG_HEAD (length w.head - w.head_out) ≡ true = search rules in
    rw long (passed start (part_taken c.write_head.result (drop w.head_out w.head)) c.write_head.new.self c.write_head.ensures.passes)

pub returns-then-is_idle-clause-silent : goal.returns-then-is_idle-clause-silent
returns-then-is_idle-clause-silent g c e =
    let w = c.args.self.now in
    let next = c.args.next.now in
    none_offered w c.args.tape.now next (c.is_idle.ensures.out c.if-is_idle.true) (c.is_idle.ensures.none c.if-is_idle.true)
    (c.is_idle.ensures.silent c.if-is_idle.true)

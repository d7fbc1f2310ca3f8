-- The body bytes that a turn counts are among those that its wire took.
use Rattle.std.proofs.Common.{◌≡◌, ℕ, ◌-◌, Bool, List, [], ◌++◌, take, drop, refl, ap, sym, ◌∙◌, append_assoc, append-nil}
use Rattle.std.proofs.lemmas.List.{take-take}
use Rattle.trace_core.specs.declared.history.Seen.{Seen}
use Rattle.span_tape.specs.Tape.{Tape}
use Rattle.chunk_writer.specs.declared.next.Next.{Next}
use Rattle.chunk_writer.specs.Writer.{Writer, bytes_of}
use Rattle.chunk_writer.specs.Moves.{Moves}
use Rattle.chunk_writer.specs.Moves.Moves.{start, passed, begun_chunk, sent, ended}
use Rattle.adapt_sides.specs.Tapes.{chosen_delivered}
use Rattle.http_relay.specs.Writing.{TookBody}

-- the body bytes that a turn's moves count, the next ones on the tape, are among what went out
pub took_body : (x : Seen) (tape : Tape) (next : Next) (old w : Writer) (k : ℕ) (e : Bool) (d : List ℕ) → next.from ≡ chosen_delivered x
    → Moves tape next old k e d w → TookBody x tape k d
took_body x tape next old w k e d f start = record { before = []; behind = []; bytes_are = refl }
took_body x tape next old w k e d f (passed {k = k'} {ended = e'} {d = d'} {v = v} g part w' p) =
    let r = took_body x tape next old v k' e' d' f g in
    let body : List ℕ = take k' (drop (chosen_delivered x - tape.base) tape.bytes) in
    record {
      before = r.before;
      behind = r.behind ++ part;
      bytes_are = ap (λ (t : List ℕ). t ++ part) r.bytes_are ∙ (append_assoc r.before (body ++ r.behind) part
          ∙ ap (λ (t : List ℕ). r.before ++ t) (append_assoc body r.behind part));
    }
took_body x tape next old w k e d f (begun_chunk {d = d'} {v = v} g c o l s) = took_body x tape next old v 0 _ d' f g
took_body x tape next old w k e d f (sent {d = d'} {v = v} g k' o s l c) =
    let from : take k' (bytes_of tape next) ≡ take k' (drop (chosen_delivered x - tape.base) tape.bytes) =
    take-take k' next.count (drop (next.from - tape.base) tape.bytes) l ∙ ap (λ (n : ℕ). take k' (drop (n - tape.base) tape.bytes)) f in
    record {
      before = d';
      behind = [];
      bytes_are = ap (λ (t : List ℕ). d' ++ t)
          (from ∙ sym (append-nil (take k' (drop (chosen_delivered x - tape.base) tape.bytes))));
    }
took_body x tape next old w k e d f (ended {k = k'} {d = d'} {v = v} g o l i) = took_body x tape next old v k' _ d' f g

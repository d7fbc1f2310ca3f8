-- The heads' text is let go once it is out.
use Rattle.std.proofs.Common.{◌≡◌, ℕ, ◌+◌, ◌≤◌, Bool, true, false, List, ◌++◌, length, take, refl, ap, sym, subst, ◌∙◌, arith, Option}
use Rattle.std.proofs.Common.{IfSome, Result, Ok, Err, ◌==◌}
use Rattle.trace_core.specs.declared.history.Seen.{Seen}
use Rattle.trace_core.specs.Legal.{open_preview}
use Rattle.span_tape.specs.Tape.{Tape}
use Rattle.wire_kit.specs.Past.{Past}
use Rattle.wire_kit.specs.declared.wire.Put.{Put}
use Rattle.chunk_writer.specs.declared.next.Next.{Next}
use Rattle.chunk_writer.specs.Writer.{Writer, IsFraming, after_data}
use Rattle.chunk_writer.specs.Behind.{WaitsBehind}
use Rattle.chunk_writer.specs.Moves.{Moves}
use Rattle.chunk_writer.specs.Moves.Moves.{start, passed, begun_chunk, sent, ended}
use Rattle.adapt_sides.specs.declared.turn.Turn.{Turn}
use Rattle.adapt_sides.specs.declared.fault.ClientFault.{ClientFault}
use Rattle.icap_client.specs.Front.{Front, HasBody}
use Rattle.icap_client.specs.Sending.{HasSent, DropsText, NothingDue}
use Rattle.icap_client.specs.Turns.{WriteTurn, FitsOffer, is_flushed}

-- what was sent stays so after the heads' text is let go
pub sent_still : (head : List ℕ) (x : Seen) (came taken : List ℕ) (old new : Writer) → DropsText old new → HasSent head x came taken old
    → HasSent head x came taken new
sent_still head x came taken old new l h = record {
  chunks = h.chunks;
  fixed = ap (λ (t : List ℕ). taken ++ t) l.waiting_is ∙ h.fixed;
  front = subst (λ (n : ℕ). Front x (take x.sent came) h.chunks n) (sym l.left) h.front;
  there = omega (arith, h.there, l.left);
  in_preview = subst (λ (n : ℕ). IfSome (open_preview x) (λ p. x.sent + n ≤ p)) (sym l.left) h.in_preview;
  framing = subst IsFraming (sym l.framing) h.framing;
  waits = λ some. subst (WaitsBehind (HasBody (take x.sent came)) h.chunks) (sym l.waiting_is) (h.waits some);
}

-- where nothing is due, nothing is due either after the heads' text is let go
pub due_still : (x : Seen) (old new : Writer) → DropsText old new → NothingDue x old → NothingDue x new
due_still x old new l n = record { flushed = l.waiting_is ∙ n.flushed; none = n.none; no_stop = n.no_stop }

-- whether all that was fixed is out stays so after the heads' text is let go
pub flushed_still : (old new : Writer) → DropsText old new → is_flushed new ≡ is_flushed old
flushed_still old new l = ap (λ (t : List ℕ). length t == 0) l.waiting_is

-- a write's result fits its wire's answer also after the heads' text is let go
fits_still : (x : Seen) (mid new : Writer) (answer : Option Put) (result : Result Turn ClientFault) → DropsText mid new
    → FitsOffer x mid answer result → FitsOffer x new answer result
fits_still x mid new answer (Ok turn) l f = record {
  no_fault = f.no_fault;
  wait = f.wait;
  idle = λ a n. due_still x mid new l (f.idle a n);
  waiting = f.waiting;
  moved = f.moved;
  woke = f.woke;
}
fits_still x mid new answer (Err fault) l f = f

-- a write turn stays one after the heads' text is let go
pub write_still : {most : ℕ} (x : Seen) (tape : Tape) (old mid new : Writer) (P Q : Past → Type 0) (result : Result Turn ClientFault)
    → DropsText mid new → WriteTurn most x tape old mid P Q result → WriteTurn most x tape old new P Q result
write_still x tape old mid new P Q result l t = record {
  next = t.next;
  answer = t.answer;
  decides = t.decides;
  wire = t.wire;
  asks = t.asks;
  goes_on = record {
    legal = t.goes_on.legal;
    only = t.goes_on.only;
    sent = λ head came taken c h. sent_still head _ came _ mid new l (t.goes_on.sent head came taken c h);
  };
  fits = fits_still x mid new t.answer result l t.fits;
}

-- body bytes that go out leave the heads' text as it was
same_head : (b : Bool) (v : Writer) (k : ℕ) → (after_data b v k).head ≡ v.head
same_head true v k = refl
same_head false v k = refl

-- no move of a turn changes the text
pub head_kept : (tape : Tape) (next : Next) (old w : Writer) (k : ℕ) (e : Bool) (d : List ℕ) → Moves tape next old k e d w
    → w.head ≡ old.head
head_kept tape next old w k e d start = refl
head_kept tape next old w k e d (passed {d = d'} {v = v} m part w' p) = p.head ∙ head_kept tape next old v k e d' m
head_kept tape next old w k e d (begun_chunk {v = v} m c o l s) = head_kept tape next old v 0 false d m
head_kept tape next old w k e d (sent {d = d'} {v = v} m k' o s few within) =
    same_head next.chunked v k ∙ head_kept tape next old v 0 false d' m
head_kept tape next old w k e d (ended {v = v} m o a i) = head_kept tape next old v k false d m

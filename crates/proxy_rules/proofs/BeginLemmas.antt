-- A service's side before its first turn.
use Rattle.std.proofs.Common.{◌≡◌, ℕ, Bool, true, false, ◌&&◌, List, [], Option, Some, None, IfSome, refl, ap, sym, subst, ◌∙◌}
use Rattle.trace_core.specs.declared.history.Plan.{Plan}
use Rattle.trace_core.specs.declared.history.Point.{Point}
use Rattle.trace_core.specs.History.{seen, is_preview}
use Rattle.chunk_writer.specs.Writer.{Writer}
use Rattle.icap_client.specs.Heard.{Reader}
use Rattle.icap_client.specs.Laws.{first_reader}
use Rattle.icap_client.specs.Sending.{HasSent}
use Rattle.icap_client.specs.Turns.{Service, ServiceSent, ServiceHeard}
use Rattle.icap_client.specs.OthersSent.{it_begins}
use Rattle.icap_client.proofs.Both.{side_begins}
use Rattle.adapt_turn.specs.declared.ends.ServiceEnd.{ServiceEnd}
use Rattle.adapt_turn.specs.Reports.{fault_of}
use Rattle.proxy_rules.specs.Offers.{IsUnused}

-- a reader that was just made is one of its own point
pub fresh_reader : (point : Point) (r : Reader) → r ≡ first_reader point → r ≡ first_reader r.point
fresh_reader point r e = e ∙ ap first_reader (sym (ap (λ (q : Reader). q.point) e))

-- a test together with false fails
and_false : (b : Bool) → (b && false) ≡ false
and_false true = refl
and_false false = refl

-- nothing was sent and heard of any plan
pub nothing_sent : (request : List ℕ) (s : Service) (plan : Plan) → IsUnused request s → ServiceSent request (seen plan []) [] [] s
nothing_sent request s plan u = record {
  sent = subst (λ (w : Writer). HasSent request (seen plan []) [] [] w) (sym u.writer) (it_begins plan request);
  kept = λ m. ap (λ (w : Writer). w.head) u.writer;
  last_stop = u.marks.0;
}

-- nothing was heard on a side that wasn't used, by any plan
pub nothing_heard : (request : List ℕ) (s : Service) (plan : Plan) → IsUnused request s → ServiceHeard (seen plan []) [] [] s
nothing_heard request s plan u = record {
  heard = side_begins plan s.replies.reader.point s.replies u.reader u.raw;
  answered = u.marks.1 ∙ sym (and_false (is_preview plan.kind));
}

-- the same where there may be no service
pub nothing_on : {W : Type 0} (request : List ℕ) (plan : Plan) (service : Option (ServiceEnd Service W))
    → IfSome service (λ line. IsUnused request line.side)
    → IfSome service (λ line. ServiceSent request (seen plan []) [] [] line.side × ServiceHeard (seen plan []) [] [] line.side)
nothing_on request plan None u = tt
nothing_on request plan (Some line) u = (nothing_sent request line.side plan u, nothing_heard request line.side plan u)

-- a service that has no fault
pub faultless_on : {W : Type 0} (request : List ℕ) (service : Option (ServiceEnd Service W))
    → IfSome service (λ line. IsUnused request line.side) → fault_of (λ line. line.side.replies.fault) service ≡ None
faultless_on request None u = refl
faultless_on request (Some line) u = u.fault

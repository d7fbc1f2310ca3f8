-- Each pass of a side keeps what stands between a transaction and its wires.
use Rattle.std.proofs.Common.{◌≡◌, ℕ, true, false, List, [], ◌∷◌, ◌++◌, length, arith, refl, sym, ◌∙◌, ap, subst}
use Rattle.std.proofs.lemmas.List.{append-nil}
use Rattle.trace_core.specs.declared.history.Seen.{Seen}
use Rattle.trace_core.specs.declared.history.Event.{Event}
use Rattle.trace_core.specs.declared.history.Event.TheVariants.{Fail, Retry}
use Rattle.trace_core.specs.declared.history.Cause.{Cause}
use Rattle.trace_core.specs.History.{in_bytes}
use Rattle.trace_core.specs.Legal.{Allows, MayFollow}
use Rattle.trace_core.specs.View.{after}
use Rattle.trace_core.specs.Turns.{after_all, AllAre, is_of_source, is_of_replies, is_of_sending, is_of_hop}
use Rattle.wire_kit.specs.declared.wire.Wire.{Ghosts as Wire}
use Rattle.adapt_sides.specs.declared.source.Source.{Ghosts as Source}
use Rattle.adapt_sides.specs.declared.service.Service.{Ghosts as Service}
use Rattle.adapt_sides.specs.declared.hop.Hop.{Ghosts as Hop}
use Rattle.adapt_sides.specs.Tapes.{chosen}
use Rattle.adapt_sides.specs.Turns.{Given, given_then}
use Rattle.adapt_hold.specs.Spans.{EndsBody}
use Rattle.adapt_hold.specs.Holding.{Holding, IsTied, IsRoomy, shows, moved}
use Rattle.adapt_hold.specs.Steps.{MayRun, moved_all}
use Rattle.adapt_hold.proofs.Bodies.{ends}
use Rattle.adapt_hold.proofs.Row.{Ran, ran, all_original, all_adapted}
use Rattle.adapt_turn.specs.declared.pass.PassAnswer.{PassAnswer}
use Rattle.adapt_turn.specs.Reports.{Lent, SourceReported, SendReported, HearReported, HopReported, stepped}
use Rattle.adapt_turn.specs.Stands.{Texts, WriterView, SideViews, Stands, HopsAre, IsRefusing, IsDelivered, IsDone}
use Rattle.adapt_turn.proofs.Stepped.{reported_ran}
use Rattle.adapt_turn.proofs.Told.{never_done, done_reported}
use Rattle.adapt_turn.proofs.Carry.{off_source, off_sending, off_replies, off_hop, source_off, sending_off, replies_off, hop_off, all_then}
use Rattle.adapt_turn.proofs.Carry.{none_original, none_adapted, carry, carry_body, KeepsChosen, carry_chosen, own_then, own_source}
use Rattle.adapt_turn.proofs.Carry.{own_replies, same_choices}

-- What the sides say, with another source, another service, or other writers.

abbrev pub with_source : {S H : Type 0} → Source S H → S → SideViews → SideViews
with_source s side sides = record sides { agrees = λ x. s.agrees x side; read = λ x body read. s.has_read x body read side }

abbrev pub with_service : {V : Type 0} → Service V → V → SideViews → SideViews
with_service v side sides = record sides {
  sent = λ heads x came taken. v.has_sent heads x came taken side;
  heard = λ x adapted text. v.has_heard x adapted text side;
}

abbrev pub with_writers : (writers sides : SideViews) → SideViews
with_writers writers sides = record sides { next = writers.next; back = writers.back; refusing = writers.refusing }

-- what the sides say of events that aren't theirs
pub record Others (sides : SideViews) : Type 0 where
  pub agrees_on : (x : Seen) (event : Event) → off_source event ≡ true → sides.agrees x → sides.agrees (after x event)
  pub read_on : (x : Seen) (event : Event) (body : List ℕ) (text : Given) → off_source event ≡ true → sides.read x body text
      → sides.read (after x event) body text
  pub sent_on : (request : List ℕ) (x : Seen) (event : Event) (came bytes taken : List ℕ) → off_sending event ≡ true
      → length came ≡ x.received → length bytes ≡ in_bytes event
      → sides.sent request x came taken → sides.sent request (after x event) (came ++ bytes) taken
  pub heard_on : (x : Seen) (event : Event) (adapted text : List ℕ) → off_replies event ≡ true → sides.heard x adapted text
      → sides.heard (after x event) adapted text
  pub hops_on : (to_next to_back : List ℕ) → KeepsChosen (λ x body. HopsAre sides.next sides.back x body to_next to_back)
  pub refuses_on : (x : Seen) (event : Event) → IsRefusing sides.refusing sides.next sides.back x
      → IsRefusing sides.refusing sides.next sides.back (after x event)

-- what each event keeps of what is seen, events in a row keep
carry_any : (P : Seen → Type 0) → ((x : Seen) (event : Event) → P x → P (after x event)) → (events : List Event) (x : Seen) → P x
    → P (after_all x events)
carry_any P keep [] x p = p
carry_any P keep (event ∷ events) x p = carry_any P keep events (after x event) (keep x event p)

-- What stands once these events are stepped.
record Then (x : Seen) (events : List Event) (out original adapted : List ℕ) (sides : SideViews) (request : List ℕ) (t : Texts) : Type 0
  where
    agrees_is : (after_all x events).closed ≡ false → sides.agrees (after_all x events)
    read_is : sides.read (after_all x events) (original ++ all_original events out) t.source_read
    sent_is : sides.sent request (after_all x events) (original ++ all_original events out) t.service_taken
    heard_is : sides.heard (after_all x events) (adapted ++ all_adapted events out) t.service_read
    hops_are : HopsAre sides.next sides.back (after_all x events) (chosen (after_all x events) (original ++ all_original events out)
        (adapted ++ all_adapted events out)) t.next_taken t.back_taken

-- what each side says once the events are stepped stands with the holding that they lead to
assemble : (h k : Holding) (events : List Event) (out original adapted : List ℕ) (sides : SideViews) (request : List ℕ) (t : Texts)
    → Ran h events out → k ≡ moved_all h events out → EndsBody h.original original → EndsBody h.adapted adapted
    → Then (shows h.history) events out original adapted sides request t
    → IsRefusing sides.refusing sides.next sides.back (after_all (shows h.history) events)
    → (IsDone (moved_all h events out).history → IsDelivered sides.refusing sides.next sides.back (after_all (shows h.history) events)
    (chosen (after_all (shows h.history) events) (original ++ all_original events out) (adapted ++ all_adapted events out)) t.next_taken
    t.back_taken)
    → Stands k sides request t
assemble h k events out original adapted sides request t r is fo fa w rf wd =
    let so : List ℕ = original ++ all_original events out in
    let sa : List ℕ = adapted ++ all_adapted events out in
    subst (λ (y : Holding). Stands y sides request t) (sym is) (record {
      original = so;
      adapted = sa;
      original_is = r.original original fo;
      adapted_is = r.adapted adapted fa;
      agrees_is = subst (λ (y : Seen). y.closed ≡ false → sides.agrees y) (sym r.seen) w.agrees_is;
      read_is = subst (λ (y : Seen). sides.read y so t.source_read) (sym r.seen) w.read_is;
      sent_is = subst (λ (y : Seen). sides.sent request y so t.service_taken) (sym r.seen) w.sent_is;
      heard_is = subst (λ (y : Seen). sides.heard y sa t.service_read) (sym r.seen) w.heard_is;
      hops_are = subst (λ (y : Seen). HopsAre sides.next sides.back y (chosen y so sa) t.next_taken t.back_taken) (sym r.seen) w.hops_are;
      refuses_is = subst (λ (y : Seen). IsRefusing sides.refusing sides.next sides.back y) (sym r.seen) rf;
      done_is = λ n. subst (λ (y : Seen). IsDelivered sides.refusing sides.next sides.back y (chosen y so sa) t.next_taken t.back_taken)
          (sym r.seen) (wd n);
    })

-- a relation of the source, or of what the service read, after events that bring its body nothing

-- what the source read stands after events that aren't the source's, and they bring none of the original
read_kept : (read : Seen → List ℕ → Given → Type 0) (x : Seen) (events : List Event) (out body : List ℕ) (text : Given)
    → ((y : Seen) (event : Event) (bs : List ℕ) (cs : Given) → off_source event ≡ true → read y bs cs → read (after y event) bs cs)
    → AllAre off_source events → read x body text → read (after_all x events) (body ++ all_original events out) text
read_kept read x events out body text law o p =
    subst (λ (bs : List ℕ). read (after_all x events) bs text) (sym (ap (λ (bs : List ℕ). body ++ bs) (none_original events out o)
    ∙ append-nil body))
    (carry (λ y. read y body text) off_source (λ y event q. law y event body text q) events x o p)

-- what the service's wire gave stands after events that are neither replies nor a retry, with no adapted byte
heard_kept : (heard : Seen → List ℕ → List ℕ → Type 0) (x : Seen) (events : List Event) (out body text : List ℕ)
    → ((y : Seen) (event : Event) (bs cs : List ℕ) → off_replies event ≡ true → heard y bs cs → heard (after y event) bs cs)
    → AllAre off_replies events → heard x body text → heard (after_all x events) (body ++ all_adapted events out) text
heard_kept heard x events out body text law o p =
    subst (λ (bs : List ℕ). heard (after_all x events) bs text) (sym (ap (λ (bs : List ℕ). body ++ bs) (none_adapted events out o)
    ∙ append-nil body))
    (carry (λ y. heard y body text) off_replies (λ y event q. law y event body text q) events x o p)

-- the original and the adapted body have the lengths that are seen
record Lengths (h : Holding) (original adapted : List ℕ) : Type 0 where
  original_is : length original ≡ (shows h.history).received
  adapted_is : length adapted ≡ (shows h.history).adapted_received

-- bodies that end where the tapes of a tied holding do have the lengths that are seen
lengths : (h : Holding) (original adapted : List ℕ) → IsTied h → EndsBody h.original original → EndsBody h.adapted adapted
    → Lengths h original adapted
lengths h original adapted t fo fa = let n = ends h t in
    record { original_is = sym fo.end ∙ n.original_end; adapted_is = sym fa.end ∙ n.adapted_end }

-- what the service's wire took stands after events that are neither of sending nor a retry, with what they bring
sent_kept : (sent : Seen → List ℕ → List ℕ → Type 0) (h : Holding) (events : List Event) (out original adapted taken : List ℕ)
    → ((y : Seen) (event : Event) (came bytes cs : List ℕ) → off_sending event ≡ true → length came ≡ y.received
    → length bytes ≡ in_bytes event → sent y came cs → sent (after y event) (came ++ bytes) cs)
    → AllAre off_sending events → MayRun h events out → Lengths h original adapted → sent (shows h.history) original taken
    → sent (after_all (shows h.history) events) (original ++ all_original events out) taken
sent_kept sent h events out original adapted taken law o m l p =
    carry_body (λ y bs. sent y bs taken) off_sending (λ y event came bytes q n k. law y event came bytes taken q n k) events
    (shows h.history) original out o m.carried l.original_is p

-- where the chosen message goes stands after events that aren't the next hop's, with what they bring to each body
hops_kept : (next back : WriterView) (h : Holding) (events : List Event) (out original adapted to_next to_back : List ℕ)
    → KeepsChosen (λ x body. HopsAre next back x body to_next to_back) → IsTied h → AllAre off_hop events → MayRun h events out
    → Lengths h original adapted
    → HopsAre next back (shows h.history) (chosen (shows h.history) original adapted) to_next to_back
    → HopsAre next back (after_all (shows h.history) events) (chosen (after_all (shows h.history) events)
    (original ++ all_original events out) (adapted ++ all_adapted events out)) to_next to_back
hops_kept next back h events out original adapted to_next to_back law t o m l p =
    carry_chosen (λ x body. HopsAre next back x body to_next to_back) law events h.history.plan h.history.events original adapted out
    t.legal m.may o m.carried l.original_is l.adapted_is p

-- The source's pass.

-- what stood before a pass of an open transaction's source stands after it, with what its wire gave
pub source_stands : {S H W : Type 0} (s : Source S H) (w : Wire W) (old new : Lent S W) (sides : SideViews) (passed : PassAnswer)
    (request : List ℕ) (t : Texts)
    → Others (with_source s new.side sides) → IsTied old.hold → (shows old.hold.history).closed ≡ false
    → (d : SourceReported s w old new passed)
    → Stands old.hold (with_source s old.side sides) request t
    → Stands new.hold (with_source s new.side sides) request (record t { source_read = given_then t.source_read d.delta })
source_stands side w old new sides passed request t u tied c d s =
    let h = old.hold in
    let k = new.hold in
    let an : Seen → Type 0 = λ x. side.agrees x new.side in
    let rn : Seen → List ℕ → Given → Type 0 = λ x body read. side.has_read x body read new.side in
    let x = shows h.history in
    let events = stepped passed.failed d.reported in
    let l = lengths h s.original s.adapted tied s.original_is s.adapted_is in
    let o = d.reports.only in
    let m = d.reports.runs in
    assemble h k events d.out s.original s.adapted (with_source side new.side sides) request
    (record t { source_read = given_then t.source_read d.delta })
    (reported_ran tied d.reports) d.reports.is s.original_is s.adapted_is (record {
      agrees_is = λ c. own_then an x passed.failed d.reported (λ cause a. u.agrees_on x (Fail cause) refl a) d.reports.quiet d.agrees;
      read_is = own_source (λ y bs. rn y bs (given_then t.source_read d.delta)) x passed.failed d.reported d.out s.original
          (λ cause bs p. u.read_on x (Fail cause) bs (given_then t.source_read d.delta) refl p) o d.reports.quiet
          (d.goes_on s.original t.source_read s.read_is);
      sent_is = sent_kept (sides.sent request) h events d.out s.original s.adapted t.service_taken (u.sent_on request)
          (all_then is_of_source off_sending (λ event q. (source_off event q).0) (λ cause. refl) passed.failed d.reported o) m l s.sent_is;
      heard_is = heard_kept sides.heard x events d.out s.adapted t.service_read u.heard_on
          (all_then is_of_source off_replies (λ event q. (source_off event q).1) (λ cause. refl) passed.failed d.reported o) s.heard_is;
      hops_are = hops_kept sides.next sides.back h events d.out s.original s.adapted t.next_taken t.back_taken
          (u.hops_on t.next_taken t.back_taken) tied (all_then is_of_source off_hop (λ event q. (source_off event q).2) (λ cause. refl)
          passed.failed d.reported o) m l s.hops_are;
    }) (carry_any (IsRefusing sides.refusing sides.next sides.back) u.refuses_on events x s.refuses_is)
    (λ n. absurd (never_done h events d.out c m.may (reported_ran tied d.reports)
    (all_then is_of_source off_hop (λ event q. (source_off event q).2) (λ cause. refl) passed.failed d.reported o) n))

-- The service's pass that writes.

-- what stood before a write to the service of an open transaction stands after it, with what its wire took
pub send_stands : {V W : Type 0} (v : Service V) (w : Wire W) (old new : Lent V W) (sides : SideViews) (passed : PassAnswer)
    (request : List ℕ) (t : Texts)
    → Others (with_service v new.side sides) → ((x : Seen) (adapted text : List ℕ) → v.has_heard x adapted text old.side
    → v.has_heard x adapted text new.side) → IsTied old.hold
    → (shows old.hold.history).closed ≡ false → (d : SendReported v w old new passed)
    → Stands old.hold (with_service v old.side sides) request t
    → Stands new.hold (with_service v new.side sides) request (record t { service_taken = t.service_taken ++ d.delta })
send_stands v w old new sides passed request t u same tied c d s =
    let h = old.hold in
    let k = new.hold in
    let sn : List ℕ → Seen → List ℕ → List ℕ → Type 0 = λ heads x came taken. v.has_sent heads x came taken new.side in
    let hn : Seen → List ℕ → List ℕ → Type 0 = λ x adapted text. v.has_heard x adapted text new.side in
    let x = shows h.history in
    let events = stepped passed.failed d.reported in
    let l = lengths h s.original s.adapted tied s.original_is s.adapted_is in
    let o = d.reports.only in
    let m = d.reports.runs in
    let os = all_then is_of_sending off_source (λ event q. (sending_off event q).0) (λ cause. refl) passed.failed d.reported o in
    let none : s.original ++ all_original events [] ≡ s.original =
    ap (λ (bs : List ℕ). s.original ++ bs) (none_original events [] os) ∙ append-nil s.original in
    assemble h k events [] s.original s.adapted (with_service v new.side sides) request
    (record t { service_taken = t.service_taken ++ d.delta })
    (reported_ran tied d.reports) d.reports.is s.original_is s.adapted_is (record {
      agrees_is = λ w. carry sides.agrees off_source u.agrees_on events x os (s.agrees_is c);
      read_is = read_kept sides.read x events [] s.original t.source_read u.read_on os s.read_is;
      sent_is = subst (λ (bs : List ℕ). sn request (after_all x events) bs (t.service_taken ++ d.delta)) (sym none)
          (own_then (λ y. sn request y s.original (t.service_taken ++ d.delta)) x passed.failed d.reported
          (λ cause p. subst (λ (bs : List ℕ). sn request (after x (Fail cause)) bs (t.service_taken ++ d.delta)) (append-nil s.original)
          (u.sent_on request x (Fail cause) s.original [] (t.service_taken ++ d.delta) refl l.original_is refl p))
          d.reports.quiet (d.goes_on request s.original t.service_taken s.original_is s.sent_is));
      heard_is = heard_kept hn x events [] s.adapted t.service_read u.heard_on
          (all_then is_of_sending off_replies (λ event q. (sending_off event q).1) (λ cause. refl) passed.failed d.reported o)
          (same x s.adapted t.service_read s.heard_is);
      hops_are = hops_kept sides.next sides.back h events [] s.original s.adapted t.next_taken t.back_taken
          (u.hops_on t.next_taken t.back_taken) tied (all_then is_of_sending off_hop (λ event q. (sending_off event q).2) (λ cause. refl)
          passed.failed d.reported o) m l s.hops_are;
    }) (carry_any (IsRefusing sides.refusing sides.next sides.back) u.refuses_on events x s.refuses_is)
    (λ n. absurd (never_done h events [] c m.may (reported_ran tied d.reports)
    (all_then is_of_sending off_hop (λ event q. (sending_off event q).2) (λ cause. refl) passed.failed d.reported o) n))

-- The service's pass that reads.

-- what stood before a read of an open transaction's service stands after it, with what its wire gave
pub hear_stands : {V W : Type 0} (v : Service V) (w : Wire W) (old new : Lent V W) (sides : SideViews) (passed : PassAnswer)
    (request : List ℕ) (t : Texts)
    → Others (with_service v new.side sides) → ((heads came text : List ℕ) → v.has_sent heads (shows old.hold.history) came text old.side
    → v.has_sent heads (shows old.hold.history) came text new.side) → IsTied old.hold
    → (shows old.hold.history).closed ≡ false → (d : HearReported v w old new passed)
    → Stands old.hold (with_service v old.side sides) request t
    → Stands new.hold (with_service v new.side sides) request (record t { service_read = t.service_read ++ d.delta })
hear_stands v w old new sides passed request t u same tied c d s =
    let h = old.hold in
    let k = new.hold in
    let sn : List ℕ → Seen → List ℕ → List ℕ → Type 0 = λ heads x came taken. v.has_sent heads x came taken new.side in
    let hn : Seen → List ℕ → List ℕ → Type 0 = λ x adapted text. v.has_heard x adapted text new.side in
    let x = shows h.history in
    let events = stepped passed.failed d.reported in
    let l = lengths h s.original s.adapted tied s.original_is s.adapted_is in
    let o = d.reports.only in
    let m = d.reports.runs in
    let os = all_then is_of_replies off_source (λ event q. (replies_off event q).0) (λ cause. refl) passed.failed d.reported o in
    assemble h k events d.out s.original s.adapted (with_service v new.side sides) request
    (record t { service_read = t.service_read ++ d.delta })
    (reported_ran tied d.reports) d.reports.is s.original_is s.adapted_is (record {
      agrees_is = λ w. carry sides.agrees off_source u.agrees_on events x os (s.agrees_is c);
      read_is = read_kept sides.read x events d.out s.original t.source_read u.read_on os s.read_is;
      sent_is = sent_kept (sn request) h events d.out s.original s.adapted t.service_taken (u.sent_on request)
          (all_then is_of_replies off_sending (λ event q. (replies_off event q).1) (λ cause. refl) passed.failed d.reported o) m l
          (same request s.original t.service_taken s.sent_is);
      heard_is = own_replies (λ y bs. hn y bs (t.service_read ++ d.delta)) x passed.failed d.reported d.out s.adapted
          (λ cause bs p. u.heard_on x (Fail cause) bs (t.service_read ++ d.delta) refl p) o d.reports.quiet
          (d.goes_on s.adapted t.service_read s.heard_is);
      hops_are = hops_kept sides.next sides.back h events d.out s.original s.adapted t.next_taken t.back_taken
          (u.hops_on t.next_taken t.back_taken) tied (all_then is_of_replies off_hop (λ event q. (replies_off event q).2) (λ cause. refl)
          passed.failed d.reported o) m l s.hops_are;
    }) (carry_any (IsRefusing sides.refusing sides.next sides.back) u.refuses_on events x s.refuses_is)
    (λ n. absurd (never_done h events d.out c m.may (reported_ran tied d.reports)
    (all_then is_of_replies off_hop (λ event q. (replies_off event q).2) (λ cause. refl) passed.failed d.reported o) n))

-- The writer's pass: on the next hop's wire, or on the source's.

-- where the chosen message goes stands as an open transaction fails
fail_hops : (next back : WriterView) (h : Holding) (original adapted to_next to_back : List ℕ) (cause : Cause)
    → KeepsChosen (λ x body. HopsAre next back x body to_next to_back) → IsTied h → (shows h.history).closed ≡ false
    → Lengths h original adapted
    → HopsAre next back (shows h.history) (chosen (shows h.history) original adapted) to_next to_back
    → HopsAre next back (after (shows h.history) (Fail cause)) (chosen (shows h.history) original adapted) to_next to_back
fail_hops next back h original adapted to_next to_back cause law t c l p =
    let x : Seen = after (shows h.history) (Fail cause) in
    subst (λ (bs : List ℕ). HopsAre next back x (chosen x bs adapted) to_next to_back) (append-nil original)
    (subst (λ (bs : List ℕ). HopsAre next back x (chosen x (original ++ []) bs) to_next to_back) (append-nil adapted)
    (law h.history.plan h.history.events (Fail cause) original adapted [] [] ((c, tt), t.legal) refl l.original_is l.adapted_is refl refl
    p))

-- what stood before a writer's pass stands after it, if where the message goes and its delivery stand with the new writers
pub give_stands : {K G W : Type 0} (hop : Hop K G) (w : Wire W) (old new : Lent K W) (writers sides : SideViews) (passed : PassAnswer)
    (request : List ℕ) (t t' : Texts)
    → Others (with_writers writers sides) → IsTied old.hold → (shows old.hold.history).closed ≡ false
    → (d : HopReported hop w old new passed)
    → (t'.source_read ≡ t.source_read) → (t'.service_taken ≡ t.service_taken) → (t'.service_read ≡ t.service_read)
    → ((original adapted : List ℕ) → EndsBody old.hold.original original → EndsBody old.hold.adapted adapted
    → HopsAre sides.next sides.back (shows old.hold.history) (chosen (shows old.hold.history) original adapted) t.next_taken t.back_taken
    → HopsAre writers.next writers.back (after_all (shows old.hold.history) d.reported) (chosen (shows old.hold.history) original adapted)
    t'.next_taken t'.back_taken)
    → ((original adapted : List ℕ) → EndsBody old.hold.original original → EndsBody old.hold.adapted adapted
    → (after_all (shows old.hold.history) d.reported).closed ≡ true
    → HopsAre sides.next sides.back (shows old.hold.history) (chosen (shows old.hold.history) original adapted) t.next_taken t.back_taken
    → IsDelivered writers.refusing writers.next writers.back (after_all (shows old.hold.history) (stepped passed.failed d.reported))
    (chosen (shows old.hold.history) original adapted) t'.next_taken t'.back_taken)
    → IsRefusing writers.refusing writers.next writers.back (shows old.hold.history)
    → Stands old.hold sides request t → Stands new.hold (with_writers writers sides) request t'
give_stands hop w old new writers sides passed request t t' u tied c d e1 e2 e3 own whole_then refuses s =
    let h = old.hold in
    let k = new.hold in
    let x = shows h.history in
    let events = stepped passed.failed d.reported in
    let l = lengths h s.original s.adapted tied s.original_is s.adapted_is in
    let o = d.reports.only in
    let m = d.reports.runs in
    let os = all_then is_of_hop off_source (λ event q. (hop_off event q).0) (λ cause. refl) passed.failed d.reported o in
    let oa = all_then is_of_hop off_replies (λ event q. (hop_off event q).2) (λ cause. refl) passed.failed d.reported o in
    let body : chosen (after_all x events) (s.original ++ all_original events []) (s.adapted ++ all_adapted events [])
    ≡ chosen x s.original s.adapted =
    ap (λ (bs : List ℕ). chosen (after_all x events) bs (s.adapted ++ all_adapted events []))
    (ap (λ (bs : List ℕ). s.original ++ bs) (none_original events [] os) ∙ append-nil s.original)
    ∙ ap (λ (bs : List ℕ). chosen (after_all x events) s.original bs) (ap (λ (bs : List ℕ). s.adapted ++ bs) (none_adapted events [] oa)
    ∙ append-nil s.adapted)
    ∙ same_choices x events s.original s.adapted oa in
    assemble h k events [] s.original s.adapted (with_writers writers sides) request t'
    (reported_ran tied d.reports) d.reports.is s.original_is s.adapted_is (record {
      agrees_is = λ w. carry sides.agrees off_source u.agrees_on events x os (s.agrees_is c);
      read_is = subst (λ (bs : Given). sides.read (after_all x events) (s.original ++ all_original events []) bs) (sym e1)
          (read_kept sides.read x events [] s.original t.source_read u.read_on os s.read_is);
      sent_is = subst (λ (bs : List ℕ). sides.sent request (after_all x events) (s.original ++ all_original events []) bs) (sym e2)
          (sent_kept (sides.sent request) h events [] s.original s.adapted t.service_taken (u.sent_on request)
          (all_then is_of_hop off_sending (λ event q. (hop_off event q).1) (λ cause. refl) passed.failed d.reported o) m l s.sent_is);
      heard_is = subst (λ (bs : List ℕ). sides.heard (after_all x events) (s.adapted ++ all_adapted events []) bs) (sym e3)
          (heard_kept sides.heard x events [] s.adapted t.service_read u.heard_on oa s.heard_is);
      hops_are = subst (λ (bs : List ℕ). HopsAre writers.next writers.back (after_all x events) bs t'.next_taken t'.back_taken) (sym body)
          (own_then (λ y. HopsAre writers.next writers.back y (chosen x s.original s.adapted) t'.next_taken t'.back_taken) x passed.failed
          d.reported
          (λ cause p. fail_hops writers.next writers.back h s.original s.adapted t'.next_taken t'.back_taken cause
          (u.hops_on t'.next_taken t'.back_taken) tied c l p)
          d.reports.quiet (own s.original s.adapted s.original_is s.adapted_is s.hops_are));
    }) (carry_any (IsRefusing writers.refusing writers.next writers.back) u.refuses_on events x refuses)
    (λ n. subst (λ (bs : List ℕ). IsDelivered writers.refusing writers.next writers.back (after_all x events) bs t'.next_taken
    t'.back_taken) (sym body)
    (whole_then s.original s.adapted s.original_is s.adapted_is
    (done_reported h [] passed.failed d.reported (reported_ran tied d.reports) n) s.hops_are))

-- A failure, and a new beginning, of which every side keeps what it says.

-- what stands of an open transaction stands after it fails, with no further byte on a wire
pub fail_stands : (h k : Holding) (cause : Cause) (sides : SideViews) (request : List ℕ) (t : Texts)
    → Others sides → IsTied h → MayRun h (Fail cause ∷ []) [] → (shows h.history).closed ≡ false → k ≡ moved h (Fail cause) []
    → Stands h sides request t → Stands k sides request t
fail_stands h k cause sides request t u tied m c is s =
    let x = shows h.history in
    let events : List Event = Fail cause ∷ [] in
    let l = lengths h s.original s.adapted tied s.original_is s.adapted_is in
    assemble h k events [] s.original s.adapted sides request t
    (ran h events [] tied m.roomy m.may m.carried m.room) is s.original_is s.adapted_is (record {
      agrees_is = λ w. u.agrees_on x (Fail cause) refl (s.agrees_is c);
      read_is = read_kept sides.read x events [] s.original t.source_read u.read_on (refl, tt) s.read_is;
      sent_is = sent_kept (sides.sent request) h events [] s.original s.adapted t.service_taken (u.sent_on request) (refl, tt) m l
          s.sent_is;
      heard_is = heard_kept sides.heard x events [] s.adapted t.service_read u.heard_on (refl, tt) s.heard_is;
      hops_are = hops_kept sides.next sides.back h events [] s.original s.adapted t.next_taken t.back_taken
          (u.hops_on t.next_taken t.back_taken) tied (refl, tt) m l s.hops_are;
    }) (carry_any (IsRefusing sides.refusing sides.next sides.back) u.refuses_on events x s.refuses_is)
    (λ n. absurd (never_done h events [] c m.may (ran h events [] tied m.roomy m.may m.carried m.room) (refl, tt) n))

-- The request begins anew: of the replies nothing was read, and nothing of the request is taken yet.
pub retry_stands : (h k : Holding) (before sides : SideViews) (request : List ℕ) (t : Texts)
    → Others sides → IsTied h → IsRoomy h → MayFollow h.history.plan h.history.events Retry → k ≡ moved h Retry []
    → ((heads came taken adapted text : List ℕ) → (shows h.history).closed ≡ false → Allows (shows h.history) Retry
    → length came ≡ (shows h.history).received → before.sent heads (shows h.history) came taken
    → before.heard (shows h.history) adapted text → sides.sent heads (after (shows h.history) Retry) came [])
    → ((heads came taken adapted text : List ℕ) → (shows h.history).closed ≡ false → Allows (shows h.history) Retry
    → length came ≡ (shows h.history).received → before.sent heads (shows h.history) came taken
    → before.heard (shows h.history) adapted text → sides.heard (after (shows h.history) Retry) [] [])
    → ((adapted text : List ℕ) → before.heard (shows h.history) adapted text → (shows h.history).heard ≡ false
    → (adapted ≡ []) × (text ≡ []))
    → Stands h (record sides { sent = before.sent; heard = before.heard }) request t
    → Stands k sides request (record t { service_read = []; service_taken = [] })
retry_stands h k before sides request t u tied roomy f is again_sent again_heard unheard s =
    let x = shows h.history in
    let events : List Event = Retry ∷ [] in
    let m : MayRun h events [] = record { may = (f.0, f.1, tt); carried = omega arith; room = (tt, tt); roomy = roomy } in
    let l = lengths h s.original s.adapted tied s.original_is s.adapted_is in
    let quiet = f.1.3 in
    let none : s.adapted ++ [] ≡ [] = append-nil s.adapted ∙ (unheard s.adapted t.service_read s.heard_is quiet).0 in
    assemble h k events [] s.original s.adapted sides request (record t { service_read = []; service_taken = [] })
    (ran h events [] tied m.roomy m.may m.carried m.room) is s.original_is s.adapted_is (record {
      agrees_is = λ w. u.agrees_on x Retry refl (s.agrees_is f.0);
      read_is = read_kept sides.read x events [] s.original t.source_read u.read_on (refl, tt) s.read_is;
      sent_is = subst (λ (bs : List ℕ). sides.sent request (after x Retry) bs []) (sym (append-nil s.original))
          (again_sent request s.original t.service_taken s.adapted t.service_read f.0 f.1 l.original_is s.sent_is s.heard_is);
      heard_is = subst (λ (bs : List ℕ). sides.heard (after x Retry) bs []) (sym none)
          (again_heard request s.original t.service_taken s.adapted t.service_read f.0 f.1 l.original_is s.sent_is s.heard_is);
      hops_are = hops_kept sides.next sides.back h events [] s.original s.adapted t.next_taken t.back_taken
          (u.hops_on t.next_taken t.back_taken) tied (refl, tt) m l s.hops_are;
    }) (carry_any (IsRefusing sides.refusing sides.next sides.back) u.refuses_on events x s.refuses_is)
    (λ n. absurd (never_done h events [] f.0 m.may (ran h events [] tied m.roomy m.may m.carried m.room) (refl, tt) n))

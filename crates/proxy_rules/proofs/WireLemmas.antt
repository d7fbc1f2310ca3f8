-- What the wires took, by what stands.
use Rattle.std.proofs.Common.{◌≡◌, ℕ, ◌≤◌, ◌⊎◌, inl, inr, Bool, true, false, List, [], ◌∷◌, ◌++◌, length, take, Option, Some, None}
use Rattle.std.proofs.Common.{MatchOption, IfSome, if◌then◌else◌, refl, ap, sym, subst, ◌∙◌}
use Rattle.std.proofs.Math.Seq.{take-length}
use Rattle.trace_core.specs.declared.history.Seen.{Seen}
use Rattle.trace_core.specs.declared.history.Point.{Point}
use Rattle.trace_core.specs.declared.history.Point.TheVariants.{Reqmod, Respmod}
use Rattle.trace_core.specs.Faults.{chooses_original}
use Rattle.trace_core.specs.History.{is_plain}
use Rattle.trace_core.proofs.Sound.{sound}
use Rattle.chunk_writer.specs.Writer.{Writer, waiting}
use Rattle.http_side.specs.declared.body.Framing.{Framing}
use Rattle.adapt_sides.specs.Tapes.{chosen, chosen_delivered, chosen_received}
use Rattle.adapt_sides.specs.Turns.Gift.{message, refusal as refused_by}
use Rattle.adapt_hold.specs.Spans.{EndsBody}
use Rattle.adapt_hold.specs.Holding.{Holding, IsTied, shows}
use Rattle.adapt_turn.specs.declared.ends.ServiceEnd.{ServiceEnd}
use Rattle.adapt_turn.specs.Stands.{WriterView, HopsAre, IsDelivered, other_gift}
use Rattle.icap_client.specs.Turns.{Service, ServiceSent}
use Rattle.icap_client.proofs.Prefixes.{sent_is_front_legal}
use Rattle.http_relay.specs.declared.hop.HopStage.{HopStage}
use Rattle.http_relay.specs.declared.hop.HopStage.TheVariants as at
use Rattle.http_relay.specs.Message.{IsFrontOfMessage, IsMessage, length_of}
use Rattle.http_relay.specs.Giving.{Hop, HasGiven, GivesMessage, GivenAt, IsAside, AsideAt, gift_of}
use Rattle.http_relay.proofs.Whole.{front_at, out_front_at, whole_front_at}
use Rattle.proxy_rules.specs.Wires.{TookNoMessage, TookFront, TookMessage, TookRequest, TookOne, OtherTook}

-- an original whose end the tape has is of just as many bytes as came by the history
pub received_is : (h : Holding) (body : List ℕ) → IsTied h → EndsBody h.original body → length body ≡ (shows h.history).received
received_is h body t e = sym e.end ∙ ap (λ (p : ℕ × ℕ). p.1) t.original

-- an adapted body whose end the tape has is of just as many bytes as came by the history
pub adapted_received_is : (h : Holding) (body : List ℕ) → IsTied h → EndsBody h.adapted body
    → length body ≡ (shows h.history).adapted_received
adapted_received_is h body t e = sym e.end ∙ ap (λ (p : ℕ × ℕ). p.1) t.adapted

-- the one of two bodies that is chosen is as long as its count, where nothing came of an adapted one without 200
chosen_by : (c m : Bool) (r a : ℕ) (original adapted : List ℕ) → (m ≡ false → a ≡ 0) → length original ≡ r → length adapted ≡ a
    → length (if c then original else if m then adapted else []) ≡ (if c then r else a)
chosen_by true m r a original adapted z o b = o
chosen_by false true r a original adapted z o b = b
chosen_by false false r a original adapted z o b = sym (z refl)

-- the chosen body is of just as many bytes as came of it by the history, where the tapes have the ends of both
pub chosen_is : (h : Holding) (original adapted : List ℕ) → IsTied h → EndsBody h.original original → EndsBody h.adapted adapted
    → length (chosen (shows h.history) original adapted) ≡ chosen_received (shows h.history)
chosen_is h original adapted t o a =
    let x : Seen = shows h.history in
    chosen_by (chooses_original x) x.modified x.received x.adapted_received original adapted
    (sound h.history.plan h.history.events t.legal).unmodified (received_is h original t o) (adapted_received_is h adapted t a)

-- a service that is offered the message took a prefix of one request with these heads and the original
pub sent_one : (head : List ℕ) (h : Holding) (original taken : List ℕ) (s : Service) → IsTied h → EndsBody h.original original
    → is_plain (shows h.history).plan.kind ≡ false
    → ServiceSent head (shows h.history) original taken s → TookRequest (shows h.history) head original taken
sent_one head h original taken s t o n g = record {
  chunks = g.sent.chunks;
  left = s.writer.left;
  body_is = g.sent.front;
  waits = waiting s.writer;
  taken_is = g.sent.fixed;
  waits_is = g.sent.waits;
  front = sent_is_front_legal h.history.plan h.history.events head original taken s.writer t.legal n (received_is h original t o) g.sent;
}

-- where two texts have no byte together, the first has none
first_none : (xs ys : List ℕ) → xs ++ ys ≡ [] → xs ≡ []
first_none [] ys e = refl
first_none (x ∷ xs) ys e = cc

-- at each stage without a message, what was taken is nothing, or a prefix of a refusal
aside_at : (stage : HopStage) (taken : List ℕ) (w : Writer) → AsideAt stage taken w → TookNoMessage taken
aside_at at.Empty taken w a = inl (first_none taken (waiting w) a)
aside_at at.Message taken w a = absurd a
aside_at at.Whole taken w a = absurd a
aside_at (at.Refusal status) taken w a = inr (status, record { rest = waiting w; whole = sym a })

-- a hop's wire that took no byte of a message took nothing, or a prefix of a refusal
pub aside_none : (taken : List ℕ) (h : Hop) → IsAside taken h → TookNoMessage taken
aside_none taken h a = aside_at h.stage taken h.writer a.text

-- what was taken of a message whose head was made is a prefix of it, where it is one with just the delivered bytes as its body
message_front : (made : List ℕ → Type 0) (whole : Bool) (x : Seen) (f : Framing) (head body taken : List ℕ) (w : Writer) → made head
    → IsFrontOfMessage f head (take (chosen_delivered x) body) taken
    → (IfSome (length_of f) (λ n. chosen_received x ≤ n) → IsFrontOfMessage f head body taken) → GivesMessage x f whole head body taken w
    → TookFront made f x body taken
message_front made whole x f head body taken w k d i g = record {
  head = head;
  made_is = k;
  whole = whole;
  behind = g.behind;
  left = w.left;
  body_is = g.front;
  waits = waiting w;
  taken_is = g.fixed_is;
  waits_is = g.waits;
  within = g.within;
  there = g.there;
  all_out = g.all_out;
  delivered = d;
  front = i;
}

-- a whole message's body is just what was delivered
whole_out_at : (x : Seen) (f : Framing) (head body taken : List ℕ) (w : Writer) → length body ≡ chosen_received x
    → GivesMessage x f true head body taken w → IsFrontOfMessage f head (take (chosen_delivered x) body) taken
whole_out_at x f head body taken w l g = subst (λ (xs : List ℕ). IsFrontOfMessage f head xs taken)
    (sym (ap (λ (n : ℕ). take n body) ((g.all_out refl).1 ∙ sym l) ∙ take-length body))
    (whole_front_at at.Whole x f head body taken w refl l g)

-- at a stage with a message, what was taken is a prefix of one whose head was made
took_at : (made : List ℕ → Type 0) (stage : HopStage) (x : Seen) (f : Framing) (head body taken : List ℕ) (w : Writer) → made head
    → gift_of stage ≡ message → length body ≡ chosen_received x → GivenAt stage x f head body taken w
    → TookFront made f x body taken
took_at made at.Empty x f head body taken w k m l g = cc
took_at made at.Message x f head body taken w k m l g =
    message_front made false x f head body taken w k (out_front_at at.Message x f head body taken w refl l g)
    (λ i. front_at at.Message x f head body taken w refl l i g) g
took_at made at.Whole x f head body taken w k m l g =
    message_front made true x f head body taken w k (whole_out_at x f head body taken w l g)
    (λ i. whole_front_at at.Whole x f head body taken w refl l g) g
took_at made (at.Refusal status) x f head body taken w k m l g = cc

-- a hop that has a message took a prefix of one whose head was made, with the chosen body
pub front_one : (made : List ℕ → Type 0) (x : Seen) (head body taken : List ℕ) (h : Hop) → made head → gift_of h.stage ≡ message
    → length body ≡ chosen_received x → HasGiven x head body taken h
    → TookFront made h.framing x body taken
front_one made x head body taken h k m l g = took_at made h.stage x h.framing head body taken h.writer k m l g.given

-- a writer without a refusal took nothing beside a message
unrefused_at : (stage : HopStage) (taken : List ℕ) (w : Writer) → ((status : ℕ) → gift_of stage ≡ refused_by status → ⊥)
    → AsideAt stage taken w → taken ≡ []
unrefused_at at.Empty taken w none a = first_none taken (waiting w) a
unrefused_at at.Message taken w none a = absurd a
unrefused_at at.Whole taken w none a = absurd a
unrefused_at (at.Refusal status) taken w none a = absurd (none status refl)

-- a hop that has neither a message nor a refusal took nothing
unrefused : (taken : List ℕ) (h : Hop) → ((status : ℕ) → gift_of h.stage ≡ refused_by status → ⊥) → IsAside taken h → taken ≡ []
unrefused taken h none a = unrefused_at h.stage taken h.writer none a.text

-- a service's wire took a prefix of the request that is offered; without a service nothing was taken
pub service_one : {W : Type 0} (head : List ℕ) (h : Holding) (original taken : List ℕ) (service : Option (ServiceEnd Service W)) → IsTied h
    → EndsBody h.original original
    → MatchOption service (taken ≡ []) (λ line. ServiceSent head (shows h.history) original taken line.side)
    → MatchOption service (taken ≡ []) (λ _. is_plain (shows h.history).plan.kind ≡ false
    → TookRequest (shows h.history) head original taken)
service_one head h original taken None t o e = e
service_one head h original taken (Some line) t o g = λ n. sent_one head h original taken line.side t o n g

-- such a writer, as a transaction sees it, where these are the heads that are made for it
abbrev writer_at : (made : Seen → List ℕ → Type 0) → Hop → WriterView
writer_at made hop = record {
  gift = gift_of hop.stage;
  given = λ x head body taken. made x head × HasGiven x head body taken hop;
  aside = λ taken. IsAside taken hop;
  whole = λ x head body taken. made x head × IsMessage hop.framing head body taken;
}

-- where one took the whole message
pub whole_one : (next back : Hop) (next_made back_made : Seen → List ℕ → Type 0) (refusing : Bool) (x : Seen)
    (body to_next to_back : List ℕ)
    → IsDelivered refusing (writer_at next_made next) (writer_at back_made back) x body to_next to_back
    → TookMessage (next_made x) next.framing body to_next ⊎ TookMessage (back_made x) back.framing body to_back
whole_one next back next_made back_made refusing x body to_next to_back d = elim d.1 [
  | inl w ↦ inl (record { head = w.head; made_is = w.whole_is.0; message = w.whole_is.1 })
  | inr w ↦ inr (record { head = w.head; made_is = w.whole_is.0; message = w.whole_is.1 })
]

-- of the wires to the next hop and back, one took a prefix of one message or of a refusal, and the other nothing of a message
pub hops_one : (h : Holding) (next back : Hop) (next_made back_made : Seen → List ℕ → Type 0) (original adapted to_next to_back : List ℕ)
    → IsTied h → EndsBody h.original original → EndsBody h.adapted adapted
    → HopsAre (writer_at next_made next) (writer_at back_made back) (shows h.history) (chosen (shows h.history) original adapted) to_next
    to_back
    → (TookOne (next_made (shows h.history)) next.framing (shows h.history) (chosen (shows h.history) original adapted) to_next
    × TookNoMessage to_back)
    ⊎ (TookNoMessage to_next × TookOne (back_made (shows h.history)) back.framing (shows h.history)
    (chosen (shows h.history) original adapted) to_back)
hops_one h next back next_made back_made original adapted to_next to_back t o a (inl m) =
    inl (inl (m.none, aside_none to_next next m.next_aside_is), aside_none to_back back m.back_aside_is)
hops_one h next back next_made back_made original adapted to_next to_back t o a (inr (inl m)) =
    let x = shows h.history in
    inl (
      inr (front_one (next_made x) x m.head (chosen x original adapted) to_next next m.given_is.0 m.begun
          (chosen_is h original adapted t o a) m.given_is.1),
      aside_none to_back back m.aside_is,
    )
hops_one h next back next_made back_made original adapted to_next to_back t o a (inr (inr (inl m))) =
    let x = shows h.history in
    inr (
      aside_none to_next next m.aside_is,
      inr (front_one (back_made x) x m.head (chosen x original adapted) to_back back m.given_is.0
          m.begun (chosen_is h original adapted t o a) m.given_is.1),
    )
hops_one h next back next_made back_made original adapted to_next to_back t o a (inr (inr (inr m))) =
    inl (inl (m.none, aside_none to_next next m.next_aside_is), aside_none to_back back m.back_aside_is)

-- the wire that isn't the user's, where it gets no refusal, took nothing, or at REQMOD a prefix of a message
pub other_one : (point : Point) (h : Holding) (next back : Hop) (next_made back_made : Seen → List ℕ → Type 0)
    (original adapted to_next to_back : List ℕ)
    → IsTied h → EndsBody h.original original → EndsBody h.adapted adapted
    → ((status : ℕ) → other_gift point (gift_of next.stage) (gift_of back.stage) ≡ refused_by status → ⊥)
    → (point ≡ Respmod → gift_of back.stage ≡ message → ⊥)
    → HopsAre (writer_at next_made next) (writer_at back_made back) (shows h.history) (chosen (shows h.history) original adapted) to_next
    to_back
    → OtherTook point (next_made (shows h.history)) next.framing (shows h.history) (chosen (shows h.history) original adapted) to_next
    to_back
other_one Reqmod h next back next_made back_made original adapted to_next to_back t o a none away (inl m) =
    inl (unrefused to_next next none m.next_aside_is)
other_one Reqmod h next back next_made back_made original adapted to_next to_back t o a none away (inr (inl m)) =
    let x = shows h.history in
    inr (front_one (next_made x) x m.head (chosen x original adapted) to_next next m.given_is.0 m.begun (chosen_is h original adapted t o a)
    m.given_is.1)
other_one Reqmod h next back next_made back_made original adapted to_next to_back t o a none away (inr (inr (inl m))) =
    inl (unrefused to_next next none m.aside_is)
other_one Reqmod h next back next_made back_made original adapted to_next to_back t o a none away (inr (inr (inr m))) =
    inl (unrefused to_next next none m.next_aside_is)
other_one Respmod h next back next_made back_made original adapted to_next to_back t o a none away (inl m) =
    unrefused to_back back none m.back_aside_is
other_one Respmod h next back next_made back_made original adapted to_next to_back t o a none away (inr (inl m)) =
    unrefused to_back back none m.aside_is
other_one Respmod h next back next_made back_made original adapted to_next to_back t o a none away (inr (inr (inl m))) =
    absurd (away refl m.begun)
other_one Respmod h next back next_made back_made original adapted to_next to_back t o a none away (inr (inr (inr m))) =
    unrefused to_back back none m.back_aside_is

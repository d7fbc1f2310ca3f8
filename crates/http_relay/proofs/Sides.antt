-- The source's side over its wire.
use Rattle.std.proofs.Common.{◌≡◌, ℕ, ◌<◌, ◌||◌, refl, inl, inr, Bool, true, false, List, [], ◌++◌, take, drop, ap, sym, subst, ◌∙◌}
use Rattle.std.proofs.Common.{append_assoc, append-nil, arith}
use Rattle.std.proofs.lemmas.List.{take-append-drop}
use Rattle.trace_core.specs.declared.history.Event.{Event}
use Rattle.trace_core.specs.declared.history.Seen.{Seen}
use Rattle.trace_core.specs.Turns.{after_all}
use Rattle.http_relay.specs.Source.{Agrees, BodyRead, BodyReads, MustWait}
use Rattle.http_relay.specs.Reading.{SideRead, SideReads, IsBefore, IsHeadText, framing_of}
use Rattle.http_relay.specs.declared.source_body.SourceBody.{SourceBody}
use Rattle.http_relay.specs.declared.side.SourceSide.{SourceSide}
use Rattle.http_relay.specs.declared.side.head.SourceHead.{SourceHead}
use Rattle.http_relay.specs.declared.side.head.Asks.{Asks}

-- the same message, and the same framing of its body
pub record SameMessage (old new : SourceSide) : Type 0 where
  pub asks : new.asks ≡ old.asks
  pub head : new.head ≡ old.head
  pub way : new.body.framing ≡ old.body.framing

-- so the other half of what is read stays
moved : (x y : Seen) (body part read delta framed : List ℕ) (closed after : Bool) (old new : SourceSide) → SameMessage old new
    → (s : SideRead x body read closed old)
    → read ++ delta ≡ (s.before ++ s.head_text) ++ (framed ++ new.raw.items) → BodyRead y (body ++ part) framed after new.body
    → SideRead y (body ++ part) (read ++ delta) after new
moved x y body part read delta framed closed after old new m s e b = record {
  before = s.before;
  head_text = s.head_text;
  framed = framed;
  text_is = e;
  interims = (s.interims.0, subst (λ (a : Asks). IsBefore a s.interims.0 s.before) (sym m.asks) s.interims.1);
  head = subst (λ (a : Asks). IsHeadText a new.head s.head_text) (sym m.asks)
      (subst (λ (h : SourceHead). IsHeadText old.asks h s.head_text) (sym m.head) s.head);
  way = m.way ∙ (s.way ∙ ap framing_of (sym m.head));
  body_read = b;
}

-- what is framed of the raw bytes
pub framed_raw : (old new : SourceSide) (events : List Event) (used : ℕ) (part : List ℕ) (ended : Bool) → SameMessage old new
    → BodyReads old.body new.body events (take used old.raw.items) part ended → new.raw.items ≡ drop used old.raw.items
    → SideReads old new events [] part ended
framed_raw old new events used part ended m b r = record {
  only = b.only;
  legal = b.legal;
  reads = λ x body read closed s.
      let joined : take used old.raw.items ++ new.raw.items ≡ old.raw.items =
      ap (λ (t : List ℕ). take used old.raw.items ++ t) r ∙ take-append-drop used old.raw.items in
      let texts : read ++ [] ≡ (s.before ++ s.head_text) ++ ((s.framed ++ take used old.raw.items) ++ new.raw.items) =
      append-nil read ∙ (s.text_is ∙ ap (λ (t : List ℕ). (s.before ++ s.head_text) ++ t)
      (ap (λ (t : List ℕ). s.framed ++ t) (sym joined) ∙ sym (append_assoc s.framed (take used old.raw.items) new.raw.items))) in
      moved x (after_all x events) body part read [] (s.framed ++ take used old.raw.items) closed (ended || closed) old new m s texts
      (b.reads x body s.framed closed s.body_read);
}

-- a wire that has ended before has ended, whether it ends now or not
closed_or : (ended closed : Bool) → closed ≡ true → ended || closed ≡ true
closed_or true closed e = refl
closed_or false closed e = e

-- what is known of the wire's end may be more
ended_more : (x : Seen) (body text : List ℕ) (closed ended : Bool) (s : SourceBody) → BodyRead x body text closed s
    → BodyRead x body text (ended || closed) s
ended_more x body text closed ended s b = record {
  count = b.count;
  ended = b.ended;
  reads = b.reads;
  whole = λ e. elim (b.whole e) [ inl w ↦ inl w | inr w ↦ inr (closed_or ended closed w.0, w.1) ];
}

-- more raw bytes, or the wire's end
pub filled_more : (old new : SourceSide) (delta : List ℕ) (ended : Bool) → new.asks ≡ old.asks → new.head ≡ old.head → new.body ≡ old.body
    → new.raw.items ≡ old.raw.items ++ delta → SideReads old new [] delta [] ended
filled_more old new delta ended a h b r = record {
  only = tt;
  legal = λ x g c. (tt, subst (λ (t : SourceBody). Agrees x t) (sym b) g);
  reads = λ x body read closed s.
      let m : SameMessage old new = record { asks = a; head = h; way = ap (λ (t : SourceBody). t.framing) b } in
      let texts : read ++ delta ≡ (s.before ++ s.head_text) ++ (s.framed ++ new.raw.items) =
      ap (λ (t : List ℕ). t ++ delta) s.text_is
      ∙ (append_assoc (s.before ++ s.head_text) (s.framed ++ old.raw.items) delta
      ∙ ap (λ (t : List ℕ). (s.before ++ s.head_text) ++ t) (append_assoc s.framed old.raw.items delta
      ∙ ap (λ (t : List ℕ). s.framed ++ t) (sym r))) in
      moved x x body [] read delta s.framed closed (ended || closed) old new m s texts
      (subst (λ (t : List ℕ). BodyRead x t s.framed (ended || closed) new.body) (sym (append-nil body))
      (subst (λ (t : SourceBody). BodyRead x body s.framed (ended || closed) t) (sym b)
      (ended_more x body s.framed closed ended old.body s.body_read)));
}

-- one after the other, the first without an event
pub side_then : (a b c : SourceSide) (events : List Event) (d e part : List ℕ) (ended : Bool) → SideReads a b [] d [] false
    → SideReads b c events e part ended → SideReads a c events (d ++ e) part ended
side_then a b c events d e part ended f g = record {
  only = g.only;
  legal = λ x h o. g.legal x (f.legal x h o).1 o;
  reads = λ x body read closed s.
      let two : SideRead (after_all x events) ((body ++ []) ++ part) ((read ++ d) ++ e) (ended || closed) c =
      g.reads x (body ++ []) (read ++ d) closed (f.reads x body read closed s) in
      subst (λ (t : List ℕ). SideRead (after_all x events) (t ++ part) (read ++ (d ++ e)) (ended || closed) c) (append-nil body)
      (subst (λ (t : List ℕ). SideRead (after_all x events) ((body ++ []) ++ part) t (ended || closed) c) (append_assoc read d e) two);
}

-- where nothing can be framed, and there is room, no raw byte is left
pub none_left : (s : SourceBody) (raw : List ℕ) (room : ℕ) → MustWait s raw room → s.ended ≡ false → 0 < room → raw ≡ []
none_left s raw room (inl e) f r = let odd : true ≡ false = sym e ∙ f in cc
none_left s raw room (inr (inl e)) f r = e
none_left s raw room (inr (inr h)) f r = absurd (omega (arith, h.0, r))

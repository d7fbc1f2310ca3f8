-- Heads of responses: why one is refused, and what the adapted message's makes of what was heard.
use Rattle.std.proofs.Common.{◌≡◌, ◌≢◌, ℕ, ◌≤◌, ◌⊎◌, inl, inr, Bool, true, false, List, [], ◌∷◌, ◌++◌, length, take, refl, ap, sym, subst}
use Rattle.std.proofs.Common.{◌∙◌, append_assoc, append-nil, arith, None, Result, Ok, Err, IfOk, IsTrue}
use Rattle.std.proofs.lemmas.List.{take-take, length-take-le, length-take}
use Rattle.icap_head.specs.Heads.{Response, HasResponse, RefusesResponse, StartsResponse}
use Rattle.icap_head.proofs.Folding.{head_of_front, unfolded_length}
use Rattle.icap_head.specs.declared.reading.HeadFault.{HeadFault}
use Rattle.icap_head.specs.declared.reading.HeadFault.TheVariants as heads
use Rattle.encapsulated.specs.declared.offsets.Layout.{Layout}
use Rattle.icap_chunks.specs.Machine.{HasRead, start, end_of, fault_of, end_at, faulted_at}
use Rattle.icap_chunks.specs.declared.reader.ChunkReader.{ChunkReader}
use Rattle.icap_chunks.proofs.Readings.{reads_nothing}
use Rattle.trace_core.specs.declared.history.Event.{Event}
use Rattle.trace_core.specs.declared.history.Event.TheVariants.{Mod, Continue, NoMod}
use Rattle.trace_core.specs.declared.history.Payload.{Payload}
use Rattle.trace_core.specs.declared.history.Payload.TheVariants as payloads
use Rattle.trace_core.specs.declared.history.Point.{Point}
use Rattle.trace_core.specs.declared.history.Seen.{Seen}
use Rattle.trace_core.specs.View.{after}
use Rattle.icap_client.specs.Events.{MayCome}
use Rattle.icap_client.specs.Replies.{IsEncapsulatedHead, has_body, payload_if, IsBody, IsHead, IsBareReply, IsModHead, lists_of}
use Rattle.icap_client.specs.Replies.{HasNothing, HasLayout, HasAdaptedHead}
use Rattle.adapt_bytes.specs.Fields.{FieldList}
use Rattle.icap_client.specs.Said.{says_close}
use Rattle.icap_client.specs.Heard.{noted, Reader, HasHeard, HeardTo, HeardModHead, HeardMod, HeardInterim, HeardNoMod, with_head, in_stage}
use Rattle.icap_client.specs.Heard.{KeepsLimits}
use Rattle.icap_client.specs.Heard.HeardFinal.{changed, unchanged}
use Rattle.icap_client.specs.Hearing.{ReaderHears, PassesWithoutEvent}
use Rattle.icap_client.specs.Hearing.PassesWithoutEvent.{waits, goes_on}
use Rattle.icap_client.specs.Replies.{IsContinueOrNothing}
use Rattle.icap_client.specs.Refused.{RefusesReply, RefusesHead, SpellsReply, SpellsNoReply, MayReply, IsMisfit, IsFit}
use Rattle.icap_client.specs.Refused.IsMisfit.{ends_early}
use Rattle.adapt_sides.specs.declared.fault.ClientFault.{ClientFault}
use Rattle.adapt_sides.specs.declared.fault.ClientFault.TheVariants as faults
use Rattle.icap_client.specs.declared.replies.Reply.{Reply}
use Rattle.icap_client.specs.declared.replies.Reply.TheVariants as replies
use Rattle.icap_client.specs.declared.stage.Stage.{Stage}
use Rattle.icap_client.specs.declared.stage.Stage.TheVariants.{Replies, Head, Body, Over}

-- bytes that begin with a head which spells no reply that is taken are refused for that
pub refuses_said : (fault : ClientFault) (x : Seen) (point : Point) (raw : List ℕ) (value : Response) (size : ℕ)
    → HasResponse raw value size → SpellsNoReply fault point value → RefusesReply fault x point raw
refuses_said faults.Head x point raw value size h s = absurd s
refuses_said faults.Layout x point raw value size h s = (value, size, h, s)
refuses_said faults.Chunk x point raw value size h s = absurd s
refuses_said faults.NotLegal x point raw value size h s = absurd s
refuses_said faults.Status x point raw value size h s = (value, size, h, s)
refuses_said faults.Closed x point raw value size h s = absurd s
refuses_said faults.Device x point raw value size h s = absurd s
refuses_said faults.NoMemory x point raw value size h s = absurd s

-- a fault that isn't want of memory stands in the text
pub stands_for : {A : Type 0} (fault : HeadFault) (text : List ℕ) → fault ≢ heads.NoMemory
    → ((fault ≡ heads.NoMemory) × A) ⊎ RefusesResponse fault text → RefusesResponse fault text
stands_for fault text n (inl h) = absurd (n h.0)
stands_for fault text n (inr s) = s

-- bytes without a head are refused for that, or for want of memory
pub refuses_head : {A : Type 0} (fault : HeadFault) (found : ClientFault) (x : Seen) (point : Point) (raw : List ℕ)
    → (((fault ≡ heads.NoMemory) × (found ≡ faults.NoMemory)) ⊎ ((found ≡ faults.Head) × (fault ≢ heads.NoMemory) × (fault ≢ heads.More)))
    → ((fault ≡ heads.NoMemory) × A) ⊎ RefusesResponse fault raw → RefusesReply found x point raw
refuses_head fault found x point raw (inl m) s = subst (λ (f : ClientFault). RefusesReply f x point raw) (sym m.1) tt
refuses_head fault found x point raw (inr h) s = subst (λ (f : ClientFault). RefusesReply f x point raw) (sym h.0)
    (fault, h.2, stands_for fault raw h.1 s)

-- an adapted head that ends before the layout's last byte of it is a misfit
pub misfit_early : (layout : Layout) (raw : List ℕ) (size : ℕ) → size ≤ length (take layout.offset raw)
    → IsEncapsulatedHead (take size (take layout.offset raw)) → size ≢ layout.offset → IsMisfit layout raw
misfit_early layout raw size l h n =
    let e = length-take layout.offset raw in
    let small : size ≤ layout.offset = omega arith in
    ends_early size (omega arith) (subst IsEncapsulatedHead (take-take size layout.offset raw small) h) n small

-- a head that fits is refused where its response may not come
pub fit_refused : (fault : ClientFault) (x : Seen) (layout : Layout) (raw head : List ℕ) → head ≡ take layout.offset raw
    → IsEncapsulatedHead head → length head ≡ layout.offset
    → (fault ≡ faults.NoMemory) ⊎ ((fault ≡ faults.NotLegal) × (MayCome x (Mod (payload_if (has_body layout.body))) → ⊥))
    → RefusesHead fault x layout raw
fit_refused fault x layout raw head e h l (inl n) = subst (λ (f : ClientFault). RefusesHead f x layout raw) (sym n) tt
fit_refused fault x layout raw head e h l (inr n) =
    let long : length head ≡ length (take layout.offset raw) = ap (λ (t : List ℕ). length t) e in
    let fit : IsFit layout raw = record {
      there = omega (arith, long, l, length-take layout.offset raw);
      is = subst IsEncapsulatedHead e h;
    } in
    subst (λ (f : ClientFault). RefusesHead f x layout raw) (sym n.0) (fit, n.1)

-- false isn't true
false_is_not_true : false ≡ true → ⊥
false_is_not_true e = cc

-- a chunk reader before its first byte has no end
none_starts : end_of start ≡ None
unfolding end_at
none_starts = refl

-- a chunk reader before its first byte has no fault
sound_starts : fault_of start ≡ None
unfolding faulted_at
sound_starts = refl

-- an adapted message's head with a body after it
pub hears_body : (x : Seen) (r : Reader) (layout : Layout) (head : List ℕ) → MayCome x (Mod payloads.Body) → has_body layout.body ≡ true
    → r.stage ≡ Head layout
    → IsEncapsulatedHead head → length head ≡ layout.offset
    → ReaderHears x r (with_head r layout head (Body start)) (Mod payloads.Body ∷ []) head []
hears_body x r layout head may b stage ended size = record {
  legal = (may.0, may.1, tt);
  only = (refl, tt);
  behind = inr may.1.0;
  heard = λ adapted read h.
      let m : HeardModHead x adapted read r layout = subst (λ (s : Stage). HeardTo s x adapted read r) stage h in
      let none : adapted ++ [] ≡ [] = append-nil adapted ∙ m.first.none in
      record {
        marks = record { no_mod_is = m.first.marks.no_mod_is; modified_is = refl; has_body_is = refl; over_is = m.first.marks.over_is };
        count = omega (arith, m.first.count, ap (λ (t : List ℕ). length t) none);
        layout = layout;
        before = m.before;
        heads = m.icap ++ head;
        text = [];
        text_is = ap (λ (t : List ℕ). t ++ head) m.text_is ∙ (append_assoc m.before m.icap head
            ∙ ap (λ (t : List ℕ). m.before ++ t) (sym (append-nil (m.icap ++ head))));
        interim = m.first.interim;
        heads_are = record { icap = m.icap; text_is = refl; is = m.head; head_is = ended; size = size };
        said = m.said;
        layout_is = refl;
        with_body = b;
        body = subst (λ (t : List ℕ). HasRead [] t start) (sym none) (reads_nothing none_starts);
        going_on = none_starts;
        no_fault = sound_starts;
      };
}

-- and with none
pub hears_null : (x : Seen) (r : Reader) (layout : Layout) (head : List ℕ) → MayCome x (Mod payloads.NullBody)
    → has_body layout.body ≡ false → r.stage ≡ Head layout
    → IsEncapsulatedHead head → length head ≡ layout.offset
    → ReaderHears x r (with_head r layout head Over) (Mod payloads.NullBody ∷ []) head []
hears_null x r layout head may b stage ended size = record {
  legal = (may.0, may.1, tt);
  only = (refl, tt);
  behind = inr may.1.0;
  heard = λ adapted read h.
      let m : HeardModHead x adapted read r layout = subst (λ (s : Stage). HeardTo s x adapted read r) stage h in
      let none : adapted ++ [] ≡ [] = append-nil adapted ∙ m.first.none in
      let whole : HeardMod (after x (Mod payloads.NullBody)) (adapted ++ []) (read ++ head) (with_head r layout head Over) = record {
        layout = layout;
        marks = record {
          no_mod_is = m.first.marks.no_mod_is;
          modified_is = refl;
          has_body_is = m.first.marks.has_body_is ∙ sym b;
          over_is = refl;
        };
        count = omega (arith, m.first.count, ap (λ (t : List ℕ). length t) none);
        before = m.before;
        last = m.icap ++ head;
        text_is = ap (λ (t : List ℕ). t ++ head) m.text_is ∙ append_assoc m.before m.icap head;
        interim = m.first.interim;
        reply = record {
          heads = m.icap ++ head;
          rest = [];
          text_is = sym (append-nil (m.icap ++ head));
          heads_are = record { icap = m.icap; text_is = refl; is = m.head; head_is = ended; size = size };
          body_is = subst (λ (b : Bool). IsBody b [] (adapted ++ [])) (sym b) (refl, none);
        };
        said = m.said;
        layout_is = refl;
      } in
      changed whole;
}

-- a head at the beginning of the text, as a text of its own
pub is_head : (raw : List ℕ) (value : Response) (size : ℕ) → HasResponse raw value size → IsHead (take size raw) value
is_head raw value size h =
    let e : length (take size raw) ≡ size = length-take-le size raw (omega (arith, h.inside, unfolded_length raw)) in
    subst (λ (n : ℕ). HasResponse (take size raw) value n) (sym e) (head_of_front (StartsResponse value) raw value.fields size h)

-- a head of this status that bytes begin with, and that encapsulates nothing, is a bare reply
is_bare : (point : Point) (status : ℕ) (raw : List ℕ) (value : Response) (size : ℕ) → HasResponse raw value size → value.status ≡ status
    → HasNothing point (lists_of value) → IsBareReply point status (take size raw)
is_bare point status raw value size h s l = record { value = value; head = is_head raw value size h; status_is = s; list = l }

-- a head of status 200 that bytes begin with, with a layout and an adapted head, is the ICAP head of a 200
is_mod : (point : Point) (raw : List ℕ) (value : Response) (size : ℕ) (layout : Layout) → HasResponse raw value size
    → (value.status ≡ 200) × HasLayout point (lists_of value) layout × HasAdaptedHead layout → IsModHead point layout (take size raw)
is_mod point raw value size layout h s = record {
  value = value;
  head = is_head raw value size h;
  status_is = s.0;
  list = s.1;
  adapted = s.2;
}

-- a reader that waits for replies has heard a 100 or nothing
interim_at : (x : Seen) (adapted read : List ℕ) (r : Reader) → r.stage ≡ Replies → HasHeard x adapted read r → HeardInterim x adapted read r
interim_at x adapted read r stage h = subst (λ (s : Stage). HeardTo s x adapted read r) stage h

-- a 100
pub hears_continue : (x : Seen) (r : Reader) (raw : List ℕ) (value : Response) (size : ℕ) → MayCome x Continue → r.stage ≡ Replies
    → HasResponse raw value size
    → (value.status ≡ 100) × HasNothing r.point (lists_of value) → ReaderHears x r r (Continue ∷ []) (take size raw) []
hears_continue x r raw value size may stage h s = record {
  legal = (may.0, may.1, tt);
  only = (refl, tt);
  behind = inr may.1.0;
  heard = λ adapted read i.
      let m : HeardInterim x adapted read r = interim_at x adapted read r stage i in
      let none : adapted ++ [] ≡ [] = append-nil adapted ∙ m.none in
      let before : read ≡ [] = subst (λ (c : Bool). IsContinueOrNothing r.point c read) may.1.4 m.interim in
      let text : read ++ take size raw ≡ take size raw = ap (λ (t : List ℕ). t ++ take size raw) before in
      let now : HeardInterim (after x Continue) (adapted ++ []) (read ++ take size raw) r = record {
        marks = record {
          no_mod_is = m.marks.no_mod_is;
          modified_is = m.marks.modified_is;
          has_body_is = m.marks.has_body_is;
          over_is = m.marks.over_is;
        };
        none = none;
        count = omega (arith, m.count);
        interim = subst (λ (t : List ℕ). IsBareReply r.point 100 t) (sym text) (is_bare r.point 100 raw value size h s.0 s.1);
      } in
      subst (λ (s : Stage). HeardTo s (after x Continue) (adapted ++ []) (read ++ take size raw) r) (sym stage) now;
}

-- a 204
pub hears_no_mod : (x : Seen) (r new : Reader) (raw : List ℕ) (value : Response) (size : ℕ) → new ≡ in_stage r Over → MayCome x NoMod
    → r.stage ≡ Replies → HasResponse raw value size
    → (value.status ≡ 204) × HasNothing r.point (lists_of value) → (r.remarks ≡ value.fields) × (r.closes ≡ says_close value.fields)
    → ReaderHears x r new (NoMod ∷ []) (take size raw) []
hears_no_mod x r new raw value size is may stage h s n =
    subst (λ (n : Reader). ReaderHears x r n (NoMod ∷ []) (take size raw) []) (sym is) (record {
      legal = (may.0, may.1, tt);
      only = (refl, tt);
      behind = inr may.1.0;
      heard = λ adapted read i.
          let m : HeardInterim x adapted read r = interim_at x adapted read r stage i in
          let whole : HeardNoMod (after x NoMod) (adapted ++ []) (read ++ take size raw) (in_stage r Over) = record {
            marks = record {
              no_mod_is = refl;
              modified_is = m.marks.modified_is;
              has_body_is = m.marks.has_body_is;
              over_is = m.marks.over_is;
            };
            none = append-nil adapted ∙ m.none;
            count = omega (arith, m.count);
            before = read;
            last = take size raw;
            text_is = refl;
            interim = m.interim;
            reply = is_bare r.point 204 raw value size h s.0 s.1;
            said = record { value = value; head = is_head raw value size h; remarks_are = n.0; closes_is = n.1 };
          } in
          unchanged whole;
    })

-- the ICAP head of a 200
pub hears_head : (x : Seen) (r new : Reader) (raw : List ℕ) (value : Response) (size : ℕ) (layout : Layout) → new ≡ in_stage r (Head layout)
    → r.stage ≡ Replies → HasResponse raw value size
    → (value.status ≡ 200) × HasLayout r.point (lists_of value) layout × HasAdaptedHead layout
    → (r.remarks ≡ value.fields) × (r.closes ≡ says_close value.fields) → ReaderHears x r new [] (take size raw) []
hears_head x r new raw value size layout is stage h s n = subst (λ (n : Reader). ReaderHears x r n [] (take size raw) []) (sym is) (record {
  legal = tt;
  only = tt;
  behind = inl refl;
  heard = λ adapted read i.
      let m : HeardInterim x adapted read r = interim_at x adapted read r stage i in
      record {
        before = read;
        icap = take size raw;
        first = record { marks = m.marks; none = append-nil adapted ∙ m.none; count = m.count; interim = m.interim };
        text_is = refl;
        head = is_mod r.point raw value size layout h s;
        said = record { value = value; head = is_head raw value size h; remarks_are = n.0; closes_is = n.1 };
      };
})

-- the ICAP head of a 200 is used without an event
pub passes_head : (r new : Reader) (raw : List ℕ) (value : Response) (size : ℕ) (layout : Layout) → new ≡ in_stage r (Head layout)
    → HasResponse raw value size
    → (value.status ≡ 200) × HasLayout r.point (lists_of value) layout × HasAdaptedHead layout → PassesWithoutEvent r new size raw
passes_head r new raw value size layout is h s = goes_on layout (ap (λ (r : Reader). r.stage) is) (ap (λ (r : Reader). r.point) is)
    (is_mod r.point raw value size layout h s)

-- a prefix of an ICAP head of which none is used makes no event
pub passes_none : (r : Reader) (raw : List ℕ) → RefusesResponse heads.More raw → PassesWithoutEvent r r 0 raw
passes_none r raw s = waits refl refl refl s

-- what is noted before a final response is no part of what was heard
pub hears_noted : (x : Seen) (r new : Reader) (remarks : FieldList) (closes : Bool) (events : List Event) (bytes part : List ℕ)
    → r.stage ≡ Replies → ReaderHears x (noted r remarks closes) new events bytes part → ReaderHears x r new events bytes part
hears_noted x r new remarks closes events bytes part stage h = record {
  legal = h.legal;
  only = h.only;
  behind = h.behind;
  heard = λ adapted read i.
      let m : HeardInterim x adapted read r = interim_at x adapted read r stage i in
      let n : HeardInterim x adapted read (noted r remarks closes) =
      record { marks = m.marks; none = m.none; count = m.count; interim = m.interim } in
      h.heard adapted read (subst (λ (s : Stage). HeardTo s x adapted read (noted r remarks closes)) (sym stage) n);
}

-- bytes that make no event after a response's remarks were noted make none for the reader before that
pub passes_noted : (r new : Reader) (remarks : FieldList) (closes : Bool) (used : ℕ) (raw : List ℕ)
    → PassesWithoutEvent (noted r remarks closes) new used raw → PassesWithoutEvent r new used raw
passes_noted r new remarks closes used raw (waits z e p s) = waits z e p s
passes_noted r new remarks closes used raw (goes_on layout e p h) = goes_on layout e p h

-- the adapted message's head, with a body after it or with none
pub hears_mod : (x : Seen) (r new : Reader) (layout : Layout) (head : List ℕ) (b : Bool) (p : Payload) (stage : Stage) → p ≡ payload_if b
    → b ≡ has_body layout.body → ((b ≡ true) → stage ≡ Body start) → ((b ≡ false) → stage ≡ Over)
    → new ≡ with_head r layout head stage → MayCome x (Mod p) → r.stage ≡ Head layout → IsEncapsulatedHead head
    → length head ≡ layout.offset → ReaderHears x r new (Mod p ∷ []) head []
hears_mod x r new layout head true p stage q e t f is may at ended size =
    subst (λ (k : Payload). ReaderHears x r new (Mod k ∷ []) head []) (sym q)
    (subst (λ (n : Reader). ReaderHears x r n (Mod payloads.Body ∷ []) head [])
    (sym (is ∙ ap (λ (s : Stage). with_head r layout head s) (t refl)))
    (hears_body x r layout head (subst (λ (k : Payload). MayCome x (Mod k)) q may) (sym e) at ended size))
hears_mod x r new layout head false p stage q e t f is may at ended size =
    subst (λ (k : Payload). ReaderHears x r new (Mod k ∷ []) head []) (sym q)
    (subst (λ (n : Reader). ReaderHears x r n (Mod payloads.NullBody ∷ []) head [])
    (sym (is ∙ ap (λ (s : Stage). with_head r layout head s) (f refl)))
    (hears_null x r layout head (subst (λ (k : Payload). MayCome x (Mod k)) q may) (sym e) at ended size))

-- a 100 or a 204 that may not come
untimely_continue : (t : Bool) (x : Seen) (point : Point) (raw : List ℕ) (value : Response) (size : ℕ) → t ≡ false
    → (MayCome x Continue → IsTrue t) → HasResponse raw value size
    → (value.status ≡ 100) × HasNothing point (lists_of value) → RefusesReply faults.NotLegal x point raw
untimely_continue t x point raw value size e m h s = (value, size, h, inl (s.0, s.1, λ may. false_is_not_true (sym e ∙ m may)))

-- a 204 that may not come is refused as not legal
untimely_no_mod : (t : Bool) (x : Seen) (point : Point) (raw : List ℕ) (value : Response) (size : ℕ) → t ≡ false
    → (MayCome x NoMod → IsTrue t) → HasResponse raw value size
    → (value.status ≡ 204) × HasNothing point (lists_of value) → RefusesReply faults.NotLegal x point raw
untimely_no_mod t x point raw value size e m h s = (value, size, h, inr (s.0, s.1, λ may. false_is_not_true (sym e ∙ m may)))

-- a reply that may not come now is refused as not legal
pub untimely : (t : Bool) (reply : Reply) (x : Seen) (point : Point) (raw : List ℕ) (value : Response) (size : ℕ) → t ≡ false
    → (MayReply x reply → IsTrue t) → HasResponse raw value size
    → SpellsReply point value reply → RefusesReply faults.NotLegal x point raw
untimely t replies.Continue x point raw value size e m h s = untimely_continue t x point raw value size e m h s
untimely t replies.NoMod x point raw value size e m h s = untimely_no_mod t x point raw value size e m h s
untimely t (replies.Mod layout) x point raw value size e m h s = absurd (false_is_not_true (sym e ∙ m tt))

-- the limits of the stages after an adapted message's head
pub keeps_start : (s : Stage) (chunks : ChunkReader) → s ≡ Body chunks → chunks ≡ start → KeepsLimits s
keeps_start s chunks e f = subst KeepsLimits (sym (e ∙ ap Body f)) (none_starts, sound_starts)

-- after a final response's end a stage keeps its limits
pub keeps_over : (s : Stage) → s ≡ Over → KeepsLimits s
keeps_over s e = subst KeepsLimits (sym e) tt

-- what follows of each value that is answered
pub ok_map : {A B : Type 0} (r : Result A B) (P Q : A → Type 0) → ((a : A) → P a → Q a) → IfOk r P → IfOk r Q
ok_map (Ok a) P Q f h = f a h
ok_map (Err b) P Q f h = tt

-- How framing goes on: from one head to the next, and within a body.
use Rattle.std.proofs.Common.{◌≡◌, ℕ, zero, suc, ◌+◌, ◌<◌, ◌≤◌, ◌⊎◌, inl, inr, Bool, true, false, List, [], ◌++◌, length, take, drop, refl}
use Rattle.std.proofs.Common.{ap, sym, subst, ◌∙◌, append_assoc, append-nil, arith, length-append, Option, Some, None, is_some}
use Rattle.std.proofs.lemmas.List.{take-append-drop, length-take-le}
use Rattle.std.proofs.Math.Seq.{take-add}
use Rattle.icap_head.specs.Heads.{RefusesResponse}
use Rattle.icap_head.specs.declared.reading.HeadFault.TheVariants.{More}
use Rattle.encapsulated.specs.declared.offsets.Layout.{Layout}
use Rattle.icap_chunks.specs.Machine.{end_of, fault_of}
use Rattle.icap_chunks.specs.declared.reader.ChunkReader.{ChunkReader}
use Rattle.icap_chunks.proofs.Readings.{reads_end}
use Rattle.trace_core.specs.declared.history.Event.{Event}
use Rattle.trace_core.specs.declared.history.Event.TheVariants.{Ad, AdEnd}
use Rattle.trace_core.specs.declared.history.Seen.{Seen}
use Rattle.trace_core.specs.View.{after}
use Rattle.icap_client.specs.Events.{AllAre, is_of_replies, MayHear, MayAllFollow, after_all, listed, ad_sum, ad_events, adapted_events}
use Rattle.icap_client.specs.Replies.{IsContinueOrNothing, IsModHead, IsBody}
use Rattle.icap_client.specs.Heard.{Reader, HasHeard, HeardTo, HeardBody, HeardMod, in_stage}
use Rattle.icap_client.specs.Heard.HeardFinal.{changed}
use Rattle.icap_client.specs.Hearing.{ReaderHears, PassesWithoutEvent, MustWait, HasNoEmptyLine, ReadsOn}
use Rattle.icap_client.specs.Hearing.PassesWithoutEvent.{waits, goes_on}
use Rattle.icap_client.specs.Refused.{RefusesHead, RefusesBehind, IsUntimelyBody}
use Rattle.icap_client.specs.Refused.IsUntimelyBody.{bytes, end}
use Rattle.adapt_sides.specs.declared.fault.ClientFault.{ClientFault}
use Rattle.icap_client.specs.declared.stage.Stage.{Stage}
use Rattle.icap_client.specs.declared.stage.Stage.TheVariants.{Replies, Head, Body, Over}
use Rattle.icap_client.proofs.Bodies.{not_ended}

-- first without an event, then on
pub hears_then : (x : Seen) (a b c : Reader) (o : Option Event) (events : List Event) (raw rest : List ℕ) (m n : ℕ) → o ≡ None
    → ReaderHears x a b (listed o) (take m raw) []
    → rest ≡ drop m raw → ReaderHears x b c events (take n rest) [] → ReaderHears x a c events (take (m + n) raw) []
hears_then x a b c o events raw rest m n none f is g =
    let first : ReaderHears x a b [] (take m raw) [] = subst (λ (p : Option Event). ReaderHears x a b (listed p) (take m raw) []) none f in
    record {
      legal = g.legal;
      only = g.only;
      behind = g.behind;
      heard = λ adapted read h.
          let two : HasHeard (after_all x events) ((adapted ++ []) ++ []) ((read ++ take m raw) ++ take n rest) c =
          g.heard (adapted ++ []) (read ++ take m raw) (first.heard adapted read h) in
          let texts : (read ++ take m raw) ++ take n rest ≡ read ++ take (m + n) raw =
          append_assoc read (take m raw) (take n rest) ∙ ap (λ (t : List ℕ). read ++ t)
          (ap (λ (t : List ℕ). take m raw ++ take n t) is ∙ sym (take-add m n raw)) in
          subst (λ (t : List ℕ). HasHeard (after_all x events) (adapted ++ []) t c) texts
          (subst (λ (t : List ℕ). HasHeard (after_all x events) t ((read ++ take m raw) ++ take n rest) c) (append-nil (adapted ++ []))
          two);
    }

-- where an adapted head is short of its layout, with no empty line yet, a reader must wait
pub waits_head : (b c : Reader) (layout : Layout) (raw rest : List ℕ) (m n room : ℕ) → b.stage ≡ Head layout → rest ≡ drop m raw → n ≡ 0
    → c ≡ b → length rest < layout.offset → HasNoEmptyLine rest
    → MustWait c.stage (drop (m + n) raw) room
waits_head b c layout raw rest m n room stage is z same l h =
    let sum : m ≡ m + n = omega arith in
    let e : rest ≡ drop (m + n) raw = is ∙ ap (λ (k : ℕ). drop k raw) sum in
    subst (λ (s : Stage). MustWait s (drop (m + n) raw) room) (sym (ap (λ (r : Reader). r.stage) same ∙ stage))
    (subst (λ (t : List ℕ). (length t < layout.offset) × HasNoEmptyLine t) e (l, h))

-- after bytes that made no event, and are no head of a 200, a reader must wait
pub waits_reply : (a b : Reader) (raw : List ℕ) (m room : ℕ) → PassesWithoutEvent a b m raw → a.stage ≡ Replies
    → ((layout : Layout) → b.stage ≡ Head layout → ⊥) → MustWait b.stage (drop m raw) room
waits_reply a b raw m room (waits z e p s) r not =
    subst (λ (t : Stage). MustWait t (drop m raw) room) (sym (e ∙ r)) (subst (λ (k : ℕ). RefusesResponse More (drop k raw)) (sym z) s)
waits_reply a b raw m room (goes_on layout e q p) r not = absurd (not layout e)

-- bytes of which a 200's ICAP head was used are refused for what its other head is refused for
pub refuses_behind : (fault : ClientFault) (x : Seen) (a b : Reader) (layout : Layout) (raw rest : List ℕ) (m : ℕ)
    → PassesWithoutEvent a b m raw → a.stage ≡ Replies → b.stage ≡ Head layout
    → rest ≡ drop m raw → RefusesHead fault x layout rest → RefusesBehind fault x a.point raw
refuses_behind fault x a b layout raw rest m (waits z e q s) r h is f =
    let odd : Replies ≡ Head layout = sym r ∙ (sym e ∙ h) in cc
refuses_behind fault x a b layout raw rest m (goes_on found e q p) r h is f =
    let both : Head found ≡ Head layout = sym e ∙ h in
    let same : found ≡ layout = cc in
    record {
      icap = take m raw;
      rest = drop m raw;
      layout = layout;
      raw_is = sym (take-append-drop m raw);
      is = subst (λ (l : Layout). IsModHead a.point l (take m raw)) same p;
      refuses = subst (λ (t : List ℕ). RefusesHead fault x layout t) is f;
    }

-- an option that is some has a value
some_is : {A : Type 0} (o : Option A) → is_some o ≡ true → (v : A) × (o ≡ Some v)
some_is None e = cc
some_is (Some v) e = (v, refl)

-- bytes of a body that may not come, or its end, are untimely
pub untimely_body : (x : Seen) (chunks next : ChunkReader) (raw out : List ℕ) (used count : ℕ) (ended : Bool)
    → ReadsOn chunks raw used (take count out) next → count ≤ length out → ended ≡ is_some (end_of next)
    → ((0 < count) × (MayHear x (Ad count) → ⊥)) ⊎ ((count ≡ 0) × (ended ≡ true) × (MayHear x AdEnd → ⊥)) → IsUntimelyBody x chunks raw
untimely_body x chunks next raw out used count ended f l e (inl h) =
    let long : length (take count out) ≡ count = length-take-le count out l in
    bytes used (take count out) next f (omega (arith, long, h.0)) (λ m. h.1 (subst (λ (n : ℕ). MayHear x (Ad n)) long m))
untimely_body x chunks next raw out used count ended f l e (inr h) =
    let found = some_is (end_of next) (sym e ∙ h.1) in
    end used next found.0 (subst (λ (n : ℕ). ReadsOn chunks raw used (take n out) next) h.0 f) found.1 h.2

-- bytes of the adapted body change its count alone
record AfterAds (x y : Seen) (n : ℕ) : Type 0 where
  no_mod_is : y.no_mod ≡ x.no_mod
  modified_is : y.modified ≡ x.modified
  has_body_is : y.has_body ≡ x.has_body
  over_is : y.adapted_over ≡ x.adapted_over
  continued_is : y.continued ≡ x.continued
  count_is : y.adapted_received ≡ n + x.adapted_received

-- bytes of the adapted body change a history's count of them alone
after_ads : (x : Seen) (n : ℕ) → AfterAds x (after_all x (ad_events n)) n
after_ads x zero = record {
  no_mod_is = refl;
  modified_is = refl;
  has_body_is = refl;
  over_is = refl;
  continued_is = refl;
  count_is = omega arith;
}
after_ads x (suc n) = record {
  no_mod_is = refl;
  modified_is = refl;
  has_body_is = refl;
  over_is = refl;
  continued_is = refl;
  count_is = refl;
}

-- the adapted body's end comes to the history after its bytes
after_end : (x : Seen) (n : ℕ) → after_all x (adapted_events n true) ≡ after (after_all x (ad_events n)) AdEnd
after_end x zero = refl
after_end x (suc n) = refl

-- the events of adapted bytes, with an end or without, count just these bytes
pub sum_is : (n : ℕ) (ended : Bool) → ad_sum (adapted_events n ended) ≡ n
sum_is zero false = refl
sum_is (suc n) false = omega arith
sum_is zero true = omega arith
sum_is (suc n) true = omega arith

-- bytes after a text of three parts stand after its third part
regrouped : (before heads text more : List ℕ) → (before ++ (heads ++ text)) ++ more ≡ before ++ (heads ++ (text ++ more))
regrouped before heads text more = append_assoc before (heads ++ text) more
    ∙ ap (λ (t : List ℕ). before ++ t) (append_assoc heads text more)

-- a reader within a body has heard the heads of a 200 and a first part of its body
body_at : (x : Seen) (adapted read : List ℕ) (r : Reader) (chunks : ChunkReader) → r.stage ≡ Body chunks → HasHeard x adapted read r
    → HeardBody x adapted read r chunks
body_at x adapted read r chunks stage h = subst (λ (s : Stage). HeardTo s x adapted read r) stage h

-- the events of adapted bytes are all of replies
only_ads : (n : ℕ) → AllAre is_of_replies (ad_events n)
only_ads zero = tt
only_ads (suc n) = (refl, tt)

-- the events of adapted bytes and their end are all of replies
only_end : (n : ℕ) → AllAre is_of_replies (adapted_events n true)
only_end zero = (refl, tt)
only_end (suc n) = (refl, (refl, tt))

-- within the body
hears_more : (x : Seen) (r : Reader) (chunks next : ChunkReader) (raw part : List ℕ) (used n : ℕ) → length part ≡ n → r.stage ≡ Body chunks
    → ReadsOn chunks raw used part next
    → end_of next ≡ None → fault_of next ≡ None → MayAllFollow x (ad_events n) → (ad_events n ≡ []) ⊎ (x.heard ≡ true)
    → ReaderHears x r (in_stage r (Body next)) (ad_events n) (take used raw) part
hears_more x r chunks next raw part used n long stage on none sound may was = record {
  legal = may;
  only = only_ads n;
  behind = was;
  heard = λ adapted read h.
      let m : HeardBody x adapted read r chunks = body_at x adapted read r chunks stage h in
      let a : AfterAds x (after_all x (ad_events n)) n = after_ads x n in
      record {
        marks = record {
          no_mod_is = a.no_mod_is ∙ m.marks.no_mod_is;
          modified_is = a.modified_is ∙ m.marks.modified_is;
          has_body_is = a.has_body_is ∙ m.marks.has_body_is;
          over_is = a.over_is ∙ m.marks.over_is;
        };
        count = omega (arith, a.count_is, m.count, length-append adapted part, long);
        layout = m.layout;
        before = m.before;
        heads = m.heads;
        text = m.text ++ take used raw;
        text_is = ap (λ (t : List ℕ). t ++ take used raw) m.text_is ∙ regrouped m.before m.heads m.text (take used raw);
        interim = subst (λ (c : Bool). IsContinueOrNothing r.point c m.before) (sym a.continued_is) m.interim;
        heads_are = m.heads_are;
        said = m.said;
        layout_is = m.layout_is;
        with_body = m.with_body;
        body = on m.text adapted m.body;
        going_on = none;
        no_fault = sound;
      };
}

-- up to its end
hears_end : (x : Seen) (r : Reader) (chunks next : ChunkReader) (raw part : List ℕ) (used n : ℕ) (ieof : Bool) → length part ≡ n
    → r.stage ≡ Body chunks → ReadsOn chunks raw used part next
    → end_of next ≡ Some ieof → MayAllFollow x (adapted_events n true) → (adapted_events n true ≡ []) ⊎ (x.heard ≡ true)
    → ReaderHears x r (in_stage r Over) (adapted_events n true) (take used raw) part
hears_end x r chunks next raw part used n ieof long stage on ended may was = record {
  legal = may;
  only = only_end n;
  behind = was;
  heard = λ adapted read h.
      let m : HeardBody x adapted read r chunks = body_at x adapted read r chunks stage h in
      let a : AfterAds x (after_all x (ad_events n)) n = after_ads x n in
      let y : Seen = after (after_all x (ad_events n)) AdEnd in
      let whole : HeardMod y (adapted ++ part) (read ++ take used raw) (in_stage r Over) = record {
        layout = m.layout;
        marks = record {
          no_mod_is = a.no_mod_is ∙ m.marks.no_mod_is;
          modified_is = a.modified_is ∙ m.marks.modified_is;
          has_body_is = a.has_body_is ∙ (m.marks.has_body_is ∙ sym m.with_body);
          over_is = refl;
        };
        count = omega (arith, a.count_is, m.count, length-append adapted part, long);
        before = m.before;
        last = m.heads ++ (m.text ++ take used raw);
        text_is = ap (λ (t : List ℕ). t ++ take used raw) m.text_is ∙ regrouped m.before m.heads m.text (take used raw);
        interim = subst (λ (c : Bool). IsContinueOrNothing r.point c m.before) (sym a.continued_is) m.interim;
        reply = record {
          heads = m.heads;
          rest = m.text ++ take used raw;
          text_is = refl;
          heads_are = m.heads_are;
          body_is = subst (λ (b : Bool). IsBody b (m.text ++ take used raw) (adapted ++ part)) (sym m.with_body)
              (ieof, reads_end (m.text ++ take used raw) (adapted ++ part) next ieof (on m.text adapted m.body) ended);
        };
        said = m.said;
        layout_is = m.layout_is;
      } in
      subst (λ (z : Seen). HasHeard z (adapted ++ part) (read ++ take used raw) (in_stage r Over)) (sym (after_end x n)) (changed whole);
}

-- either
pub hears_on : (x : Seen) (r new : Reader) (chunks next : ChunkReader) (raw out : List ℕ) (used n : ℕ) (ended : Bool) (stage : Stage)
    → new ≡ in_stage r stage
    → ((ended ≡ true) → stage ≡ Over) → ((ended ≡ false) → stage ≡ Body next) → r.stage ≡ Body chunks
    → ReadsOn chunks raw used (take n out) next → n ≤ length out
    → ended ≡ is_some (end_of next) → fault_of next ≡ None → MayAllFollow x (adapted_events n ended)
    → (adapted_events n ended ≡ []) ⊎ (x.heard ≡ true) → ReaderHears x r new (adapted_events n ended) (take used raw) (take n out)
hears_on x r new chunks next raw out used n true stage is t f at on l e sound may was =
    let found = some_is (end_of next) (sym e) in
    subst (λ (s : Reader). ReaderHears x r s (adapted_events n true) (take used raw) (take n out))
    (sym (is ∙ ap (λ (s : Stage). in_stage r s) (t refl)))
    (hears_end x r chunks next raw (take n out) used n found.0 (length-take-le n out l) at on found.1 may was)
hears_on x r new chunks next raw out used n false stage is t f at on l e sound may was =
    subst (λ (s : Reader). ReaderHears x r s (adapted_events n false) (take used raw) (take n out))
    (sym (is ∙ ap (λ (s : Stage). in_stage r s) (f refl)))
    (hears_more x r chunks next raw (take n out) used n (length-take-le n out l) at on (not_ended next false e refl) sound may was)

-- Bytes are refused for one fault.
use Rattle.std.proofs.Common.{◌≡◌, ◌≢◌, ℕ, ◌+◌, ◌<◌, ◌⊎◌, inl, inr, Bool, true, false, Some, None, List, [], ◌++◌, length, take, drop, refl}
use Rattle.std.proofs.Common.{ap, sym, subst, ◌∙◌, append_assoc, arith, length-append}
use Rattle.std.proofs.lemmas.List.{take-take, take-append-drop, length-take-le}
use Rattle.std.proofs.Math.Seq.{take-length}
use Rattle.icap_head.specs.Folds.{unfolded}
use Rattle.icap_head.specs.Heads.{Response, HasResponse, StartsResponse, RefusesResponse}
use Rattle.icap_head.specs.declared.reading.HeadFault.{HeadFault}
use Rattle.icap_head.proofs.OneReading.{response_unique, no_response_fault}
use Rattle.icap_head.proofs.Folding.{has_folded-append}
use Rattle.encapsulated.specs.declared.offsets.Layout.{Layout}
use Rattle.icap_chunks.specs.Machine.{HasRead, run, start, body_of, end_of, fault_of, faulted_at}
use Rattle.icap_chunks.specs.declared.positions.Position.TheVariants.{Ended}
use Rattle.icap_chunks.specs.Faults.{Breaks}
use Rattle.icap_chunks.specs.declared.fault.ChunkFault.{ChunkFault}
use Rattle.icap_chunks.specs.declared.reader.ChunkReader.{ChunkReader}
use Rattle.icap_chunks.proofs.Faults.{answers_faults}
use Rattle.icap_chunks.proofs.Runs.{run-append, body_of-append}
use Rattle.icap_chunks.proofs.Endings.{end_stays, ended_at}
use Rattle.trace_core.specs.declared.history.Point.{Point}
use Rattle.trace_core.specs.declared.history.Seen.{Seen}
use Rattle.adapt_sides.specs.declared.fault.ClientFault.{ClientFault}
use Rattle.adapt_sides.specs.declared.fault.ClientFault.TheVariants as faults
use Rattle.icap_client.specs.Replies.{lists_of, HasAdaptedHead, HasLayout, ends_in_empty_line}
use Rattle.icap_client.specs.Heard.{Reader, HasHeard, HeardTo}
use Rattle.icap_client.specs.Refused.{Refuses, RefusesReply, RefusesHead, RefusesBody, RefusesBehind, WithHead, HasBadList, IsUntimely}
use Rattle.icap_client.specs.Refused.{IsOtherStatus, IsMisfit, IsFit, IsUntimelyBody}
use Rattle.icap_client.specs.Refused.IsMisfit.{ends_early, ends_late}
use Rattle.icap_client.specs.Refused.IsUntimelyBody.{bytes, end}
use Rattle.icap_client.specs.declared.stage.Stage.{Stage}
use Rattle.icap_client.specs.declared.stage.Stage.TheVariants.{Replies, Head, Body, Over}
use Rattle.icap_client.proofs.Unique.{split_one, layout_one}

-- true isn't false
true_false : true ≡ false → ⊥
true_false e = cc

-- ---- the adapted message's head

-- an adapted head isn't both a misfit and a fit
no_fit : (layout : Layout) (raw : List ℕ) → IsMisfit layout raw → IsFit layout raw → ⊥
no_fit layout raw (ends_early size l h o m) f =
    let less : size < length (take layout.offset raw) = omega (arith, m, o, length-take-le layout.offset raw f.there) in
    let same : take size (take layout.offset raw) ≡ take size raw = take-take size layout.offset raw m in
    true_false (sym h.ended ∙ (ap ends_in_empty_line (sym same) ∙ f.is.first size less))
no_fit layout raw (ends_late l n) f =
    let all : take (length (take layout.offset raw)) (take layout.offset raw) ≡ take layout.offset raw =
    take-length (take layout.offset raw) in
    true_false (sym f.is.ended ∙ (ap ends_in_empty_line (sym all) ∙ n (length (take layout.offset raw)) (omega arith)))

-- why an adapted message's head is refused
data HeadReason (f : ClientFault) (x : Seen) (layout : Layout) (raw : List ℕ) : Type 0 where
  misfit : f ≡ faults.Layout → IsMisfit layout raw → HeadReason f x layout raw
  untimely : f ≡ faults.NotLegal → IsFit layout raw → HeadReason f x layout raw

-- an adapted head is refused, memory aside, as a misfit or as a response that may not come
head_reason : (f : ClientFault) (x : Seen) (layout : Layout) (raw : List ℕ) → f ≢ faults.NoMemory → RefusesHead f x layout raw
    → HeadReason f x layout raw
head_reason faults.Head x layout raw n h = absurd h
head_reason faults.Layout x layout raw n h = misfit refl h
head_reason faults.Chunk x layout raw n h = absurd h
head_reason faults.NotLegal x layout raw n h = untimely refl h.0
head_reason faults.Status x layout raw n h = absurd h
head_reason faults.Closed x layout raw n h = absurd h
head_reason faults.Device x layout raw n h = absurd h
head_reason faults.NoMemory x layout raw n h = absurd (n refl)

-- two reasons to refuse the same adapted head are of one fault
same_reason : (f g : ClientFault) (x : Seen) (layout : Layout) (raw : List ℕ) → HeadReason f x layout raw → HeadReason g x layout raw
    → f ≡ g
same_reason f g x layout raw (misfit e h) (misfit d i) = e ∙ sym d
same_reason f g x layout raw (misfit e h) (untimely d i) = absurd (no_fit layout raw h i)
same_reason f g x layout raw (untimely e h) (misfit d i) = absurd (no_fit layout raw i h)
same_reason f g x layout raw (untimely e h) (untimely d i) = e ∙ sym d

-- an adapted head is refused for one fault, memory aside
head_one : (f g : ClientFault) (x : Seen) (layout : Layout) (raw : List ℕ) → f ≢ faults.NoMemory → g ≢ faults.NoMemory
    → RefusesHead f x layout raw → RefusesHead g x layout raw → f ≡ g
head_one f g x layout raw n m h i = same_reason f g x layout raw (head_reason f x layout raw n h) (head_reason g x layout raw m i)

-- ---- a reply's head

-- the ICAP head of a 200 with this layout
IsOf : Point → Layout → Response → Type 0
IsOf point layout value = (value.status ≡ 200) × HasLayout point (lists_of value) layout × HasAdaptedHead layout

data ReplyReason (f : ClientFault) (x : Seen) (point : Point) (raw : List ℕ) : Type 0 where
  no_head : f ≡ faults.Head → (e : HeadFault) → RefusesResponse e raw → ReplyReason f x point raw
  bad_list : f ≡ faults.Layout → WithHead raw (HasBadList point) → ReplyReason f x point raw
  too_early : f ≡ faults.NotLegal → WithHead raw (IsUntimely point x) → ReplyReason f x point raw
  other : f ≡ faults.Status → WithHead raw IsOtherStatus → ReplyReason f x point raw
  behind : RefusesBehind f x point raw → ReplyReason f x point raw

-- a reply's ICAP head is refused, memory aside, for its text, its list, its time or its status
reply_reason : (f : ClientFault) (x : Seen) (point : Point) (raw : List ℕ) → f ≢ faults.NoMemory → RefusesReply f x point raw
    → ReplyReason f x point raw
reply_reason faults.Head x point raw n h = no_head refl h.0 h.2
reply_reason faults.Layout x point raw n h = bad_list refl h
reply_reason faults.Chunk x point raw n h = absurd h
reply_reason faults.NotLegal x point raw n h = too_early refl h
reply_reason faults.Status x point raw n h = other refl h
reply_reason faults.Closed x point raw n h = absurd h
reply_reason faults.Device x point raw n h = absurd h
reply_reason faults.NoMemory x point raw n h = absurd (n refl)

-- a text has one head
with_both : (raw : List ℕ) (P Q : Response → Type 0) → WithHead raw P → WithHead raw Q → ((value : Response) → P value → Q value → ⊥) → ⊥
with_both raw P Q h i odd = odd i.0 (subst P (response_unique (unfolded raw) h.0 i.0 h.1 i.1 h.2 i.2).0 h.3) i.3

-- bytes that begin with a whole head aren't refused as having none
without : (raw : List ℕ) (P : Response → Type 0) (e : HeadFault) → WithHead raw P → RefusesResponse e raw → ⊥
without raw P e h s = no_response_fault e (unfolded raw) h.0 h.1 h.2 s

-- bytes of which an adapted head is refused begin with the ICAP head of a 200
behind_is : (f : ClientFault) (x : Seen) (point : Point) (raw : List ℕ) (h : RefusesBehind f x point raw)
    → WithHead raw (IsOf point h.layout)
unfolding IsOf
behind_is f x point raw h =
    let v = h.is.value in (
      v,
      length h.icap,
      subst (λ (t : List ℕ). HasResponse t v (length h.icap)) (sym h.raw_is)
          (has_folded-append (StartsResponse v) h.icap h.rest v.fields (length h.icap) h.is.head),
      (h.is.status_is, h.is.list, h.is.adapted),
    )

-- a response with a bad list isn't a well-formed one that may not come now
list_time : (point : Point) (x : Seen) (v : Response) → HasBadList point v → IsUntimely point x v → ⊥
list_time point x v (inl b) (inl t) = b.1 t.1
list_time point x v (inl b) (inr t) = b.1 t.1
list_time point x v (inr b) (inl t) = omega (arith, b.0, t.0)
list_time point x v (inr b) (inr t) = omega (arith, b.0, t.0)

-- a response with a bad list isn't one of another status
list_other : (point : Point) (v : Response) → HasBadList point v → IsOtherStatus v → ⊥
list_other point v (inl (inl e, n)) o = o.not_continue e
list_other point v (inl (inr e, n)) o = o.not_unchanged e
list_other point v (inr b) o = o.not_ok b.0

-- a response with a bad list isn't a 200 with a layout and an adapted head
list_of : (point : Point) (layout : Layout) (v : Response) → HasBadList point v → IsOf point layout v → ⊥
unfolding IsOf
list_of point layout v (inl (inl e, n)) o = omega (arith, e, o.0)
list_of point layout v (inl (inr e, n)) o = omega (arith, e, o.0)
list_of point layout v (inr b) o = b.1 layout o.1 o.2

-- a 100 or 204 that may not come now isn't a response of another status
time_other : (point : Point) (x : Seen) (v : Response) → IsUntimely point x v → IsOtherStatus v → ⊥
time_other point x v (inl t) o = o.not_continue t.0
time_other point x v (inr t) o = o.not_unchanged t.0

-- a 100 or 204 that may not come now isn't a 200 with a layout and an adapted head
time_of : (point : Point) (layout : Layout) (x : Seen) (v : Response) → IsUntimely point x v → IsOf point layout v → ⊥
unfolding IsOf
time_of point layout x v (inl t) o = omega (arith, t.0, o.0)
time_of point layout x v (inr t) o = omega (arith, t.0, o.0)

-- a response of another status isn't a 200 with a layout and an adapted head
other_of : (point : Point) (layout : Layout) (v : Response) → IsOtherStatus v → IsOf point layout v → ⊥
unfolding IsOf
other_of point layout v n o = n.not_ok o.0

-- two heads of a 200 at the beginning of the same bytes
behind_one : (f g : ClientFault) (x : Seen) (point : Point) (raw : List ℕ) → f ≢ faults.NoMemory → g ≢ faults.NoMemory
    → RefusesBehind f x point raw → RefusesBehind g x point raw → f ≡ g
unfolding IsOf behind_is
behind_one f g x point raw n m h i =
    let a = behind_is f x point raw h in
    let b = behind_is g x point raw i in
    let same = response_unique (unfolded raw) a.0 b.0 a.1 b.1 a.2 b.2 in
    let layouts : h.layout ≡ i.layout = layout_one point (lists_of b.0) h.layout i.layout
    (subst (λ (v : Response). HasLayout point (lists_of v) h.layout) same.0 h.is.list) i.is.list in
    let rests = split_one h.icap h.rest i.icap i.rest (sym h.raw_is ∙ i.raw_is) same.1 in
    head_one f g x i.layout i.rest n m (subst (λ (t : List ℕ). RefusesHead f x i.layout t) rests.1
    (subst (λ (l : Layout). RefusesHead f x l h.rest) layouts h.refuses)) i.refuses

-- two reasons to refuse the same bytes of a reply are of one fault, memory aside
reply_one : (f g : ClientFault) (x : Seen) (point : Point) (raw : List ℕ) → f ≢ faults.NoMemory → g ≢ faults.NoMemory
    → ReplyReason f x point raw → ReplyReason g x point raw → f ≡ g
reply_one f g x point raw n m (no_head e a h) (no_head d b i) = e ∙ sym d
reply_one f g x point raw n m (no_head e a h) (bad_list d i) = absurd (without raw (HasBadList point) a i h)
reply_one f g x point raw n m (no_head e a h) (too_early d i) = absurd (without raw (IsUntimely point x) a i h)
reply_one f g x point raw n m (no_head e a h) (other d i) = absurd (without raw IsOtherStatus a i h)
reply_one f g x point raw n m (no_head e a h) (behind i) = absurd (without raw (IsOf point i.layout) a (behind_is g x point raw i) h)
reply_one f g x point raw n m (bad_list e h) (no_head d b i) = absurd (without raw (HasBadList point) b h i)
reply_one f g x point raw n m (bad_list e h) (bad_list d i) = e ∙ sym d
reply_one f g x point raw n m (bad_list e h) (too_early d i) =
    absurd (with_both raw (HasBadList point) (IsUntimely point x) h i (list_time point x))
reply_one f g x point raw n m (bad_list e h) (other d i) = absurd (with_both raw (HasBadList point) IsOtherStatus h i (list_other point))
reply_one f g x point raw n m (bad_list e h) (behind i) =
    absurd (with_both raw (HasBadList point) (IsOf point i.layout) h (behind_is g x point raw i) (list_of point i.layout))
reply_one f g x point raw n m (too_early e h) (no_head d b i) = absurd (without raw (IsUntimely point x) b h i)
reply_one f g x point raw n m (too_early e h) (bad_list d i) =
    absurd (with_both raw (HasBadList point) (IsUntimely point x) i h (list_time point x))
reply_one f g x point raw n m (too_early e h) (too_early d i) = e ∙ sym d
reply_one f g x point raw n m (too_early e h) (other d i) =
    absurd (with_both raw (IsUntimely point x) IsOtherStatus h i (time_other point x))
reply_one f g x point raw n m (too_early e h) (behind i) =
    absurd (with_both raw (IsUntimely point x) (IsOf point i.layout) h (behind_is g x point raw i) (time_of point i.layout x))
reply_one f g x point raw n m (other e h) (no_head d b i) = absurd (without raw IsOtherStatus b h i)
reply_one f g x point raw n m (other e h) (bad_list d i) = absurd (with_both raw (HasBadList point) IsOtherStatus i h (list_other point))
reply_one f g x point raw n m (other e h) (too_early d i) =
    absurd (with_both raw (IsUntimely point x) IsOtherStatus i h (time_other point x))
reply_one f g x point raw n m (other e h) (other d i) = e ∙ sym d
reply_one f g x point raw n m (other e h) (behind i) =
    absurd (with_both raw IsOtherStatus (IsOf point i.layout) h (behind_is g x point raw i) (other_of point i.layout))
reply_one f g x point raw n m (behind h) (no_head d b i) = absurd (without raw (IsOf point h.layout) b (behind_is f x point raw h) i)
reply_one f g x point raw n m (behind h) (bad_list d i) =
    absurd (with_both raw (HasBadList point) (IsOf point h.layout) i (behind_is f x point raw h) (list_of point h.layout))
reply_one f g x point raw n m (behind h) (too_early d i) =
    absurd (with_both raw (IsUntimely point x) (IsOf point h.layout) i (behind_is f x point raw h) (time_of point h.layout x))
reply_one f g x point raw n m (behind h) (other d i) =
    absurd (with_both raw IsOtherStatus (IsOf point h.layout) i (behind_is f x point raw h) (other_of point h.layout))
reply_one f g x point raw n m (behind h) (behind i) = behind_one f g x point raw n m h i

-- bytes that are refused where a reply begins, memory aside, are refused for one of a reply's reasons
either_reason : (f : ClientFault) (x : Seen) (point : Point) (raw : List ℕ) → f ≢ faults.NoMemory
    → RefusesReply f x point raw ⊎ RefusesBehind f x point raw → ReplyReason f x point raw
either_reason f x point raw n (inl h) = reply_reason f x point raw n h
either_reason f x point raw n (inr h) = behind h

-- ---- the body

data BodyReason (f : ClientFault) (x : Seen) (chunks : ChunkReader) (raw : List ℕ) : Type 0 where
  broken : f ≡ faults.Chunk → (fault : ChunkFault) → ((text body : List ℕ) → HasRead text body chunks → Breaks (text ++ raw) body fault)
      → BodyReason f x chunks raw
  too_soon : f ≡ faults.NotLegal → IsUntimelyBody x chunks raw → BodyReason f x chunks raw

-- bytes of a body are refused as broken or as ones that may not come
body_reason : (f : ClientFault) (x : Seen) (chunks : ChunkReader) (raw : List ℕ) → RefusesBody f x chunks raw → BodyReason f x chunks raw
body_reason faults.Head x chunks raw h = absurd h
body_reason faults.Layout x chunks raw h = absurd h
body_reason faults.Chunk x chunks raw h = broken refl h.0 h.1
body_reason faults.NotLegal x chunks raw h = too_soon refl h
body_reason faults.Status x chunks raw h = absurd h
body_reason faults.Closed x chunks raw h = absurd h
body_reason faults.Device x chunks raw h = absurd h
body_reason faults.NoMemory x chunks raw h = absurd h

-- a first part of the bytes, and the rest
cut_at : (text raw : List ℕ) (used : ℕ) → text ++ raw ≡ (text ++ take used raw) ++ drop used raw
cut_at text raw used = ap (λ (t : List ℕ). text ++ t) (sym (take-append-drop used raw))
    ∙ sym (append_assoc text (take used raw) (drop used raw))

-- a place after a body's end has no fault
ended_sound : (ieof : Bool) → faulted_at (Ended ieof) ≡ None
unfolding faulted_at
ended_sound ieof = refl

-- bytes of the body came before the byte that breaks it
no_bytes : (text body raw part : List ℕ) (used : ℕ) (fault : ChunkFault) (new : ChunkReader) → 0 < length part
    → HasRead (text ++ take used raw) (body ++ part) new → Breaks (text ++ raw) body fault → ⊥
no_bytes text body raw part used fault new some h b =
    let found : body_of start (text ++ raw) ≡ body = ((answers_faults (text ++ raw) body fault).1 b).1 in
    let more = body_of (run start (text ++ take used raw)) (drop used raw) in
    let all : body ≡ (body ++ part) ++ more = sym found ∙ (ap (body_of start) (cut_at text raw used)
    ∙ (body_of-append start (text ++ take used raw) (drop used raw) ∙ ap (λ (t : List ℕ). t ++ more) h.found)) in
    let long : length body ≡ length body + length part + length more =
    ap (λ (t : List ℕ). length t) all ∙ (length-append (body ++ part) more
    ∙ ap (λ (n : ℕ). n + length more) (length-append body part)) in
    omega (arith, some, long)

-- after a body's end nothing breaks
no_end : (text body raw rest : List ℕ) (used : ℕ) (fault : ChunkFault) (new : ChunkReader) (ieof : Bool) → end_of new ≡ Some ieof
    → HasRead (text ++ take used raw) rest new → Breaks (text ++ raw) body fault → ⊥
no_end text body raw rest used fault new ieof e h b =
    let broken_is : fault_of (run start (text ++ raw)) ≡ Some fault = ((answers_faults (text ++ raw) body fault).1 b).0 in
    let last : run start (text ++ raw) ≡ run new (drop used raw) =
    ap (run start) (cut_at text raw used) ∙ (run-append start (text ++ take used raw) (drop used raw)
    ∙ ap (λ (r : ChunkReader). run r (drop used raw)) h.read) in
    let over : end_of (run new (drop used raw)) ≡ Some ieof = end_stays new ieof (drop used raw) e in
    one_place (run new (drop used raw)) fault ieof (ap fault_of (sym last) ∙ broken_is) over
  where
    one_place : (r : ChunkReader) (fault : ChunkFault) (ieof : Bool) → fault_of r ≡ Some fault → end_of r ≡ Some ieof → ⊥
    one_place r fault ieof f e = none_some (sym (sound_end r ieof e) ∙ f)
      where
        none_some : None ≡ Some fault → ⊥
        none_some e = cc

        sound_end : (r : ChunkReader) (ieof : Bool) → end_of r ≡ Some ieof → fault_of r ≡ None
        sound_end r ieof e = ap faulted_at (ended_at r.place ieof e) ∙ ended_sound ieof

-- a body whose bytes or end may not come isn't broken before its next byte
untimely_broken : (x : Seen) (chunks : ChunkReader) (raw text body : List ℕ) (fault : ChunkFault) → HasRead text body chunks
    → IsUntimelyBody x chunks raw → Breaks (text ++ raw) body fault → ⊥
untimely_broken x chunks raw text body fault h (bytes used part new on some late) b =
    no_bytes text body raw part used fault new some (on text body h) b
untimely_broken x chunks raw text body fault h (end used new ieof on e late) b =
    no_end text body raw (body ++ []) used fault new ieof e (on text body h) b

-- two reasons to refuse the same bytes of a body are of one fault
body_one : (f g : ClientFault) (x : Seen) (chunks : ChunkReader) (raw text body : List ℕ) → HasRead text body chunks
    → BodyReason f x chunks raw → BodyReason g x chunks raw → f ≡ g
body_one f g x chunks raw text body r (broken e a h) (broken d b i) = e ∙ sym d
body_one f g x chunks raw text body r (broken e a h) (too_soon d i) = absurd (untimely_broken x chunks raw text body a r i (h text body r))
body_one f g x chunks raw text body r (too_soon e h) (broken d b i) = absurd (untimely_broken x chunks raw text body b r h (i text body r))
body_one f g x chunks raw text body r (too_soon e h) (too_soon d i) = e ∙ sym d

-- ---- all

-- at any stage the bytes after those heard are refused for one fault, memory aside
by_stage : (stage : Stage) (f g : ClientFault) (x : Seen) (adapted read raw : List ℕ) (r : Reader) → f ≢ faults.NoMemory
    → g ≢ faults.NoMemory → HeardTo stage x adapted read r
    → Refuses f x r.point stage raw → Refuses g x r.point stage raw → f ≡ g
by_stage Replies f g x adapted read raw r n m h i j =
    reply_one f g x r.point raw n m (either_reason f x r.point raw n i) (either_reason g x r.point raw m j)
by_stage (Head layout) f g x adapted read raw r n m h i j = head_one f g x layout raw n m i j
by_stage (Body chunks) f g x adapted read raw r n m h i j =
    body_one f g x chunks raw h.text adapted h.body (body_reason f x chunks raw i) (body_reason g x chunks raw j)
by_stage Over f g x adapted read raw r n m h i j = absurd i

-- the bytes after those that a reader has heard are refused for one fault, memory aside
pub one_fault : (f g : ClientFault) (x : Seen) (adapted read raw : List ℕ) (r : Reader) → f ≢ faults.NoMemory → g ≢ faults.NoMemory
    → HasHeard x adapted read r
    → Refuses f x r.point r.stage raw → Refuses g x r.point r.stage raw → f ≡ g
one_fault f g x adapted read raw r n m h i j = by_stage r.stage f g x adapted read raw r n m h i j

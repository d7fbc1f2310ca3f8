-- Two readers that were handed the same bytes, cut differently.
use Rattle.std.proofs.Common.{◌≡◌, ℕ, ◌<◌, ◌≤◌, ◌⊎◌, inl, inr, Bool, true, false, Some, None, List, [], ◌∷◌, ◌++◌, length, take, drop, refl}
use Rattle.std.proofs.Common.{ap, sym, subst, ◌∙◌, append_assoc, append-nil, arith, length-append, ◌||◌, ◌==◌}
use Rattle.std.proofs.lemmas.Bool.{cases_lt}
use Rattle.std.proofs.lemmas.List.{take-append-le, drop-append-le, take-append-drop, length-take, length-take-le}
use Rattle.std.proofs.Math.Seq.{take-length}
use Rattle.icap_head.specs.Folds.{unfolded}
use Rattle.icap_head.specs.Heads.{Response, HasResponse, StartsResponse, RefusesResponse}
use Rattle.icap_head.specs.declared.reading.HeadFault.TheVariants.{More}
use Rattle.icap_head.proofs.OneReading.{response_unique, no_response_fault}
use Rattle.icap_head.proofs.Folding.{has_folded-append, head_ends, in_front, unfolded_length}
use Rattle.encapsulated.specs.declared.offsets.Layout.{Layout}
use Rattle.icap_chunks.specs.Machine.{HasRead, run, start, end_of}
use Rattle.icap_chunks.specs.Grammar.{IsChunked}
use Rattle.icap_chunks.specs.declared.reader.ChunkReader.{ChunkReader}
use Rattle.icap_chunks.proofs.Runs.{run-append}
use Rattle.icap_chunks.proofs.Endings.{end_stays, chunked_ends}
use Rattle.trace_core.specs.declared.history.Point.{Point}
use Rattle.trace_core.specs.declared.history.Seen.{Seen}
use Rattle.icap_client.specs.Replies.{IsContinueOrNothing, IsBareReply, IsModHead, IsModHeads, IsMod, IsBody, HasLayout, lists_of, has_body}
use Rattle.adapt_bytes.specs.Text.{has_line}
use Rattle.icap_client.specs.HeadFront.{IsHeadFront, HasToWait}
use Rattle.icap_client.specs.Heard.{Reader, HeardTo, Marks, HeardFinal}
use Rattle.icap_client.specs.Heard.HeardFinal.{unchanged as was_unchanged, changed as was_changed}
use Rattle.icap_client.specs.Reading.{ReadSide, SideHeard}
use Rattle.icap_client.specs.Laws.{AreSame}
use Rattle.icap_client.specs.declared.stage.Stage.{Stage}
use Rattle.icap_client.specs.declared.stage.Stage.TheVariants.{Replies, Head, Body, Over}
use Rattle.icap_client.proofs.Unique.{split_one, layout_one, body_one, First, one_status, longer, first_bare}

-- true isn't false
true_false : true ≡ false → ⊥
true_false e = cc

-- an option isn't both none and some
none_some : {A : Type 0} {a : A} → None ≡ Some a → ⊥
none_some e = cc

-- ---- a prefix of a head is no whole head

-- one or the other is true if the other is
or_true : (a b : Bool) → b ≡ true → (a || b) ≡ true
or_true true b e = refl
or_true false b e = e

-- bytes with an LF among them have a line
has_feed : (xs ys : List ℕ) → has_line (xs ++ 10 ∷ ys) ≡ true
has_feed [] ys = refl
has_feed (x ∷ xs) ys = or_true (x == 10) (has_line (xs ++ 10 ∷ ys)) (has_feed xs ys)

-- a head that ends within the judged bytes is a head of these
in_judged : (raw : List ℕ) (j : ℕ) (value : Response) (size : ℕ) → size ≤ j → HasResponse raw value size
    → HasResponse (take j raw) value size
in_judged raw j value size l h = in_front (StartsResponse value) raw value.fields size j l h

-- as many bytes have come
head_inside : (text : List ℕ) (value : Response) (size : ℕ) → HasResponse text value size → size ≤ length text
head_inside text value size h = omega (arith, h.inside, unfolded_length text)

-- a response's head has at least one byte
some_size : (text : List ℕ) (value : Response) (size : ℕ) → HasResponse text value size → 0 < size
some_size text value size h =
    let e = head_ends (StartsResponse value) text value.fields size h in
    omega (arith, head_inside text value size h, length-take size text, ap (λ (t : List ℕ). length t) e.1, length-append e.0 (10 ∷ []))

-- no head ends after the judged bytes if no line ends after them
behind_judged : (raw : List ℕ) (j : ℕ) (value : Response) (size : ℕ) → j < size → has_line (drop j raw) ≡ false → HasResponse raw value size
    → ⊥
behind_judged raw j value size l n h =
    let e = head_ends (StartsResponse value) raw value.fields size h in
    let long : j ≤ length e.0 = omega (
      arith,
      l,
      length-take-le size raw (head_inside raw value size h),
      ap (λ (t : List ℕ). length t) e.1,
      length-append e.0 (10 ∷ []),
    ) in
    let all : raw ≡ e.0 ++ 10 ∷ drop size raw = sym (take-append-drop size raw)
    ∙ (ap (λ (t : List ℕ). t ++ drop size raw) e.1 ∙ append_assoc e.0 (10 ∷ []) (drop size raw)) in
    let cut : drop j raw ≡ drop j e.0 ++ 10 ∷ drop size raw =
    ap (λ (t : List ℕ). drop j t) all ∙ drop-append-le j e.0 (10 ∷ drop size raw) long in
    true_false (sym (has_feed (drop j e.0) (drop size raw)) ∙ (ap has_line (sym cut) ∙ n))

-- a prefix of a head begins with no whole head, ending within its judged bytes or after them
no_head_by : (raw : List ℕ) (f : IsHeadFront raw) (value : Response) (size : ℕ) → (size ≤ f.judged) ⊎ (f.judged < size)
    → (f.judged ≡ 0) ⊎ RefusesResponse More (take f.judged raw) → HasResponse raw value size → ⊥
no_head_by raw f value size (inl l) (inl z) h = let some = some_size raw value size h in omega (arith, l, z, some)
no_head_by raw f value size (inl l) (inr s) h = no_response_fault More (unfolded (take f.judged raw)) value size
    (in_judged raw f.judged value size l h) s
no_head_by raw f value size (inr m) k h = behind_judged raw f.judged value size m f.no_line h

-- the two cases of an order of numbers change places
order : (a b : ℕ) → (a < b) ⊎ (b ≤ a) → (b ≤ a) ⊎ (a < b)
order a b (inl l) = inr l
order a b (inr l) = inl l

-- a prefix of a head doesn't begin with a whole head of any status
no_head : (raw : List ℕ) (status : ℕ) → IsHeadFront raw → First raw status → ⊥
no_head raw status f h = no_head_by raw f h.value h.size (order f.judged h.size (cases_lt f.judged h.size)) f.more h.has

-- ---- what stands after a 100, or at the beginning

data Told (x : Seen) (xs raw : List ℕ) (r : Reader) (point : Point) (rest : List ℕ) : Type 0 where
  nothing : r.stage ≡ Replies → IsHeadFront rest → raw ≡ rest → xs ≡ [] → Marks x false false false false → Told x xs raw r point rest
  icap_head : (layout : Layout) (icap : List ℕ) → r.stage ≡ Head layout → rest ≡ icap ++ raw → IsModHead point layout icap
      → length raw < layout.offset → xs ≡ [] → Marks x false false false false → Told x xs raw r point rest
  in_body : (layout : Layout) (chunks : ChunkReader) (heads text : List ℕ) → r.stage ≡ Body chunks → rest ≡ heads ++ text → raw ≡ []
      → IsModHeads point layout r.head heads → HasRead text xs chunks → end_of chunks ≡ None → has_body layout.body ≡ true
      → r.layout ≡ Some layout → Marks x false true true false → Told x xs raw r point rest
  no_change : (last : List ℕ) → r.stage ≡ Over → rest ≡ last ++ raw → IsBareReply point 204 last → xs ≡ [] → Marks x true false false false
      → Told x xs raw r point rest
  change : (layout : Layout) (last : List ℕ) → r.stage ≡ Over → rest ≡ last ++ raw → IsMod point layout r.head xs last
      → r.layout ≡ Some layout → Marks x false true (has_body layout.body) true → Told x xs raw r point rest

record Parsed (x : Seen) (xs raw : List ℕ) (r : Reader) (read : List ℕ) : Type 0 where
  before : List ℕ
  rest : List ℕ
  text_is : read ≡ before ++ rest
  interim : IsContinueOrNothing r.point x.continued before
  told : Told x xs raw r r.point rest

-- a side that waits in a body, with room, has no raw byte
no_raw : (raw : List ℕ) (room : ℕ) (chunks : ChunkReader) → 0 < room → HasToWait (Body chunks) raw room → raw ≡ []
no_raw raw room chunks some (inl e) = e
no_raw raw room chunks some (inr h) = absurd (omega (arith, some, h.0))

-- bytes up to a whole final response are a 100 or none, then that response, and the raw ones
parsed_final : (x : Seen) (xs framed raw : List ℕ) (r : Reader) (read : List ℕ) → r.stage ≡ Over → read ≡ framed ++ raw
    → HeardFinal x xs framed r → Parsed x xs raw r read
parsed_final x xs framed raw r read s e (was_unchanged h) = record {
  before = h.before;
  rest = h.last ++ raw;
  text_is = e ∙ (ap (λ (t : List ℕ). t ++ raw) h.text_is ∙ append_assoc h.before h.last raw);
  interim = h.interim;
  told = no_change h.last s refl h.reply h.none h.marks;
}
parsed_final x xs framed raw r read s e (was_changed h) = record {
  before = h.before;
  rest = h.last ++ raw;
  text_is = e ∙ (ap (λ (t : List ℕ). t ++ raw) h.text_is ∙ append_assoc h.before h.last raw);
  interim = h.interim;
  told = change h.layout h.last s refl h.reply h.layout_is h.marks;
}

-- what a waiting side with room has read is a 100 or none, and then what its stage tells
parsed : (stage : Stage) (x : Seen) (xs framed raw : List ℕ) (r : Reader) (read : List ℕ) (room : ℕ) → r.stage ≡ stage → 0 < room
    → read ≡ framed ++ raw → HeardTo stage x xs framed r → HasToWait stage raw room → Parsed x xs raw r read
parsed Replies x xs framed raw r read room s some e h w = record {
  before = framed;
  rest = raw;
  text_is = e;
  interim = h.interim;
  told = nothing s w refl h.none h.marks;
}
parsed (Head layout) x xs framed raw r read room s some e h w = record {
  before = h.before;
  rest = h.icap ++ raw;
  text_is = e ∙ (ap (λ (t : List ℕ). t ++ raw) h.text_is ∙ append_assoc h.before h.icap raw);
  interim = h.first.interim;
  told = icap_head layout h.icap s refl h.head w.0 h.first.none h.first.marks;
}
parsed (Body chunks) x xs framed raw r read room s some e h w =
    let none : raw ≡ [] = no_raw raw room chunks some w in
    record {
      before = h.before;
      rest = h.heads ++ h.text;
      text_is = e ∙ (ap (λ (t : List ℕ). framed ++ t) none ∙ (append-nil framed ∙ h.text_is));
      interim = h.interim;
      told = in_body h.layout chunks h.heads h.text s refl none h.heads_are h.body h.going_on h.with_body h.layout_is h.marks;
    }
parsed Over x xs framed raw r read room s some e h w = parsed_final x xs framed raw r read s e h

-- ---- the head at the beginning

-- the rest begins with the ICAP head of a 200 with this layout, and this comes after it
record Begins (point : Point) (layout : Layout) (rest tail : List ℕ) : Type 0 where
  icap : List ℕ
  text_is : rest ≡ icap ++ tail
  is : IsModHead point layout icap

-- bytes that begin with the ICAP head of a 200 have status 200 first
begins_first : (point : Point) (layout : Layout) (rest tail : List ℕ) → Begins point layout rest tail → First rest 200
begins_first point layout rest tail h =
    let icap : First h.icap 200 = record { value = h.is.value; size = length h.icap; has = h.is.head; status_is = h.is.status_is } in
    subst (λ (t : List ℕ). First t 200) (sym h.text_is) (longer h.icap tail 200 icap)

-- bytes begin with the ICAP head of a 200 in one way: with one layout and one rest
begins_one : (point : Point) (l k : Layout) (rest a b : List ℕ) → Begins point l rest a → Begins point k rest b → (l ≡ k) × (a ≡ b)
begins_one point l k rest a b h i =
    let v = h.is.value in
    let w = i.is.value in
    let fa : HasResponse rest v (length h.icap) = subst (λ (t : List ℕ). HasResponse t v (length h.icap)) (sym h.text_is)
    (has_folded-append (StartsResponse v) h.icap a v.fields (length h.icap) h.is.head) in
    let fb : HasResponse rest w (length i.icap) = subst (λ (t : List ℕ). HasResponse t w (length i.icap)) (sym i.text_is)
    (has_folded-append (StartsResponse w) i.icap b w.fields (length i.icap) i.is.head) in
    let same = response_unique (unfolded rest) v w (length h.icap) (length i.icap) fa fb in (
      layout_one point (lists_of w) l k (subst (λ (u : Response). HasLayout point (lists_of u) l) same.0 h.is.list) i.is.list,
      (split_one h.icap a i.icap b (sym h.text_is ∙ i.text_is) same.1).1,
    )

-- the heads of a 200 begin with its ICAP head, and the adapted head and the body's text follow
body_begins : (point : Point) (layout : Layout) (head heads text rest : List ℕ) → rest ≡ heads ++ text → IsModHeads point layout head heads
    → Begins point layout rest (head ++ text)
body_begins point layout head heads text rest e h =
    record { icap = h.icap; text_is = e ∙ (ap (λ (t : List ℕ). t ++ text) h.text_is ∙ append_assoc h.icap head text); is = h.is }

-- a whole 200 begins with its ICAP head, and the adapted head and what follows that come after
change_begins : (point : Point) (layout : Layout) (head xs last raw rest : List ℕ) (e : rest ≡ last ++ raw)
    (m : IsMod point layout head xs last) → Begins point layout rest (head ++ (m.rest ++ raw))
change_begins point layout head xs last raw rest e m =
    body_begins point layout head m.heads (m.rest ++ raw) rest (e ∙ (ap (λ (t : List ℕ). t ++ raw) m.text_is
    ∙ append_assoc m.heads m.rest raw)) m.heads_are

-- bytes that begin with a bare 204 have status 204 first
bare_first : (point : Point) (last raw rest : List ℕ) → rest ≡ last ++ raw → IsBareReply point 204 last → First rest 204
bare_first point last raw rest e h = subst (λ (t : List ℕ). First t 204) (sym e) (first_bare point 204 last raw h)

-- bytes with status 200 first don't have 204 first
other_status : (rest : List ℕ) → First rest 200 → First rest 204 → ⊥
other_status rest f g = omega (arith, one_status rest 200 204 f g)

-- not a 100
no_interim : (x : Seen) (xs raw : List ℕ) (r : Reader) (point : Point) (rest : List ℕ) → Told x xs raw r point rest → First rest 100 → ⊥
no_interim x xs raw r point rest (nothing s f e n m) g = no_head rest 100 f g
no_interim x xs raw r point rest (icap_head layout icap s e h l n m) g =
    omega (arith, one_status rest 200 100 (begins_first point layout rest raw (record { icap = icap; text_is = e; is = h })) g)
no_interim x xs raw r point rest (in_body layout chunks heads text s e n h b o w k m) g =
    omega (
      arith,
      one_status rest 200 100 (begins_first point layout rest (r.head ++ text)
          (body_begins point layout r.head heads text rest e h)) g,
    )
no_interim x xs raw r point rest (no_change last s e h n m) g =
    omega (arith, one_status rest 204 100 (bare_first point last raw rest e h) g)
no_interim x xs raw r point rest (change layout last s e h k m) g =
    omega (
      arith,
      one_status rest 200 100 (begins_first point layout rest (r.head ++ (h.rest ++ raw))
          (change_begins point layout r.head xs last raw rest e h)) g,
    )

-- bytes are in one way a 100 or none and a rest that doesn't begin with a 100
interim_one : (point : Point) (c d : Bool) (before rest first other : List ℕ) → before ++ rest ≡ first ++ other
    → IsContinueOrNothing point c before → IsContinueOrNothing point d first → (First rest 100 → ⊥) → (First other 100 → ⊥)
    → (c ≡ d) × (rest ≡ other)
interim_one point true true before rest first other e h i n m =
    let text = before ++ rest in
    let fa : HasResponse text h.value (length before) =
    has_folded-append (StartsResponse h.value) before rest h.value.fields (length before) h.head in
    let fb : HasResponse text i.value (length first) =
    subst (λ (t : List ℕ). HasResponse t i.value (length first)) (sym e)
    (has_folded-append (StartsResponse i.value) first other i.value.fields (length first) i.head) in
    let same = response_unique (unfolded text) h.value i.value (length before) (length first) fa fb in
    (refl, (split_one before rest first other e same.1).1)
interim_one point true false before rest first other e h i n m =
    absurd (m (subst (λ (t : List ℕ). First t 100) (e ∙ ap (λ (t : List ℕ). t ++ other) i) (first_bare point 100 before rest h)))
interim_one point false true before rest first other e h i n m =
    absurd (n (subst (λ (t : List ℕ). First t 100) (sym e ∙ ap (λ (t : List ℕ). t ++ rest) h) (first_bare point 100 first other i)))
interim_one point false false before rest first other e h i n m =
    (refl, ap (λ (t : List ℕ). t ++ rest) (sym h) ∙ (e ∙ ap (λ (t : List ℕ). t ++ other) i))

-- ---- what comes after the heads

-- bytes fewer than a layout's offset don't begin with a head of that length
head_short : (head text raw : List ℕ) (l k : Layout) → l ≡ k → raw ≡ head ++ text → length raw < l.offset → length head ≡ k.offset → ⊥
head_short head text raw l k e t less long =
    omega (arith, less, long, ap (λ (m : Layout). m.offset) e, ap (λ (s : List ℕ). length s) t, length-append head text)

-- two heads of one layout's length that a text begins with are the same, and so is what follows them
tails_one : (head a other b : List ℕ) (l k : Layout) → l ≡ k → head ++ a ≡ other ++ b → length head ≡ l.offset → length other ≡ k.offset
    → (head ≡ other) × (a ≡ b)
tails_one head a other b l k e t x y = split_one head a other b t (x ∙ (ap (λ (m : Layout). m.offset) e ∙ sym y))

-- two chunk readers that read the same text are the same, with the same body
read_one : (text xs ys : List ℕ) (c d : ChunkReader) → HasRead text xs c → HasRead text ys d → (c ≡ d) × (xs ≡ ys)
read_one text xs ys c d h i = (sym h.read ∙ i.read, sym h.found ∙ i.found)

-- a body that goes on has no whole body at its beginning
no_whole : (rest raw xs ys : List ℕ) (b : Bool) (chunks : ChunkReader) → b ≡ true → IsBody b rest ys → HasRead (rest ++ raw) xs chunks
    → end_of chunks ≡ None → ⊥
no_whole rest raw xs ys false chunks e h r n = true_false (sym e)
no_whole rest raw xs ys true chunks e h r n =
    let ends = (chunked_ends rest ys h.0 h.1).0 in
    let more : end_of (run start (rest ++ raw)) ≡ Some h.0 =
    ap end_of (run-append start rest raw) ∙ end_stays (run start rest) h.0 raw ends.ended in
    none_some (sym n ∙ (ap end_of (sym r.read) ∙ more))

-- of two whole bodies at the beginning of a text none is shorter
not_shorter : (a raw b other xs ys : List ℕ) (i j : Bool) → a ++ raw ≡ b ++ other → length a < length b → IsChunked a xs i
    → IsChunked b ys j → ⊥
not_shorter a raw b other xs ys i j e l h k =
    let ends = (chunked_ends a xs i h).0 in
    let first : take (length a) b ≡ a = sym (take-append-le (length a) b other (omega (arith, l)))
    ∙ (ap (λ (t : List ℕ). take (length a) t) (sym e) ∙ (take-append-le (length a) a raw (omega arith) ∙ take-length a)) in
    let open_still : end_of (run start (take (length a) b)) ≡ None = (chunked_ends b ys j k).0.first (length a) l in
    none_some (sym open_still ∙ (ap (λ (t : List ℕ). end_of (run start t)) first ∙ ends.ended))

-- two whole chunked bodies that one text begins with, by their lengths, have the same bytes and rest
bodies_by : (a raw b other xs ys : List ℕ) (i j : Bool) → a ++ raw ≡ b ++ other → IsChunked a xs i → IsChunked b ys j
    → (length a < length b) ⊎ (length b ≤ length a) → (length b < length a) ⊎ (length a ≤ length b) → (raw ≡ other) × (xs ≡ ys)
bodies_by a raw b other xs ys i j e h k (inl l) q = absurd (not_shorter a raw b other xs ys i j e l h k)
bodies_by a raw b other xs ys i j e h k (inr m) (inl l) = absurd (not_shorter b other a raw ys xs j i (sym e) l k h)
bodies_by a raw b other xs ys i j e h k (inr m) (inr l) =
    let cut = split_one a raw b other e (omega (arith, m, l)) in
    (cut.1, body_one true b xs ys (i, subst (λ (t : List ℕ). IsChunked t xs i) cut.0 h) (j, k))

-- two bodies that one text begins with, both chunked or both none, have the same bytes and rest
bodies_one : (t : Bool) (a raw b other xs ys : List ℕ) → a ++ raw ≡ b ++ other → IsBody t a xs → IsBody t b ys → (raw ≡ other) × (xs ≡ ys)
bodies_one true a raw b other xs ys e h k = bodies_by a raw b other xs ys h.0 k.0 e h.1 k.1 (cases_lt (length a) (length b))
    (cases_lt (length b) (length a))
bodies_one false a raw b other xs ys e h k = (
  ap (λ (t : List ℕ). t ++ raw) (sym h.0) ∙ (e ∙ ap (λ (t : List ℕ). t ++ other) k.0),
  h.1 ∙ sym k.1,
)

-- ---- two of them

-- all but the 100
record Alike (x y : Seen) (xs ys raw other : List ℕ) (a b : Reader) : Type 0 where
  no_mod : x.no_mod ≡ y.no_mod
  modified : x.modified ≡ y.modified
  body : x.has_body ≡ y.has_body
  over : x.adapted_over ≡ y.adapted_over
  adapted : xs ≡ ys
  stage : a.stage ≡ b.stage
  left : raw ≡ other
  heads : x.modified ≡ true → (a.layout ≡ b.layout) × (a.head ≡ b.head)

-- two sides with the same marks, adapted bytes, stage, raw bytes and heads are alike
alike_by : (x y : Seen) (xs ys raw other : List ℕ) (a b : Reader) (n m h o i : Bool) → Marks x n m h o → Marks y n m i o → h ≡ i → xs ≡ ys
    → a.stage ≡ b.stage → raw ≡ other → (x.modified ≡ true → (a.layout ≡ b.layout) × (a.head ≡ b.head)) → Alike x y xs ys raw other a b
alike_by x y xs ys raw other a b n m h o i p q e d s l k = record {
  no_mod = p.no_mod_is ∙ sym q.no_mod_is;
  modified = p.modified_is ∙ sym q.modified_is;
  body = p.has_body_is ∙ (e ∙ sym q.has_body_is);
  over = p.over_is ∙ sym q.over_is;
  adapted = d;
  stage = s;
  left = l;
  heads = k;
}

-- a history without a 200 doesn't have one
unmodified : (x : Seen) {A : Type 0} → x.modified ≡ false → x.modified ≡ true → A
unmodified x e f = absurd (true_false (sym f ∙ e))

-- two stages that wait for a head of the same layout are the same
head_layout : (a b : Stage) (l k : Layout) → a ≡ Head l → b ≡ Head k → l ≡ k → a ≡ b
head_layout a b l k e f g = e ∙ (ap Head g ∙ sym f)

-- two sides that were told the same rest at the same point are alike
told_one : (x y : Seen) (xs ys raw other : List ℕ) (a b : Reader) (point : Point) (rest : List ℕ) → Told x xs raw a point rest
    → Told y ys other b point rest → Alike x y xs ys raw other a b
told_one x y xs ys raw other a b point rest (nothing s f e n m) (nothing t g d o p) =
    alike_by x y xs ys raw other a b false false false false false m p refl (n ∙ sym o) (s ∙ sym t) (e ∙ sym d) (unmodified x m.modified_is)
told_one x y xs ys raw other a b point rest (nothing s f e n m) (icap_head layout icap t d h l o p) =
    absurd (no_head rest 200 f (begins_first point layout rest other (record { icap = icap; text_is = d; is = h })))
told_one x y xs ys raw other a b point rest (nothing s f e n m) (in_body layout chunks heads text t d o h c g w k p) =
    absurd (no_head rest 200 f (begins_first point layout rest (b.head ++ text) (body_begins point layout b.head heads text rest d h)))
told_one x y xs ys raw other a b point rest (nothing s f e n m) (no_change last t d h o p) =
    absurd (no_head rest 204 f (bare_first point last other rest d h))
told_one x y xs ys raw other a b point rest (nothing s f e n m) (change layout last t d h k p) =
    absurd (no_head rest 200 f (begins_first point layout rest (b.head ++ (h.rest ++ other))
    (change_begins point layout b.head ys last other rest d h)))
told_one x y xs ys raw other a b point rest (icap_head layout icap s e h l n m) (nothing t g d o p) =
    absurd (no_head rest 200 g (begins_first point layout rest raw (record { icap = icap; text_is = e; is = h })))
told_one x y xs ys raw other a b point rest (icap_head layout icap s e h l n m) (icap_head layout' icap' t d h' l' o p) =
    let same = begins_one point layout layout' rest raw other (record { icap = icap; text_is = e; is = h })
    (record { icap = icap'; text_is = d; is = h' }) in
    alike_by x y xs ys raw other a b false false false false false m p refl (n ∙ sym o)
    (head_layout a.stage b.stage layout layout' s t same.0) same.1 (unmodified x m.modified_is)
told_one x y xs ys raw other a b point rest (icap_head layout icap s e h l n m) (in_body layout' chunks heads text t d o h' c g w k p) =
    let same = begins_one point layout layout' rest raw (b.head ++ text) (record { icap = icap; text_is = e; is = h })
    (body_begins point layout' b.head heads text rest d h') in
    absurd (head_short b.head text raw layout layout' same.0 same.1 l h'.size)
told_one x y xs ys raw other a b point rest (icap_head layout icap s e h l n m) (no_change last t d h' o p) =
    absurd (other_status rest (begins_first point layout rest raw (record { icap = icap; text_is = e; is = h }))
    (bare_first point last other rest d h'))
told_one x y xs ys raw other a b point rest (icap_head layout icap s e h l n m) (change layout' last t d h' k p) =
    let same = begins_one point layout layout' rest raw (b.head ++ (h'.rest ++ other)) (record { icap = icap; text_is = e; is = h })
    (change_begins point layout' b.head ys last other rest d h') in
    absurd (head_short b.head (h'.rest ++ other) raw layout layout' same.0 same.1 l h'.heads_are.size)
told_one x y xs ys raw other a b point rest (in_body layout chunks heads text s e n h c g w k m) (nothing t f d o p) =
    absurd (no_head rest 200 f (begins_first point layout rest (a.head ++ text) (body_begins point layout a.head heads text rest e h)))
told_one x y xs ys raw other a b point rest (in_body layout chunks heads text s e n h c g w k m) (icap_head layout' icap t d h' l o p) =
    let same = begins_one point layout' layout rest other (a.head ++ text) (record { icap = icap; text_is = d; is = h' })
    (body_begins point layout a.head heads text rest e h) in
    absurd (head_short a.head text other layout' layout same.0 same.1 l h.size)
told_one x y xs ys raw other a b point rest (in_body layout chunks heads text s e n h c g w k m)
    (in_body layout' chunks' heads' text' t d o h' c' g' w' k' p) =
    let same = begins_one point layout layout' rest (a.head ++ text) (b.head ++ text') (body_begins point layout a.head heads text rest e h)
    (body_begins point layout' b.head heads' text' rest d h') in
    let tails = tails_one a.head text b.head text' layout layout' same.0 same.1 h.size h'.size in
    let reads = read_one text' xs ys chunks chunks' (subst (λ (z : List ℕ). HasRead z xs chunks) tails.1 c) c' in
    alike_by x y xs ys raw other a b false true true false true m p refl reads.1 (s ∙ (ap Body reads.0 ∙ sym t)) (n ∙ sym o)
    (λ q. (k ∙ (ap Some same.0 ∙ sym k'), tails.0))
told_one x y xs ys raw other a b point rest (in_body layout chunks heads text s e n h c g w k m) (no_change last t d h' o p) =
    absurd (other_status rest (begins_first point layout rest (a.head ++ text) (body_begins point layout a.head heads text rest e h))
    (bare_first point last other rest d h'))
told_one x y xs ys raw other a b point rest (in_body layout chunks heads text s e n h c g w k m) (change layout' last t d h' k' p) =
    let same = begins_one point layout layout' rest (a.head ++ text) (b.head ++ (h'.rest ++ other))
    (body_begins point layout a.head heads text rest e h) (change_begins point layout' b.head ys last other rest d h') in
    let tails = tails_one a.head text b.head (h'.rest ++ other) layout layout' same.0 same.1 h.size h'.heads_are.size in
    absurd (no_whole h'.rest other xs ys (has_body layout'.body) chunks (ap (λ (z : Layout). has_body z.body) (sym same.0) ∙ w) h'.body_is
    (subst (λ (z : List ℕ). HasRead z xs chunks) tails.1 c) g)
told_one x y xs ys raw other a b point rest (no_change last s e h n m) (nothing t f d o p) =
    absurd (no_head rest 204 f (bare_first point last raw rest e h))
told_one x y xs ys raw other a b point rest (no_change last s e h n m) (icap_head layout icap t d h' l o p) =
    absurd (other_status rest (begins_first point layout rest other (record { icap = icap; text_is = d; is = h' }))
    (bare_first point last raw rest e h))
told_one x y xs ys raw other a b point rest (no_change last s e h n m) (in_body layout chunks heads text t d o h' c g w k p) =
    absurd (other_status rest (begins_first point layout rest (b.head ++ text) (body_begins point layout b.head heads text rest d h'))
    (bare_first point last raw rest e h))
told_one x y xs ys raw other a b point rest (no_change last s e h n m) (no_change last' t d h' o p) =
    let v = h.value in
    let w = h'.value in
    let fa : HasResponse rest v (length last) = subst (λ (z : List ℕ). HasResponse z v (length last)) (sym e)
    (has_folded-append (StartsResponse v) last raw v.fields (length last) h.head) in
    let fb : HasResponse rest w (length last') = subst (λ (z : List ℕ). HasResponse z w (length last')) (sym d)
    (has_folded-append (StartsResponse w) last' other w.fields (length last') h'.head) in
    let same = response_unique (unfolded rest) v w (length last) (length last') fa fb in
    alike_by x y xs ys raw other a b true false false false false m p refl (n ∙ sym o) (s ∙ sym t)
    (split_one last raw last' other (sym e ∙ d) same.1).1 (unmodified x m.modified_is)
told_one x y xs ys raw other a b point rest (no_change last s e h n m) (change layout last' t d h' k p) =
    absurd (other_status rest (begins_first point layout rest (b.head ++ (h'.rest ++ other))
    (change_begins point layout b.head ys last' other rest d h')) (bare_first point last raw rest e h))
told_one x y xs ys raw other a b point rest (change layout last s e h k m) (nothing t f d o p) =
    absurd (no_head rest 200 f (begins_first point layout rest (a.head ++ (h.rest ++ raw))
    (change_begins point layout a.head xs last raw rest e h)))
told_one x y xs ys raw other a b point rest (change layout last s e h k m) (icap_head layout' icap t d h' l o p) =
    let same = begins_one point layout' layout rest other (a.head ++ (h.rest ++ raw)) (record { icap = icap; text_is = d; is = h' })
    (change_begins point layout a.head xs last raw rest e h) in
    absurd (head_short a.head (h.rest ++ raw) other layout' layout same.0 same.1 l h.heads_are.size)
told_one x y xs ys raw other a b point rest (change layout last s e h k m) (in_body layout' chunks heads text t d o h' c g w k' p) =
    let same = begins_one point layout' layout rest (b.head ++ text) (a.head ++ (h.rest ++ raw))
    (body_begins point layout' b.head heads text rest d h') (change_begins point layout a.head xs last raw rest e h) in
    let tails = tails_one b.head text a.head (h.rest ++ raw) layout' layout same.0 same.1 h'.size h.heads_are.size in
    absurd (no_whole h.rest raw ys xs (has_body layout.body) chunks (ap (λ (z : Layout). has_body z.body) (sym same.0) ∙ w) h.body_is
    (subst (λ (z : List ℕ). HasRead z ys chunks) tails.1 c) g)
told_one x y xs ys raw other a b point rest (change layout last s e h k m) (no_change last' t d h' o p) =
    absurd (other_status rest (begins_first point layout rest (a.head ++ (h.rest ++ raw))
    (change_begins point layout a.head xs last raw rest e h)) (bare_first point last' other rest d h'))
told_one x y xs ys raw other a b point rest (change layout last s e h k m) (change layout' last' t d h' k' p) =
    let same = begins_one point layout layout' rest (a.head ++ (h.rest ++ raw)) (b.head ++ (h'.rest ++ other))
    (change_begins point layout a.head xs last raw rest e h) (change_begins point layout' b.head ys last' other rest d h') in
    let tails = tails_one a.head (h.rest ++ raw) b.head (h'.rest ++ other) layout layout' same.0 same.1 h.heads_are.size
    h'.heads_are.size in
    let bodies = bodies_one (has_body layout'.body) h.rest raw h'.rest other xs ys tails.1
    (subst (λ (z : Layout). IsBody (has_body z.body) h.rest xs) same.0 h.body_is) h'.body_is in
    alike_by x y xs ys raw other a b false true (has_body layout.body) true (has_body layout'.body) m p
    (ap (λ (z : Layout). has_body z.body) same.0) bodies.1 (s ∙ sym t) bodies.0 (λ q. (k ∙ (ap Some same.0 ∙ sym k'), tails.0))

-- two waiting sides with room that read the same bytes, cut in any way, are equally far
pub cut_anyhow : (x y : Seen) (xs ys read : List ℕ) (a b : ReadSide) (room more : ℕ) → b.reader.point ≡ a.reader.point → 0 < room → 0 < more
    → SideHeard x xs read a → HasToWait a.reader.stage a.raw room → SideHeard y ys read b → HasToWait b.reader.stage b.raw more
    → AreSame x y xs ys a b
cut_anyhow x y xs ys read a b room more e s t h w i v =
    let p = parsed a.reader.stage x xs h.framed a.raw a.reader read room refl s h.text_is h.heard w in
    let q = parsed b.reader.stage y ys i.framed b.raw b.reader read more refl t i.text_is i.heard v in
    let point = a.reader.point in
    let there : Told y ys b.raw b.reader point q.rest = subst (λ (z : Point). Told y ys b.raw b.reader z q.rest) e q.told in
    let interim : IsContinueOrNothing point y.continued q.before =
    subst (λ (z : Point). IsContinueOrNothing z y.continued q.before) e q.interim in
    let same = interim_one point x.continued y.continued p.before p.rest q.before q.rest (sym p.text_is ∙ q.text_is) p.interim interim
    (no_interim x xs a.raw a.reader point p.rest p.told) (no_interim y ys b.raw b.reader point q.rest there) in
    let l = told_one x y xs ys a.raw b.raw a.reader b.reader point q.rest
    (subst (λ (z : List ℕ). Told x xs a.raw a.reader point z) same.1 p.told) there in
    record {
      continued = same.0;
      no_mod = l.no_mod;
      modified = l.modified;
      has_body = l.body;
      adapted_over = l.over;
      adapted = l.adapted;
      stage = l.stage;
      raw = l.left;
      heads = l.heads;
    }

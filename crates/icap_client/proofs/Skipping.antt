-- Bytes of a body that are read and dropped, and the framing of the answer to an OPTIONS request.
use Rattle.std.proofs.Common.{◌≡◌, ◌≢◌, ℕ, ◌+◌, ◌<◌, ◌≤◌, ◌⊎◌, inl, inr, Bool, true, false, if◌then◌else◌, nat_lt, List, [], ◌∷◌, ◌++◌}
use Rattle.std.proofs.Common.{length, take, drop, refl, ap, sym, subst, ◌∙◌, append_assoc, append-nil, Option, Some, None, IfSome, is_some}
use Rattle.std.proofs.Common.{option_map, Result, Ok, Err, IfErr, codes, arith}
use Rattle.std.proofs.Math.Seq.{take-add}
use Rattle.std.proofs.Math.ListN.{drop_of_length-le}
use Rattle.std.proofs.lemmas.List.{take-append-drop, length-drop, length-append, drop-drop}
use Rattle.adapt_sides.specs.declared.fault.ClientFault.{ClientFault}
use Rattle.adapt_sides.specs.declared.fault.ClientFault.TheVariants as faults
use Rattle.icap_head.specs.Folds.{unfolded}
use Rattle.icap_head.specs.Heads.{Response, HasResponse, RefusesResponse, response_parts}
use Rattle.icap_head.specs.declared.responses.IcapResponse.{IcapResponse}
use Rattle.icap_head.specs.declared.reading.HeadFault.{HeadFault}
use Rattle.icap_head.specs.declared.reading.HeadFault.TheVariants as heads
use Rattle.icap_chunks.specs.Machine.{HasRead, start, end_of, end_at, fault_of, faulted_at}
use Rattle.icap_chunks.specs.Faults.{Breaks}
use Rattle.icap_chunks.specs.declared.fault.ChunkFault.{ChunkFault}
use Rattle.icap_chunks.specs.declared.reader.ChunkReader.{ChunkReader}
use Rattle.icap_chunks.proofs.Readings.{reads_nothing, reads_end}
use Rattle.icap_client.specs.Hearing.{ReadsOn}
use Rattle.icap_client.specs.Replies.{lists_of}
use Rattle.icap_chunks.specs.Grammar.{crlf}
use Rattle.icap_client.specs.RequestHead.{joined, host_pieces}
use Rattle.icap_client.specs.Asking.{options_pieces, options_request, HasOptionsBody, IsOptionsAnswer, IsOptionsFront, Asker, AnsweredTo}
use Rattle.icap_client.specs.Asking.{Frames, Tells, HasAnyHead, RefusesOptionsHead, RefusesOptions, RefusesRaw, HoldsHead}
use Rattle.icap_client.specs.declared.options.OptionsStage.{OptionsStage}
use Rattle.icap_client.specs.declared.options.OptionsStage.TheVariants.{Head, Body, Over}
use Rattle.icap_client.proofs.Heads.{is_head, stands_for}

-- of no bytes nothing is skipped, and the chunk reader stays as it is
pub skip_none : (a : ChunkReader) (raw : List ℕ) → ReadsOn a raw 0 [] a
skip_none a raw text body h = subst (λ (t : List ℕ). HasRead t (body ++ []) a) (sym (append-nil text))
    (subst (λ (b : List ℕ). HasRead text b a) (sym (append-nil body)) h)

-- a fault after a part of the body that was skipped
pub skip_breaks : (a b : ChunkReader) (raw rest : List ℕ) (used : ℕ) (p : List ℕ) (fault : ChunkFault) → ReadsOn a raw used p b
    → rest ≡ drop used raw
    → ((text body : List ℕ) → HasRead text body b → Breaks (text ++ rest) body fault) → (text body : List ℕ) → HasRead text body a
    → Breaks (text ++ raw) (body ++ p) fault
skip_breaks a b raw rest used p fault f is g text body h =
    let texts : (text ++ take used raw) ++ rest ≡ text ++ raw =
    append_assoc text (take used raw) rest ∙ ap (λ (t : List ℕ). text ++ t)
    (ap (λ (t : List ℕ). take used raw ++ t) is ∙ take-append-drop used raw) in
    subst (λ (t : List ℕ). Breaks t (body ++ p) fault) texts (g (text ++ take used raw) (body ++ p) (f text body h))

-- bytes that are skipped, and then more of what is left, are skipped together
pub skip_more : (a b c : ChunkReader) (raw rest : List ℕ) (used more : ℕ) (p q : List ℕ) → ReadsOn a raw used p b → rest ≡ drop used raw
    → ReadsOn b rest more q c → ReadsOn a raw (used + more) (p ++ q) c
skip_more a b c raw rest used more p q f is g text body h =
    let two : HasRead ((text ++ take used raw) ++ take more rest) ((body ++ p) ++ q) c =
    g (text ++ take used raw) (body ++ p) (f text body h) in
    let texts : (text ++ take used raw) ++ take more rest ≡ text ++ take (used + more) raw =
    append_assoc text (take used raw) (take more rest) ∙ ap (λ (t : List ℕ). text ++ t)
    (ap (λ (t : List ℕ). take used raw ++ take more t) is ∙ sym (take-add used more raw)) in
    subst (λ (t : List ℕ). HasRead t (body ++ (p ++ q)) c) texts (subst
    (λ (t : List ℕ). HasRead ((text ++ take used raw) ++ take more rest) t c) (append_assoc body p q) two)

-- a chunk reader before its first byte has no end
pub none_starts : end_of start ≡ None
unfolding end_at
none_starts = refl

-- a chunk reader before its first byte has no fault
pub sound_starts : fault_of start ≡ None
unfolding faulted_at
sound_starts = refl

-- a stage before the head isn't the one after the answer's end
no_head_over : (s : OptionsStage) → s ≡ Head → s ≡ Over → ⊥
no_head_over s h o = let odd : Head ≡ Over = sym h ∙ o in cc

-- a stage within a body isn't the one after the answer's end
no_body_over : (s : OptionsStage) (chunks : ChunkReader) → s ≡ Body chunks → s ≡ Over → ⊥
no_body_over s chunks b o = let odd : Body chunks ≡ Over = sym b ∙ o in cc

-- ---- when the head is told

-- a stage that stays as it was tells no head
pub tells_still : (old new : OptionsStage) → new ≡ old → Tells old new None
tells_still old new e = record {
  told = λ o. inl (sym e ∙ o);
  whole = λ odd. cc;
  once = λ o. (e ∙ o, refl);
}

-- a step from before the answer's end to the end tells the head
tells_end : (old new : OptionsStage) (found : Option Response) → (old ≡ Over → ⊥) → new ≡ Over → is_some found ≡ true → Tells old new found
tells_end old new found n o s = record {
  told = λ e. inr s;
  whole = λ e. o;
  once = λ e. absurd (n e);
}

-- a step within the answer, before its end, tells no head
tells_on : (old new : OptionsStage) → (old ≡ Over → ⊥) → (new ≡ Over → ⊥) → Tells old new None
tells_on old new n m = record {
  told = λ e. absurd (m e);
  whole = λ odd. cc;
  once = λ e. absurd (n e);
}

-- a step that tells no head and then another are one step, which tells what that one tells
pub tells_then : (a b c : OptionsStage) (found : Option Response) → Tells a b None → Tells b c found → Tells a c found
tells_then a b c found f g = record {
  told = λ o. first (g.told o);
  whole = g.whole;
  once = λ o. g.once (f.once o).0;
}
  where
    none_told : (b ≡ Over) → (a ≡ Over)
    none_told o = behind (f.told o)
      where
        behind : (a ≡ Over) ⊎ (false ≡ true) → a ≡ Over
        behind (inl e) = e
        behind (inr odd) = cc

    first : (b ≡ Over) ⊎ (is_some found ≡ true) → (a ≡ Over) ⊎ (is_some found ≡ true)
    first (inl o) = inl (none_told o)
    first (inr s) = inr s

-- ---- framing

-- a head with no body after it
pub frames_bare : (old new : Asker) (value : Response) (size : ℕ) → old.stage ≡ Head → HasResponse old.raw value size
    → HasOptionsBody (lists_of value) false → new.stage ≡ Over → new.raw ≡ drop size old.raw → new.waiting ≡ old.waiting
    → Frames old new (Some value)
frames_bare old new value size s h l o r w =
    let whole : (framed : List ℕ) → AnsweredTo old.stage old.response framed → IsOptionsAnswer value (framed ++ take size old.raw) =
    λ framed a.
    let none : framed ≡ [] = subst (λ (t : OptionsStage). AnsweredTo t old.response framed) s a in
    record {
      head = take size old.raw;
      rest = [];
      text_is = ap (λ (t : List ℕ). t ++ take size old.raw) none ∙ sym (append-nil (take size old.raw));
      head_is = is_head old.raw value size h;
      body_is = inl (l, refl);
    } in
    record {
      used = take size old.raw;
      raw_is = sym (take-append-drop size old.raw) ∙ ap (λ (t : List ℕ). take size old.raw ++ t) (sym r);
      waiting = w;
      answered = λ framed a. subst (λ (t : OptionsStage). AnsweredTo t new.response (framed ++ take size old.raw)) (sym o)
          (value, whole framed a);
      answer = whole;
      tells = tells_end old.stage new.stage (Some value) (no_head_over old.stage s) o refl;
    }

-- a head with a body after it
pub begins_body : (old : Asker) (value : Response) (size : ℕ) (framed : List ℕ) → old.stage ≡ Head → HasResponse old.raw value size
    → HasOptionsBody (lists_of value) true → AnsweredTo old.stage old.response framed
    → IsOptionsFront value start (framed ++ take size old.raw)
begins_body old value size framed s h l a =
    let none : framed ≡ [] = subst (λ (t : OptionsStage). AnsweredTo t old.response framed) s a in
    record {
      head = take size old.raw;
      rest = [];
      body = [];
      text_is = ap (λ (t : List ℕ). t ++ take size old.raw) none ∙ sym (append-nil (take size old.raw));
      head_is = is_head old.raw value size h;
      list = l;
      read = reads_nothing none_starts;
      going_on = none_starts;
      no_fault = sound_starts;
    }

-- one after the other
pub frames_then : (a b c : Asker) (value : Response) (chunks : ChunkReader) (size : ℕ) (found : Option Response) → chunks ≡ start
    → a.stage ≡ Head → HasResponse a.raw value size → HasOptionsBody (lists_of value) true
    → b.stage ≡ Body chunks → b.response ≡ Some value → b.raw ≡ drop size a.raw → b.waiting ≡ a.waiting → Frames b c found
    → Frames a c found
frames_then a b c value chunks size found st s h l t r e w g =
    let to_b : (framed : List ℕ) → AnsweredTo a.stage a.response framed → AnsweredTo b.stage b.response (framed ++ take size a.raw) =
    λ framed x.
    subst (λ (k : OptionsStage). AnsweredTo k b.response (framed ++ take size a.raw)) (sym t) (
      value,
      r,
      subst (λ (k : ChunkReader). IsOptionsFront value k (framed ++ take size a.raw)) (sym st)
          (begins_body a value size framed s h l x),
    ) in
    record {
      used = take size a.raw ++ g.used;
      raw_is = sym (take-append-drop size a.raw) ∙ (ap (λ (t : List ℕ). take size a.raw ++ t) (sym e ∙ g.raw_is)
          ∙ sym (append_assoc (take size a.raw) g.used c.raw));
      waiting = g.waiting ∙ w;
      answered = λ framed x. subst (λ (t : List ℕ). AnsweredTo c.stage c.response t) (append_assoc framed (take size a.raw) g.used)
          (g.answered (framed ++ take size a.raw) (to_b framed x));
      answer = λ framed x. subst (λ (t : List ℕ). IfSome found (λ v. IsOptionsAnswer v t)) (append_assoc framed (take size a.raw) g.used)
          (g.answer (framed ++ take size a.raw) (to_b framed x));
      tells = tells_then a.stage b.stage c.stage found (tells_on a.stage b.stage (no_head_over a.stage s) (no_body_over b.stage chunks t))
          g.tells;
    }

-- more of the body is read, after the head
rest_more : (value : Response) (chunks : ChunkReader) (framed more : List ℕ) → (f : IsOptionsFront value chunks framed)
    → framed ++ more ≡ f.head ++ (f.rest ++ more)
rest_more value chunks framed more f = ap (λ (t : List ℕ). t ++ more) f.text_is ∙ append_assoc f.head f.rest more

-- a first part of a body that goes on stays one with more of the body read
front_more : (value : Response) (chunks next : ChunkReader) (framed raw part : List ℕ) (used : ℕ) → ReadsOn chunks raw used part next
    → end_of next ≡ None → fault_of next ≡ None
    → IsOptionsFront value chunks framed → IsOptionsFront value next (framed ++ take used raw)
front_more value chunks next framed raw part used on e n f = record {
  head = f.head;
  rest = f.rest ++ take used raw;
  body = f.body ++ part;
  text_is = rest_more value chunks framed (take used raw) f;
  head_is = f.head_is;
  list = f.list;
  read = on f.rest f.body f.read;
  going_on = e;
  no_fault = n;
}

-- an end that there is says whether it is one with ieof
some_is : (o : Option Bool) → is_some o ≡ true → (b : Bool) × (o ≡ Some b)
some_is None e = cc
some_is (Some b) e = (b, refl)

-- within the body
pub frames_on : (old new : Asker) (chunks next : ChunkReader) (used : ℕ) (part : List ℕ) → old.stage ≡ Body chunks
    → ReadsOn chunks old.raw used part next → end_of next ≡ None → fault_of next ≡ None
    → new.stage ≡ Body next → new.response ≡ old.response → new.raw ≡ drop used old.raw → new.waiting ≡ old.waiting → Frames old new None
frames_on old new chunks next used part s on going sound t e r w = record {
  used = take used old.raw;
  raw_is = sym (take-append-drop used old.raw) ∙ ap (λ (l : List ℕ). take used old.raw ++ l) (sym r);
  waiting = w;
  answered = λ framed a.
      let here : AnsweredTo (Body chunks) old.response framed = subst (λ (k : OptionsStage). AnsweredTo k old.response framed) s a in
      subst (λ (k : OptionsStage). AnsweredTo k new.response (framed ++ take used old.raw)) (sym t)
      (here.0, e ∙ here.1, front_more here.0 chunks next framed old.raw part used on going sound here.2);
  answer = λ framed a. tt;
  tells = tells_on old.stage new.stage (no_body_over old.stage chunks s) (no_body_over new.stage next t);
}

-- up to its end
pub frames_end : (old new : Asker) (chunks next : ChunkReader) (used : ℕ) (part : List ℕ) (found : Option Response)
    → old.stage ≡ Body chunks → ReadsOn chunks old.raw used part next → is_some (end_of next) ≡ true → is_some old.response ≡ true
    → new.stage ≡ Over → found ≡ old.response → new.raw ≡ drop used old.raw → new.waiting ≡ old.waiting → Frames old new found
frames_end old new chunks next used part found s on ended held t f r w =
    let last = some_is (end_of next) ended in
    let whole : (framed : List ℕ) → AnsweredTo old.stage old.response framed
    → (value : Response) × (old.response ≡ Some value) × IsOptionsAnswer value (framed ++ take used old.raw) = λ framed a.
    let here : AnsweredTo (Body chunks) old.response framed = subst (λ (k : OptionsStage). AnsweredTo k old.response framed) s a in
    let front = here.2 in (
      here.0,
      here.1,
      record {
        head = front.head;
        rest = front.rest ++ take used old.raw;
        text_is = rest_more here.0 chunks framed (take used old.raw) front;
        head_is = front.head_is;
        body_is = inr (
          front.list,
          (
            front.body ++ part,
            last.0,
            reads_end (front.rest ++ take used old.raw) (front.body ++ part) next last.0 (on front.rest front.body front.read) last.1,
          ),
        );
      },
    ) in
    record {
      used = take used old.raw;
      raw_is = sym (take-append-drop used old.raw) ∙ ap (λ (l : List ℕ). take used old.raw ++ l) (sym r);
      waiting = w;
      answered = λ framed a. let k = whole framed a in
          subst (λ (o : OptionsStage). AnsweredTo o new.response (framed ++ take used old.raw)) (sym t) (k.0, k.2);
      answer = λ framed a. let k = whole framed a in
          subst (λ (o : Option Response). IfSome o (λ v. IsOptionsAnswer v (framed ++ take used old.raw))) (sym (f ∙ k.1)) k.2;
      tells = tells_end old.stage new.stage found (no_body_over old.stage chunks s) t (ap (λ (o : Option Response). is_some o) f ∙ held);
    }

-- nothing more is framed
pub frames_kept : (old new : Asker) → new.stage ≡ old.stage → new.response ≡ old.response → new.raw ≡ old.raw → new.waiting ≡ old.waiting
    → Frames old new None
frames_kept old new s o r w = record {
  used = [];
  raw_is = sym r;
  waiting = w;
  answered = λ framed a.
      subst (λ (t : List ℕ). AnsweredTo new.stage new.response t) (sym (append-nil framed))
      (subst (λ (k : OptionsStage). AnsweredTo k new.response framed) (sym s)
      (subst (λ (v : Option Response). AnsweredTo old.stage v framed) (sym o) a));
  answer = λ framed a. tt;
  tells = tells_still old.stage new.stage s;
}

-- a side that is the same as it was frames nothing more
pub frames_same : (old new : Asker) → new ≡ old → Frames old new None
frames_same old new e = frames_kept old new (ap (λ (n : Asker). n.stage) e) (ap (λ (n : Asker). n.response) e) (ap (λ (n : Asker). n.raw) e)
    (ap (λ (n : Asker). n.waiting) e)

-- a body that comes
pub holds_start : (head : IcapResponse) (chunks : ChunkReader) → chunks ≡ start → HoldsHead (Body chunks) (Some head)
holds_start head chunks e = subst (λ (r : ChunkReader). HoldsHead (Body r) (Some head)) (sym e) (refl, none_starts, sound_starts)

-- where there is a response, its parts are there too
some_mapped : (o : Option IcapResponse) → is_some o ≡ true → is_some (option_map response_parts o) ≡ true
some_mapped None e = cc
some_mapped (Some head) e = refl

-- a side that holds its head in a body has a head that is kept
pub head_held : (s : Asker) (stage : OptionsStage) (response : Option IcapResponse) (chunks : ChunkReader)
    → option_map response_parts response ≡ s.response → stage ≡ Body chunks → HoldsHead stage response → is_some s.response ≡ true
head_held s stage response chunks e b h =
    let here : HoldsHead (Body chunks) response = subst (λ (t : OptionsStage). HoldsHead t response) b h in
    ap (λ (o : Option Response). is_some o) (sym e) ∙ some_mapped response here.0

-- ---- refusing

-- the raw bytes are refused where they begin
pub refuses_here : (old : Asker) (stage : OptionsStage) (fault : ClientFault) → old.stage ≡ stage → RefusesOptions fault stage old.raw
    → RefusesRaw fault old
refuses_here old stage fault s r = record {
  at = old;
  frames = frames_same old old refl;
  refuses = subst (λ (t : OptionsStage). RefusesOptions fault t old.raw) (sym s) r;
}

-- a body's bytes are refused after its head too
pub refuses_then : (a b : Asker) (value : Response) (chunks : ChunkReader) (size : ℕ) (fault : ClientFault) → chunks ≡ start
    → a.stage ≡ Head → HasResponse a.raw value size → HasOptionsBody (lists_of value) true
    → b.stage ≡ Body chunks → b.response ≡ Some value → b.raw ≡ drop size a.raw → b.waiting ≡ a.waiting → RefusesRaw fault b
    → RefusesRaw fault a
refuses_then a b value chunks size fault st s h l t r e w g = record {
  at = g.at;
  frames = frames_then a b g.at value chunks size None st s h l t r e w g.frames;
  refuses = g.refuses;
}

-- want of memory is no fault of a text
unended_wants : (b : Bool) → heads.NoMemory ≡ (if b then heads.More else heads.TooLong) → ⊥
unended_wants true e = cc
unended_wants false e = cc

-- no text is refused for want of memory
none_wants : (raw : List ℕ) → RefusesResponse heads.NoMemory raw → ⊥
none_wants raw (inl h) = unended_wants (nat_lt (length (unfolded raw)) 16384) h.0
none_wants raw (inr (line, behind, first, inl (inl h))) = let odd = h.0 in cc
none_wants raw (inr (line, behind, first, inl (inr h))) = let odd = h.0 in cc
none_wants raw (inr (line, behind, first, inr (form, inl h))) = let odd = h.0 in cc
none_wants raw (inr (line, behind, first, inr (form, inr (inl h)))) = let odd = h.0 in cc
none_wants raw (inr (line, behind, first, inr (form, inr (inr h)))) = unended_wants (nat_lt (length (unfolded raw)) 16384) h.0

-- a body's byte breaks it
pub refuses_body : (old : Asker) (chunks : ChunkReader) (raw : List ℕ) (fault : ChunkFault) → old.stage ≡ Body chunks → raw ≡ old.raw
    → ((part : List ℕ) × ((text body : List ℕ) → HasRead text body chunks → Breaks (text ++ raw) (body ++ part) fault))
    → RefusesRaw faults.Chunk old
refuses_body old chunks raw fault s e b =
    refuses_here old (Body chunks) faults.Chunk s (
      fault,
      b.0,
      subst (λ (t : List ℕ). (text body : List ℕ) → HasRead text body chunks → Breaks (text ++ t) (body ++ b.0) fault) e b.1,
    )

-- what is said of the text of the raw bytes
pub head_stands : {A : Type 0} (fault : HeadFault) (raw text : List ℕ) → text ≡ raw → (A → HasAnyHead text)
    → ((fault ≡ heads.NoMemory) × A) ⊎ RefusesResponse fault text
    → ((fault ≡ heads.NoMemory) × HasAnyHead raw) ⊎ RefusesResponse fault raw
head_stands fault raw text e f (inl h) = inl (h.0, subst HasAnyHead e (f h.1))
head_stands fault raw text e f (inr s) = inr (subst (λ (t : List ℕ). RefusesResponse fault t) e s)

-- bytes that want more are a prefix of a head
pub more_stands : (fault : HeadFault) (raw : List ℕ) → fault ≡ heads.More
    → ((fault ≡ heads.NoMemory) × HasAnyHead raw) ⊎ RefusesResponse fault raw → RefusesResponse heads.More raw
more_stands fault raw e (inl h) = let odd : heads.More ≡ heads.NoMemory = sym e ∙ h.0 in cc
more_stands fault raw e (inr s) = subst (λ (f : HeadFault). RefusesResponse f raw) e s

-- a weaker property of a result's fault, if it has one, follows from a stronger one
pub err_map : {A B : Type 0} (r : Result A B) (P Q : B → Type 0) → ((b : B) → P b → Q b) → IfErr r P → IfErr r Q
err_map (Ok a) P Q f h = tt
err_map (Err b) P Q f h = f b h

-- a head's fault
pub refuses_head : (fault : HeadFault) (found : ClientFault) (raw : List ℕ)
    → (((fault ≡ heads.NoMemory) × (found ≡ faults.NoMemory)) ⊎ ((found ≡ faults.Head) × (fault ≢ heads.NoMemory) × (fault ≢ heads.More)))
    → ((fault ≡ heads.NoMemory) × HasAnyHead raw) ⊎ RefusesResponse fault raw → RefusesOptionsHead found raw
refuses_head fault found raw (inl m) (inl h) = subst (λ (f : ClientFault). RefusesOptionsHead f raw) (sym m.1) h.1
refuses_head fault found raw (inl m) (inr s) = absurd (none_wants raw (subst (λ (f : HeadFault). RefusesResponse f raw) m.0 s))
refuses_head fault found raw (inr h) s = subst (λ (f : ClientFault). RefusesOptionsHead f raw) (sym h.0)
    (fault, h.2, stands_for fault raw h.1 s)

-- after as many bytes as a text has none of it is left
pub none_left : (n : ℕ) (xs : List ℕ) → length xs ≤ n → drop n xs ≡ []
none_left n xs l = drop_of_length-le xs l

-- ---- the request's text, of which so many bytes are out

-- where none of a text is left, as many bytes are out as it has
pub all_out : (n : ℕ) (xs : List ℕ) → drop n xs ≡ [] → length xs ≤ n
all_out n xs e = let z : length (drop n xs) ≡ 0 = ap (λ (t : List ℕ). length t) e in omega (arith, z, length-drop n xs)

-- what is left after some bytes and then more is left after both together
pub more_out : (n m : ℕ) (xs : List ℕ) → drop (n + m) xs ≡ drop m (drop n xs)
more_out n m xs = sym (drop-drop m n xs)

-- where two parts are as many bytes as a text has, none is left after them
pub none_more : (n m : ℕ) (xs : List ℕ) → length xs ≤ n + m → drop m (drop n xs) ≡ []
none_more n m xs l = drop-drop m n xs ∙ none_left (n + m) xs l

-- an OPTIONS request isn't empty
pub some_text : (host path : List ℕ) (port : ℕ) → 0 < length (options_request host port path)
some_text host path port =
    let front = joined (codes "Encapsulated: null-body=0" ∷ crlf ∷ []) (joined (host_pieces host port)
    (joined (options_pieces host port path) [])) in
    let long : length (front ++ crlf) ≡ length front + length crlf = length-append front crlf in
    let two : length crlf ≡ 2 = refl in
    omega (arith, long, two)

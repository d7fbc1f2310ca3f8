-- A turn of an OPTIONS request's side.
use Rattle.std.proofs.Common.{◌≡◌, ℕ, ◌<◌, ◌≤◌, ◌⊎◌, inl, inr, true, false, List, [], ◌++◌, length, take, drop, refl, ap, sym, subst, ◌∙◌}
use Rattle.std.proofs.Common.{append_assoc, append-nil, Option, Some, None, IfSome, IfNone, Result, Ok, Err, IfOk, IfErr, option_map, arith}
use Rattle.std.proofs.lemmas.List.{take-append-drop}
use Rattle.wire_kit.specs.Past.{Past, Offers, FitsPut, after_write, part_taken}
use Rattle.wire_kit.specs.declared.wire.Put.{Put}
use Rattle.wire_kit.specs.declared.wire.Put.TheVariants as put
use Rattle.adapt_sides.specs.declared.fault.ClientFault.{ClientFault}
use Rattle.adapt_sides.specs.declared.fault.ClientFault.TheVariants as faults
use Rattle.icap_head.specs.Heads.{Response, response_parts}
use Rattle.icap_head.specs.declared.responses.IcapResponse.{IcapResponse}
use Rattle.adapt_sides.specs.Filling.{IsFilled}
use Rattle.adapt_sides.specs.declared.filling.Filled.TheVariants as fills
use Rattle.icap_client.specs.declared.options.OptionsStage.{OptionsStage}
use Rattle.icap_client.specs.declared.options.OptionsStage.TheVariants.{Head, Body, Over}
use Rattle.icap_client.specs.Asking.{IsOptionsAnswer, Asker, LetsRoomGo, AnsweredTo, HasAnswered, Tells, Frames, RefusesRaw, RefusesGiven}
use Rattle.icap_client.specs.Asking.{AnswersOptions, HasToAsk, Call, IsCall, FitsBytes, FitsKept, FitsCall, Asks}
use Rattle.icap_client.specs.Asking.Call.{offered, filled, rested}
use Rattle.icap_client.proofs.Skipping.{tells_still, tells_then}

-- ---- more bytes are wanted

-- where more bytes are wanted, fewer are kept than a head may have at most
pub ask_short : (s : OptionsStage) (raw : List ℕ) → HasToAsk s raw → length raw < 16384
ask_short Head raw h = h.short
ask_short (Body chunks) raw h = omega (arith, ap (λ (t : List ℕ). length t) h)
ask_short Over raw h = absurd h

-- where more bytes are wanted, the answer isn't at its end
pub ask_on : (s : OptionsStage) (raw : List ℕ) → HasToAsk s raw → s ≡ Over → ⊥
ask_on Head raw h e = cc
ask_on (Body chunks) raw h e = cc
ask_on Over raw h e = h

-- ---- what was read

-- a weaker property of an optional response follows from a stronger one
some_map : (o : Option Response) (P Q : Response → Type 0) → ((v : Response) → P v → Q v) → IfSome o P → IfSome o Q
some_map None P Q f h = tt
some_map (Some v) P Q f h = f v h

-- bytes came, and more was framed
answer_by : (old mid new : Asker) (given : List ℕ) (found : Option Response) → mid.stage ≡ old.stage → mid.response ≡ old.response
    → mid.raw ≡ old.raw ++ given → Frames mid new found → AnswersOptions old new given found
answer_by old mid new given found s r e g =
    let to_mid : (framed : List ℕ) → AnsweredTo old.stage old.response framed → AnsweredTo mid.stage mid.response framed = λ framed a.
    subst (λ (t : OptionsStage). AnsweredTo t mid.response framed) (sym s)
    (subst (λ (o : Option Response). AnsweredTo old.stage o framed) (sym r) a) in
    let texts : (read framed : List ℕ) → read ≡ framed ++ old.raw → read ++ given ≡ (framed ++ g.used) ++ new.raw = λ read framed t.
    ap (λ (l : List ℕ). l ++ given) t ∙ (append_assoc framed old.raw given
    ∙ (ap (λ (l : List ℕ). framed ++ l) (sym e ∙ g.raw_is) ∙ sym (append_assoc framed g.used new.raw))) in
    record {
      answered = λ read h. record {
        framed = h.framed ++ g.used;
        text_is = texts read h.framed h.text_is;
        answered = g.answered h.framed (to_mid h.framed h.answered);
      };
      answer = λ read h. some_map found (λ v. IsOptionsAnswer v (h.framed ++ g.used))
          (λ v. (text : List ℕ) × IsOptionsAnswer v text × (read ++ given ≡ text ++ new.raw))
          (λ v a. (h.framed ++ g.used, a, texts read h.framed h.text_is)) (g.answer h.framed (to_mid h.framed h.answered));
      tells = subst (λ (t : OptionsStage). Tells t new.stage found) s g.tells;
    }

-- what was framed of the raw bytes, with none read, says what is answered
framed_none : (old new : Asker) (found : Option Response) → Frames old new found → AnswersOptions old new [] found
framed_none old new found f = answer_by old old new [] found refl refl (sym (append-nil old.raw)) f

-- a side at the same stage, with the same head and raw bytes, answers no head
answers_same : (old new : Asker) → new.stage ≡ old.stage → new.response ≡ old.response → new.raw ≡ old.raw → AnswersOptions old new [] None
answers_same old new s r e = record {
  answered = λ read h. record {
    framed = h.framed;
    text_is = append-nil read ∙ (h.text_is ∙ ap (λ (t : List ℕ). h.framed ++ t) (sym e));
    answered = subst (λ (t : OptionsStage). AnsweredTo t new.response h.framed) (sym s)
        (subst (λ (o : Option Response). AnsweredTo old.stage o h.framed) (sym r) h.answered);
  };
  answer = λ read h. tt;
  tells = tells_still old.stage new.stage s;
}

-- one after the other, the first without an answer
answers_then : (a b c : Asker) (d e : List ℕ) (found : Option Response) → AnswersOptions a b d None → AnswersOptions b c e found
    → AnswersOptions a c (d ++ e) found
answers_then a b c d e found f g = record {
  answered = λ read h. subst (λ (t : List ℕ). HasAnswered t c) (append_assoc read d e) (g.answered (read ++ d) (f.answered read h));
  answer = λ read h. subst (λ (t : List ℕ). IfSome found (λ v. (text : List ℕ) × IsOptionsAnswer v text × (t ≡ text ++ c.raw)))
      (append_assoc read d e) (g.answer (read ++ d) (f.answered read h));
  tells = tells_then a.stage b.stage c.stage found f.tells g.tells;
}

-- a side whose raw bytes are refused with the given ones after them refuses the given ones
refused_by : (old mid : Asker) (given : List ℕ) (fault : ClientFault) → mid.stage ≡ old.stage → mid.response ≡ old.response
    → mid.raw ≡ old.raw ++ given → RefusesRaw fault mid → RefusesGiven fault old given
refused_by old mid given fault s r e g = record {
  at = g.at;
  answers = answer_by old mid g.at given None s r e g.frames;
  refuses = g.refuses;
}

-- bytes that are refused after some were framed without an answer are refused before that too
refused_behind : (a b : Asker) (given : List ℕ) (fault : ClientFault) → AnswersOptions a b [] None → RefusesGiven fault b given
    → RefusesGiven fault a given
refused_behind a b given fault f g = record { at = g.at; answers = answers_then a b g.at [] given None f g.answers; refuses = g.refuses }

-- ---- turns

-- a weaker property of a result's value, if it has one, follows from a stronger one
ok_of : {A B : Type 0} (r : Result A B) (P Q : A → Type 0) → ((x : A) → P x → Q x) → IfOk r P → IfOk r Q
ok_of (Ok x) P Q f h = f x h
ok_of (Err e) P Q f h = tt

-- the text that waits was offered
is_offered : (old : Asker) (P Q : Past → Type 0) (bytes : List ℕ) (answer : Put) → bytes ≡ old.waiting → 0 < length old.waiting
    → ((p : Past) → P p → Q (after_write p bytes answer)) → FitsPut (length bytes) answer
    → IsCall (offered answer) P Q old [] (part_taken answer old.waiting)
is_offered old P Q bytes answer is some q f = (
  some,
  record {
    each = λ p h. subst (λ (t : List ℕ). Q (after_write p t answer)) is (q p h);
    fits = subst (λ (t : List ℕ). FitsPut (length t) answer) is f;
  },
  refl,
  refl,
)

-- a turn that offers what waits, and whose wire takes a part, leaves the rest and answers no head
pub asks_took : (old new : Asker) (P Q : Past → Type 0) (bytes : List ℕ) (n : ℕ) → bytes ≡ old.waiting → 0 < length old.waiting
    → (1 ≤ n) × (n ≤ length bytes) → ((p : Past) → P p → Q (after_write p bytes (put.Took n)))
    → new.waiting ≡ drop n bytes → new.stage ≡ old.stage → new.response ≡ old.response → new.raw ≡ old.raw → Asks old new P Q (Ok None)
asks_took old new P Q bytes n is some f q w s r e = record {
  call = offered (put.Took n);
  given = [];
  taken = take n old.waiting;
  wire = is_offered old P Q bytes (put.Took n) is some q f;
  fits = refl;
  sent = sym (take-append-drop n old.waiting) ∙ ap (λ (t : List ℕ). take n old.waiting ++ t) (sym (w ∙ ap (λ (t : List ℕ). drop n t) is));
  answers = answers_same old new s r e;
}

-- a turn that offers what waits, and whose wire answers Wait, answers no head
pub asks_later : (old new : Asker) (P Q : Past → Type 0) (bytes : List ℕ) → bytes ≡ old.waiting → 0 < length old.waiting
    → ((p : Past) → P p → Q (after_write p bytes put.Wait))
    → new.waiting ≡ old.waiting → new.stage ≡ old.stage → new.response ≡ old.response → new.raw ≡ old.raw → Asks old new P Q (Ok None)
asks_later old new P Q bytes is some q w s r e = record {
  call = offered put.Wait;
  given = [];
  taken = [];
  wire = is_offered old P Q bytes put.Wait is some q tt;
  fits = refl;
  sent = sym w;
  answers = answers_same old new s r e;
}

-- a turn that offers what waits, and whose wire fails, answers Device
pub asks_broken : (old new : Asker) (P Q : Past → Type 0) (bytes : List ℕ) → bytes ≡ old.waiting → 0 < length old.waiting
    → ((p : Past) → P p → Q (after_write p bytes put.Fault)) → new.waiting ≡ old.waiting
    → Asks old new P Q (Err faults.Device)
asks_broken old new P Q bytes is some q w = record {
  call = offered put.Fault;
  given = [];
  taken = [];
  wire = is_offered old P Q bytes put.Fault is some q tt;
  fits = refl;
  sent = sym w;
  answers = tt;
}

-- the wire was read
bytes_fit : (old mid new : Asker) (given : List ℕ) (result : Result (Option IcapResponse) ClientFault) → mid.stage ≡ old.stage
    → mid.response ≡ old.response → mid.raw ≡ old.raw ++ given
    → IfOk result (λ found. IfNone found (HasToAsk new.stage new.raw)) → IfErr result (λ fault. RefusesRaw fault mid)
    → FitsBytes old new given result
bytes_fit old mid new given (Ok found) s r e t g = t
bytes_fit old mid new given (Err fault) s r e t g = refused_by old mid given fault s r e g

-- a turn whose read gave bytes answers what is framed of them, or refuses them
pub asks_bytes : (old mid new : Asker) (P Q : Past → Type 0) (raw : List ℕ) (result : Result (Option IcapResponse) ClientFault)
    → old.waiting ≡ [] → (old.stage ≡ Over → ⊥) → new.waiting ≡ old.waiting → IsFilled P Q old.raw raw fills.Bytes
    → mid.stage ≡ old.stage → mid.response ≡ old.response → mid.raw ≡ raw
    → IfOk result (λ found. Frames mid new (option_map response_parts found))
    → IfOk result (λ found. IfNone found (HasToAsk new.stage new.raw))
    → IfErr result (λ fault. RefusesRaw fault mid) → Asks old new P Q result
asks_bytes old mid new P Q raw result out on w f s r e g t b = record {
  call = filled fills.Bytes;
  given = f.0;
  taken = [];
  wire = (out, on, (f.0, f.1, refl, f.3), refl);
  fits = bytes_fit old mid new f.0 result s r (e ∙ f.2) t b;
  sent = sym w;
  answers = ok_of result _ _ (λ found h. answer_by old mid new f.0 (option_map response_parts found) s r (e ∙ f.2) h) g;
}

-- a turn whose read waits, where more bytes are wanted, answers no head
pub asks_wait : (old new : Asker) (P Q : Past → Type 0) (raw : List ℕ) → old.waiting ≡ [] → HasToAsk old.stage old.raw
    → new.waiting ≡ old.waiting → IsFilled P Q old.raw raw fills.Wait → new.stage ≡ old.stage → new.response ≡ old.response → new.raw ≡ raw
    → Asks old new P Q (Ok None)
asks_wait old new P Q raw out h w f s r e = record {
  call = filled fills.Wait;
  given = [];
  taken = [];
  wire = (out, ask_on old.stage old.raw h, (refl, f.1), refl);
  fits = (refl, subst (λ (t : OptionsStage). HasToAsk t new.raw) (sym s) (subst (λ (t : List ℕ). HasToAsk old.stage t) (sym (e ∙ f.0)) h));
  sent = sym w;
  answers = answers_same old new s r (e ∙ f.0);
}

-- a turn whose wire has ended before the answer's end answers Closed
pub asks_ended : (old new : Asker) (P Q : Past → Type 0) (raw : List ℕ) → old.waiting ≡ [] → (old.stage ≡ Over → ⊥)
    → new.waiting ≡ old.waiting → IsFilled P Q old.raw raw fills.Ended → Asks old new P Q (Err faults.Closed)
asks_ended old new P Q raw out on w f = record {
  call = filled fills.Ended;
  given = [];
  taken = [];
  wire = (out, on, (refl, f.1), refl);
  fits = refl;
  sent = sym w;
  answers = tt;
}

-- a turn whose wire failed in a read answers Device
pub asks_failed : (old new : Asker) (P Q : Past → Type 0) (raw : List ℕ) → old.waiting ≡ [] → (old.stage ≡ Over → ⊥)
    → new.waiting ≡ old.waiting → IsFilled P Q old.raw raw fills.Failed → Asks old new P Q (Err faults.Device)
asks_failed old new P Q raw out on w f = record {
  call = filled fills.Failed;
  given = [];
  taken = [];
  wire = (out, on, (refl, f.1), refl);
  fits = refl;
  sent = sym w;
  answers = tt;
}

-- a turn with no memory for a read answers NoMemory
pub asks_full : (old new : Asker) (P Q : Past → Type 0) (raw : List ℕ) → old.waiting ≡ [] → (old.stage ≡ Over → ⊥)
    → new.waiting ≡ old.waiting → IsFilled P Q old.raw raw fills.NoMemory → Asks old new P Q (Err faults.NoMemory)
asks_full old new P Q raw out on w f = record {
  call = filled fills.NoMemory;
  given = [];
  taken = [];
  wire = (out, on, (refl, f.1), refl);
  fits = refl;
  sent = sym w;
  answers = tt;
}

-- it was left alone
pub asks_over : (old : Asker) (P : Past → Type 0) → old.waiting ≡ [] → old.stage ≡ Over → Asks old old P P (Ok None)
asks_over old P out o = record {
  call = rested;
  given = [];
  taken = [];
  wire = (out, λ p h. h, refl, refl);
  fits = o;
  sent = refl;
  answers = answers_same old old refl refl refl;
}

-- a turn that frames an answer's end of kept bytes leaves the wire alone and answers the head
pub asks_told : (old new : Asker) (P : Past → Type 0) (head : IcapResponse) → old.waiting ≡ [] → Frames old new (Some (response_parts head))
    → Asks old new P P (Ok (Some head))
asks_told old new P head out f = record {
  call = rested;
  given = [];
  taken = [];
  wire = (out, λ p h. h, refl, refl);
  fits = tt;
  sent = sym f.waiting;
  answers = framed_none old new (Some (response_parts head)) f;
}

-- a turn that refuses bytes that were kept leaves the wire alone and answers the fault
pub asks_refused : (old new : Asker) (P : Past → Type 0) (fault : ClientFault) → old.waiting ≡ [] → new.waiting ≡ old.waiting
    → RefusesRaw fault old → Asks old new P P (Err fault)
asks_refused old new P fault out w g = record {
  call = rested;
  given = [];
  taken = [];
  wire = (out, λ p h. h, refl, refl);
  fits = refused_by old old [] fault refl refl (sym (append-nil old.raw)) g;
  sent = sym w;
  answers = tt;
}

-- ---- a turn after bytes that were framed

-- a call that was due after more was framed was due before it, if the answer wasn't at its end
call_behind : (call : Call) (P Q : Past → Type 0) (old at : Asker) (given taken : List ℕ) → at.waiting ≡ old.waiting
    → (old.stage ≡ Over → ⊥) → IsCall call P Q at given taken → IsCall call P Q old given taken
call_behind (offered answer) P Q old at given taken w n c =
    subst (λ (t : List ℕ). (0 < length t) × Offers P Q t (Some answer) × (given ≡ []) × (taken ≡ part_taken answer t)) w c
call_behind (filled answer) P Q old at given taken w n c = (sym w ∙ c.0, n, c.2, c.3)
call_behind rested P Q old at given taken w n c = (sym w ∙ c.0, c.1, c.2, c.3)

-- what kept bytes make of a turn after a framing without an answer they make before it
kept_behind : (old at : Asker) (result : Result (Option IcapResponse) ClientFault) → AnswersOptions old at [] None → FitsKept at result
    → FitsKept old result
kept_behind old at (Ok None) a f = was_over (a.tells.told f)
  where
    was_over : (old.stage ≡ Over) ⊎ (false ≡ true) → old.stage ≡ Over
    was_over (inl o) = o
    was_over (inr odd) = cc
kept_behind old at (Ok (Some head)) a f = tt
kept_behind old at (Err fault) a f = refused_behind old at [] fault a f

-- what given bytes make of a turn after a framing without an answer they make before it
bytes_behind : (old at new : Asker) (given : List ℕ) (result : Result (Option IcapResponse) ClientFault) → AnswersOptions old at [] None
    → FitsBytes at new given result → FitsBytes old new given result
bytes_behind old at new given (Ok found) a f = f
bytes_behind old at new given (Err fault) a f = refused_behind old at given fault a f

-- what a call makes of a turn after a framing without an answer it makes before it
fits_behind : (call : Call) (old at new : Asker) (given : List ℕ) (result : Result (Option IcapResponse) ClientFault)
    → AnswersOptions old at [] None → FitsCall call at new given result → FitsCall call old new given result
fits_behind (offered (put.Took n)) old at new given result a f = f
fits_behind (offered put.Wait) old at new given result a f = f
fits_behind (offered put.Fault) old at new given result a f = f
fits_behind (filled fills.Bytes) old at new given result a f = bytes_behind old at new given result a f
fits_behind (filled fills.Wait) old at new given result a f = f
fits_behind (filled fills.Ended) old at new given result a f = f
fits_behind (filled fills.Failed) old at new given result a f = f
fits_behind (filled fills.NoMemory) old at new given result a f = f
fits_behind rested old at new given result a f = kept_behind old at result a f

-- a turn after kept bytes were framed without an answer is one from before they were framed
pub asks_behind : (old at new : Asker) (P Q : Past → Type 0) (result : Result (Option IcapResponse) ClientFault) → (old.stage ≡ Over → ⊥)
    → Frames old at None → Asks at new P Q result → Asks old new P Q result
asks_behind old at new P Q result n f a =
    let before = framed_none old at None f in
    record {
      call = a.call;
      given = a.given;
      taken = a.taken;
      wire = call_behind a.call P Q old at a.given a.taken f.waiting n a.wire;
      fits = fits_behind a.call old at new a.given result before a.fits;
      sent = sym f.waiting ∙ a.sent;
      answers = ok_of result _ _ (λ found h. answers_then old at new [] a.given (option_map response_parts found) before h) a.answers;
    }

-- ---- a fault is kept, and room is given back

record IsLike (new kept : Asker) : Type 0 where
  pub waiting : kept.waiting ≡ new.waiting
  pub stage : kept.stage ≡ new.stage
  pub response : kept.response ≡ new.response
  pub raw : kept.raw ≡ new.raw

-- where a side wants more bytes, so does one that is like it
ask_as : (new kept : Asker) → IsLike new kept → HasToAsk new.stage new.raw → HasToAsk kept.stage kept.raw
ask_as new kept l h = subst (λ (s : OptionsStage). HasToAsk s kept.raw) (sym l.stage)
    (subst (λ (raw : List ℕ). HasToAsk new.stage raw) (sym l.raw) h)

-- what given bytes make of a turn they make also if it leaves a side like that one
bytes_as : (old new kept : Asker) (given : List ℕ) (result : Result (Option IcapResponse) ClientFault) → IsLike new kept
    → FitsBytes old new given result → FitsBytes old kept given result
bytes_as old new kept given (Ok None) l f = ask_as new kept l f
bytes_as old new kept given (Ok (Some head)) l f = tt
bytes_as old new kept given (Err fault) l f = f

-- what a call makes of a turn it makes also if it leaves a side like that one
fits_as : (call : Call) (old new kept : Asker) (given : List ℕ) (result : Result (Option IcapResponse) ClientFault) → IsLike new kept
    → FitsCall call old new given result → FitsCall call old kept given result
fits_as (offered (put.Took n)) old new kept given result l f = f
fits_as (offered put.Wait) old new kept given result l f = f
fits_as (offered put.Fault) old new kept given result l f = f
fits_as (filled fills.Bytes) old new kept given result l f = bytes_as old new kept given result l f
fits_as (filled fills.Wait) old new kept given result l f = (f.0, ask_as new kept l f.1)
fits_as (filled fills.Ended) old new kept given result l f = f
fits_as (filled fills.Failed) old new kept given result l f = f
fits_as (filled fills.NoMemory) old new kept given result l f = f
fits_as rested old new kept given result l f = f

-- the bytes that a side has read are those that one like it has read
answered_as : (read : List ℕ) (new kept : Asker) → IsLike new kept → HasAnswered read new → HasAnswered read kept
answered_as read new kept l h = record {
  framed = h.framed;
  text_is = h.text_is ∙ ap (λ (raw : List ℕ). h.framed ++ raw) (sym l.raw);
  answered = subst (λ (r : Option Response). AnsweredTo kept.stage r h.framed) (sym l.response)
      (subst (λ (s : OptionsStage). AnsweredTo s new.response h.framed) (sym l.stage) h.answered);
}

-- what is answered stays the same if a side like the new one is left
answers_as : (old new kept : Asker) (given : List ℕ) (found : Option Response) → IsLike new kept → AnswersOptions old new given found
    → AnswersOptions old kept given found
answers_as old new kept given found l a = record {
  answered = λ read h. answered_as (read ++ given) new kept l (a.answered read h);
  answer = λ read h. some_map found (λ v. (text : List ℕ) × IsOptionsAnswer v text × (read ++ given ≡ text ++ new.raw))
      (λ v. (text : List ℕ) × IsOptionsAnswer v text × (read ++ given ≡ text ++ kept.raw))
      (λ v k. (k.0, k.1, k.2 ∙ ap (λ (raw : List ℕ). k.0 ++ raw) (sym l.raw))) (a.answer read h);
  tells = subst (λ (t : OptionsStage). Tells old.stage t found) (sym l.stage) a.tells;
}

-- a turn to one side is also a turn to a side like it
asks_as : (old new kept : Asker) (P Q : Past → Type 0) (result : Result (Option IcapResponse) ClientFault) → IsLike new kept
    → Asks old new P Q result → Asks old kept P Q result
asks_as old new kept P Q result l a = record {
  call = a.call;
  given = a.given;
  taken = a.taken;
  wire = a.wire;
  fits = fits_as a.call old new kept a.given result l a.fits;
  sent = a.sent ∙ ap (λ (t : List ℕ). a.taken ++ t) (sym l.waiting);
  answers = ok_of result _ _ (λ found h. answers_as old new kept a.given (option_map response_parts found) l h) a.answers;
}

-- a turn to one side is one to any with the same text, stage, head and raw bytes
pub asks_kept : (old new kept : Asker) (P Q : Past → Type 0) (result : Result (Option IcapResponse) ClientFault)
    → kept.waiting ≡ new.waiting → kept.stage ≡ new.stage → kept.response ≡ new.response → kept.raw ≡ new.raw
    → Asks old new P Q result → Asks old kept P Q result
asks_kept old new kept P Q result w s r e a = asks_as old new kept P Q result (record { waiting = w; stage = s; response = r; raw = e }) a

-- a turn stays what it is if room is let go after it
pub asks_drop_text : (old new kept : Asker) (P Q : Past → Type 0) (result : Result (Option IcapResponse) ClientFault) → LetsRoomGo new kept
    → Asks old new P Q result → Asks old kept P Q result
asks_drop_text old new kept P Q result l a = asks_as old new kept P Q result
    (record { waiting = l.waiting; stage = l.stage; response = l.response; raw = l.raw }) a

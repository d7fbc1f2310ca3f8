-- The beginning, and the other sides' events.
use Rattle.std.proofs.Common.{◌≡◌, ℕ, ◌≤◌, inl, inr, Bool, true, false, List, [], ◌∷◌, ◌++◌, length, take, refl, ap, sym, subst, ◌∙◌}
use Rattle.std.proofs.Common.{append-nil, arith, IfSome, Option, Some, None}
use Rattle.std.proofs.lemmas.Bool.Decides.{nat_tests}
use Rattle.std.proofs.lemmas.List.{take-append-le}
use Rattle.trace_core.specs.declared.history.Plan.{Plan}
use Rattle.trace_core.specs.declared.history.Event.{Event}
use Rattle.trace_core.specs.declared.history.Event.TheVariants.{In, End, Svc, Stop, Heard, Retry, Continue, NoMod, Mod, Ad, AdEnd, Usr}
use Rattle.trace_core.specs.declared.history.Event.TheVariants.{Done, Fail}
use Rattle.trace_core.specs.declared.history.Kind.{Kind}
use Rattle.trace_core.specs.declared.history.Kind.TheVariants.{Plain, Whole, Preview}
use Rattle.trace_core.specs.declared.history.Seen.{Seen}
use Rattle.trace_core.specs.History.{seen, is_plain, is_whole, is_preview}
use Rattle.trace_core.specs.Legal.{IsLegal, Allows}
use Rattle.trace_core.specs.View.{after}
use Rattle.trace_core.proofs.Sound.{Sound, sound}
use Rattle.chunk_writer.specs.Cut.IsCut.{no_chunk}
use Rattle.chunk_writer.specs.Cut.Run.{between}
use Rattle.chunk_writer.specs.Writer.{Writer, waiting, fresh}
use Rattle.http_side.specs.declared.body.Framing.{Framing}
use Rattle.http_side.specs.declared.body.Framing.TheVariants as by
use Rattle.http_relay.specs.declared.hop.HopStage.{HopStage}
use Rattle.http_relay.specs.declared.hop.HopStage.TheVariants as at
use Rattle.adapt_sides.specs.declared.fault.RelayFault.{RelayFault}
use Rattle.http_relay.specs.Message.{is_chunks, length_of}
use Rattle.http_side.specs.Refusals.{refusal}
use Rattle.trace_core.specs.Turns.{is_of_hop}
use Rattle.adapt_sides.specs.Tapes.{chosen_delivered, chosen_received, chosen_over}
use Rattle.http_relay.specs.Giving.{Front, GivesMessage, Waits, GivenAt, IsAside, Hop, HasGiven}
use Rattle.adapt_sides.specs.Tapes.{IsUndelivered}
use Rattle.http_relay.specs.Giving.Front.{plain, run}

begins_by : (f : Framing) (b : Bool) → is_chunks f ≡ b → Front f false [] [] 0
begins_by f true e = run e refl (between refl no_chunk)
begins_by f false e = plain e refl refl

zero_fits : (o : Option ℕ) (n : ℕ) → n ≡ 0 → IfSome o (λ k. n ≤ k)
zero_fits None n e = tt
zero_fits (Some k) n e = omega arith

pub message_begins : (x : Seen) (body head : List ℕ) (f : Framing) → chosen_delivered x ≡ 0
    → GivesMessage x f false head body [] (fresh head)
message_begins x body head f z = record {
  behind = [];
  fixed_is = refl;
  front = subst (λ (n : ℕ). Front f false (take n body) [] 0) (sym z) (begins_by f (is_chunks f) refl);
  there = omega arith;
  within = zero_fits (length_of f) (chosen_delivered x) z;
  waits = λ some. absurd (omega (arith, some, z));
  all_out = λ h. cc;
}

nothing_first : (xs ys : List ℕ) → xs ++ ys ≡ [] → xs ≡ []
nothing_first [] ys e = refl
nothing_first (x ∷ xs) ys e = cc

no_out : (x : Seen) → IsUndelivered x → chosen_delivered x ≡ 0
no_out x h = grind (arith, nat_tests, h.0, h.1)

pub hop_begins : (x : Seen) (head body : List ℕ) (w : Writer) (turn : ℕ) → w ≡ fresh [] → IsUndelivered x
    → HasGiven x head body [] (record { writer = w; framing = by.None; stage = at.Empty; touched = false; fault = None; turn = turn })
hop_begins x head body w turn e u = record { given = (ap waiting e, u); untouched = λ n. (refl, u); touched = λ t. cc }

pub hop_aside : (w : Writer) (turn : ℕ) → w ≡ fresh []
    → IsAside [] (record { writer = w; framing = by.None; stage = at.Empty; touched = false; fault = None; turn = turn })
hop_aside w turn e = record { text = ap waiting e; untouched = λ n. refl; touched = λ t. cc }

-- a message begins where nothing was given
begun_at : (x : Seen) (stage : HopStage) (f g : Framing) (other head body taken : List ℕ) (w : Writer) → stage ≡ at.Empty
    → GivenAt stage x f other body taken w → GivesMessage x g false head body taken (fresh head)
begun_at x at.Empty f g other head body taken w e h =
    subst (λ (xs : List ℕ). GivesMessage x g false head body xs (fresh head)) (sym (nothing_first taken (waiting w) h.0))
    (message_begins x body head g (no_out x h.1))
begun_at x at.Message f g other head body taken w e h = cc
begun_at x at.Whole f g other head body taken w e h = cc
begun_at x (at.Refusal status) f g other head body taken w e h = cc

pub begun : (x : Seen) (other head body taken : List ℕ) (g : Framing) (old : Hop) (w : Writer) (touched : Bool) (fault : Option RelayFault)
    (turn : ℕ) → old.stage ≡ at.Empty → w ≡ fresh head → touched ≡ old.touched
    → HasGiven x other body taken old → HasGiven x head body taken (record
    { writer = w; framing = g; stage = at.Message; touched = touched; fault = fault; turn = turn })
begun x other head body taken g old w touched fault turn s e t h = record {
  given = subst (λ (v : Writer). GivesMessage x g false head body taken v) (sym e)
      (begun_at x old.stage old.framing g other head body taken old.writer s h.given);
  untouched = λ n. h.untouched (sym t ∙ n);
  touched = λ n. h.touched (sym t ∙ n);
}

pub refused : (status : ℕ) (w : Writer) (framing : Framing) (touched : Bool) (fault : Option RelayFault) (turn : ℕ) → touched ≡ false
    → w ≡ fresh (refusal status) → IsAside [] (record {
      writer = w;
      framing = framing;
      stage = at.Refusal status;
      touched = touched;
      fault = fault;
      turn = turn;
    })
refused status w framing touched fault turn n e = record {
  text = ap waiting e ∙ append-nil (refusal status);
  untouched = λ u. refl;
  touched = λ t. let odd : true ≡ false = sym t ∙ n in cc;
}

-- nothing changed that the message's prefix depends on
record Keeps (x y : Seen) : Type 0 where
  out : chosen_delivered y ≡ chosen_delivered x
  came : chosen_received x ≤ chosen_received y
  over : chosen_over x ≡ true → (chosen_over y ≡ true) × (chosen_received y ≡ chosen_received x)
  original : y.original_delivered ≡ x.original_delivered
  adapted : y.adapted_delivered ≡ x.adapted_delivered

not_plain : (kind : Kind) → is_preview kind ≡ true → is_plain kind ≡ false
not_plain Plain e = cc
not_plain Whole e = refl
not_plain (Preview n) e = refl

not_plain_whole : (kind : Kind) → is_whole kind ≡ true → is_plain kind ≡ false
not_plain_whole Plain e = cc
not_plain_whole Whole e = refl
not_plain_whole (Preview n) e = cc

-- a 204 answers an offered message
no_mod_offered : (x : Seen) → Sound x → Allows x NoMod → is_plain x.plan.kind ≡ false
no_mod_offered x s a = elim a.2 [
  | inl h ↦ not_plain x.plan.kind h.0
  | inr h ↦ elim h.1 [ inl w ↦ not_plain_whole x.plan.kind w | inr c ↦ not_plain x.plan.kind (s.previewed c) ]
]

keeps : (x : Seen) (event : Event) → Sound x → Allows x event → is_of_hop event ≡ false → Keeps x (after x event)
keeps x (In n) s a z = record {
  out = grind (arith, nat_tests);
  came = grind (arith, nat_tests);
  over = λ o. (grind (arith, nat_tests), grind (arith, nat_tests));
  original = grind (arith, nat_tests);
  adapted =
      grind (arith, nat_tests);
}
keeps x End s a z = record {
  out = grind (arith, nat_tests);
  came = grind (arith, nat_tests);
  over = λ o. (grind (arith, nat_tests), grind (arith, nat_tests));
  original = grind (arith, nat_tests);
  adapted =
      grind (arith, nat_tests);
}
keeps x (Svc n) s a z = record {
  out = grind (arith, nat_tests);
  came = grind (arith, nat_tests);
  over = λ o. (grind (arith, nat_tests), grind (arith, nat_tests));
  original = grind (arith, nat_tests);
  adapted =
      grind (arith, nat_tests);
}
keeps x Stop s a z = record {
  out = grind (arith, nat_tests);
  came = grind (arith, nat_tests);
  over = λ o. (grind (arith, nat_tests), grind (arith, nat_tests));
  original = grind (arith, nat_tests);
  adapted =
      grind (arith, nat_tests);
}
keeps x Heard s a z = record {
  out = grind (arith, nat_tests);
  came = grind (arith, nat_tests);
  over = λ o. (grind (arith, nat_tests), grind (arith, nat_tests));
  original = grind (arith, nat_tests);
  adapted =
      grind (arith, nat_tests);
}
keeps x Continue s a z = record {
  out = grind (arith, nat_tests);
  came = grind (arith, nat_tests);
  over = λ o. (grind (arith, nat_tests), grind (arith, nat_tests));
  original = grind (arith, nat_tests);
  adapted =
      grind (arith, nat_tests);
}
keeps x NoMod s a z = let p : is_plain x.plan.kind ≡ false = no_mod_offered x s a in
    record {
      out = grind (arith, nat_tests);
      came = grind (arith, nat_tests);
      over = λ o. (grind (arith, nat_tests), grind (arith, nat_tests));
      original = grind (arith, nat_tests);
      adapted =
          grind (arith, nat_tests);
    }
keeps x (Mod p) s a z = record {
  out = grind (arith, nat_tests);
  came = grind (arith, nat_tests);
  over = λ o. (grind (arith, nat_tests), grind (arith, nat_tests));
  original = grind (arith, nat_tests);
  adapted =
      grind (arith, nat_tests);
}
keeps x (Ad n) s a z = record {
  out = grind (arith, nat_tests);
  came = grind (arith, nat_tests);
  over = λ o. (grind (arith, nat_tests), grind (arith, nat_tests));
  original = grind (arith, nat_tests);
  adapted =
      grind (arith, nat_tests);
}
keeps x AdEnd s a z = record {
  out = grind (arith, nat_tests);
  came = grind (arith, nat_tests);
  over = λ o. (grind (arith, nat_tests), grind (arith, nat_tests));
  original = grind (arith, nat_tests);
  adapted =
      grind (arith, nat_tests);
}
keeps x (Usr n) s a z = cc
keeps x Done s a z = cc
keeps x (Fail cause) s a z = record {
  out = grind (arith, nat_tests);
  came = grind (arith, nat_tests);
  over = λ o. (grind (arith, nat_tests), grind (arith, nat_tests));
  original = grind (arith, nat_tests);
  adapted =
      grind (arith, nat_tests);
}
keeps x Retry s a z = record {
  out = grind (arith, nat_tests);
  came = grind (arith, nat_tests);
  over = λ o. (grind (arith, nat_tests), grind (arith, nat_tests));
  original = grind (arith, nat_tests);
  adapted =
      grind (arith, nat_tests);
}

message_kept : (x y : Seen) (f : Framing) (b : Bool) (head body more taken : List ℕ) (w : Writer) → Keeps x y
    → length body ≡ chosen_received x → GivesMessage x f b head body taken w → GivesMessage y f b head (body ++ more) taken w
message_kept x y f b head body more taken w k l g = record {
  behind = g.behind;
  fixed_is = g.fixed_is;
  front = subst (λ (xs : List ℕ). Front f b xs g.behind w.left) (sym same) g.front;
  there = omega (arith, g.there, k.out, k.came);
  within = subst (λ (m : ℕ). IfSome (length_of f) (λ n. m ≤ n)) (sym k.out) g.within;
  waits = λ some. subst (λ (xs : List ℕ). Waits (is_chunks f) xs g.behind (waiting w)) (sym same) (g.waits (omega (arith, some, k.out)));
  all_out = λ h.
      let all = g.all_out h in
      let still = k.over all.0 in
      (still.0, k.out ∙ (all.1 ∙ sym still.1), subst (λ (m : ℕ). IfSome (length_of f) (λ n. m ≡ n)) (sym k.out) all.2);
}
  where
    same : take (chosen_delivered y) (body ++ more) ≡ take (chosen_delivered x) body
    same = ap (λ (n : ℕ). take n (body ++ more)) k.out ∙ take-append-le (chosen_delivered x) body more (omega (arith, l, g.there))

undelivered_kept : (x y : Seen) → Keeps x y → IsUndelivered x → IsUndelivered y
undelivered_kept x y k h = (k.original ∙ h.0, k.adapted ∙ h.1)

kept_at : (stage : HopStage) (x y : Seen) (f : Framing) (head body more taken : List ℕ) (w : Writer) → Keeps x y
    → length body ≡ chosen_received x → GivenAt stage x f head body taken w → GivenAt stage y f head (body ++ more) taken w
kept_at at.Empty x y f head body more taken w k l g = (g.0, undelivered_kept x y k g.1)
kept_at at.Message x y f head body more taken w k l g = message_kept x y f false head body more taken w k l g
kept_at at.Whole x y f head body more taken w k l g = message_kept x y f true head body more taken w k l g
kept_at (at.Refusal status) x y f head body more taken w k l g = absurd g

-- the other sides' events leave what was given; what comes of the chosen message stands after what came before
pub others : (x : Seen) (event : Event) (head body more taken : List ℕ) (h : Hop) → Sound x → Allows x event → is_of_hop event ≡ false
    → length body ≡ chosen_received x
    → HasGiven x head body taken h → HasGiven (after x event) head (body ++ more) taken h
others x event head body more taken h s a z l g =
    let k = keeps x event s a z in
    record {
      given = kept_at h.stage x (after x event) h.framing head body more taken h.writer k l g.given;
      untouched = λ n. ((g.untouched n).0, undelivered_kept x (after x event) k (g.untouched n).1);
      touched = g.touched;
    }

pub others_of : (plan : Plan) (events : List Event) (event : Event) (head body more taken : List ℕ) (h : Hop)
    → IsLegal plan (event ∷ events) → is_of_hop event ≡ false
    → length body ≡ chosen_received (seen plan events) → HasGiven (seen plan events) head body taken h
    → HasGiven (seen plan (event ∷ events)) head (body ++ more) taken h
others_of plan events event head body more taken h l z n g =
    others (seen plan events) event head body more taken h (sound plan events l.1) l.0.1 z n g

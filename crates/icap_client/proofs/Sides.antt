-- The reading half over its wire.
use Rattle.std.proofs.Common.{◌≡◌, ℕ, ◌<◌, ◌⊎◌, inl, inr, Bool, true, false, ◌||◌, List, [], ◌∷◌, ◌++◌, length, take, drop, refl, ap, sym}
use Rattle.std.proofs.Common.{subst, ◌∙◌, append_assoc, append-nil, arith, length-append, lit<, ◌≤◌, nat_lt, if◌then◌else◌}
use Rattle.std.proofs.lemmas.Bool.{false≢true}
use Rattle.std.proofs.lemmas.Bool.Decides.{nat_tests}
use Rattle.std.proofs.lemmas.List.{take-append-drop}
use Rattle.std.proofs.Math.Seq.{take-length}
use Rattle.std.proofs.Math.ListN.{drop_of_length-le}
use Rattle.adapt_bytes.specs.Text.{has_line}
use Rattle.icap_client.specs.HeadFront.{HasToWait}
use Rattle.icap_head.specs.Folds.{unfolded}
use Rattle.icap_head.specs.Heads.{RefusesIcapHead, RefusesResponse}
use Rattle.icap_head.specs.StartLines.{StatusForm}
use Rattle.icap_head.proofs.Folding.{folded_more_is_short}
use Rattle.icap_head.specs.FieldLines.{unended}
use Rattle.icap_head.specs.declared.reading.HeadFault.{HeadFault}
use Rattle.icap_head.specs.declared.reading.HeadFault.TheVariants.{More, TooLong}
use Rattle.trace_core.specs.declared.history.Event.{Event}
use Rattle.trace_core.specs.declared.history.Seen.{Seen}
use Rattle.trace_core.specs.declared.history.Event.TheVariants.{Heard}
use Rattle.trace_core.specs.History.{is_heard}
use Rattle.trace_core.specs.View.{after}
use Rattle.icap_client.specs.OthersHeard.{to_same, same_heard}
use Rattle.icap_client.specs.Events.{MayCome, after_all, ad_sum}
use Rattle.icap_client.specs.Heard.{Reader, HasHeard, HeardTo, HeardInterim, KeepsLimits, Stays}
use Rattle.icap_client.specs.Heard.Stays.{same, before}
use Rattle.icap_client.specs.Replies.{IsContinueOrNothing}
use Rattle.trace_core.specs.declared.history.Point.{Point}
use Rattle.icap_client.specs.Hearing.{ReaderHears, MustWait}
use Rattle.adapt_sides.specs.declared.fault.ClientFault.{ClientFault}
use Rattle.icap_client.specs.Refused.{Refuses}
use Rattle.icap_client.specs.Reading.{ReadSide, SideHeard, SideHears, HasBegun, NotBegun}
use Rattle.icap_client.specs.declared.stage.Stage.{Stage}
use Rattle.icap_client.specs.declared.stage.Stage.TheVariants.{Replies, Head, Body, Over}

abbrev is_more : HeadFault → Bool
is_more More = true
is_more _ = false

-- a fault isn't another
differs : (fault : HeadFault) → is_more fault ≡ false → More ≡ fault → ⊥
differs fault odd alike = false≢true (sym (ap is_more alike ∙ odd))

-- a number that is tested to be below a limit is below it
less : (n limit : ℕ) → nat_lt n limit ≡ true → n < limit
less n limit e = grind (arith, nat_tests)

-- a number below a limit is below any limit that is at least as great
below : (n limit most : ℕ) → n < limit → limit ≤ most → n < most
below n limit most small within = omega arith

-- some room isn't none
none_left : (room : ℕ) → 0 < room → room ≡ 0 → ⊥
none_left room some none = omega arith

-- an empty text is shorter than a head may be
empty_short : (raw : List ℕ) → raw ≡ [] → length raw < 16384
empty_short raw none = let P : List ℕ → Type 0 = λ t. length t < 16384 in subst P (sym none) (lit< tt)

-- what was read isn't empty if its last bytes aren't
some_read : (read delta : List ℕ) → 0 < length delta → 0 < length (read ++ delta)
some_read read delta some = omega (arith, length-append read delta)

-- a length that is tested against a head's limit and may grow is below it
unended_by : (b : Bool) (n : ℕ) → nat_lt n 16384 ≡ b → More ≡ (if b then More else TooLong) → n < 16384
unended_by true n e h = less n 16384 e
unended_by false n e h = cc

-- an unended head that may get more bytes is below its limit
unended_more : (n : ℕ) → More ≡ unended n → n < 16384
unended_more n h = unended_by (nat_lt n 16384) n refl h

-- a head that isn't whole is short
plain_short : (text : List ℕ) → RefusesIcapHead StatusForm More text → length text < 16384
plain_short text (inl h) = unended_more (length text) h.0
plain_short text (inr (line, behind, first, inl (inl h))) = absurd (differs _ refl h.0)
plain_short text (inr (line, behind, first, inl (inr h))) = absurd (differs _ refl h.0)
plain_short text (inr (line, behind, first, inr (form, inl h))) = absurd (differs _ refl h.0)
plain_short text (inr (line, behind, first, inr (form, inr (inl h)))) = absurd (differs _ refl h.0)
plain_short text (inr (line, behind, first, inr (form, inr (inr h)))) = unended_more (length text) h.0

-- a prefix of an ICAP head is shorter than a head may be
pub more_short : (raw : List ℕ) → RefusesResponse More raw → length raw < 16384
more_short raw h = folded_more_is_short raw (plain_short (unfolded raw) h)

-- where a side has to wait with some room, there is room for raw bytes
pub wait_short : (s : Stage) (raw : List ℕ) (room : ℕ) → KeepsLimits s → ¬ (s ≡ Over) → 0 < room → HasToWait s raw room → length raw < 16384
wait_short Replies raw room k o r w = w.short
wait_short (Head layout) raw room k o r w = below (length raw) layout.offset 16384 w.0 k.1
wait_short (Body chunks) raw room k o r (inl e) = empty_short raw e
wait_short (Body chunks) raw room k o r (inr h) = absurd (none_left room r h.0)
wait_short Over raw room k o r w = absurd (o refl)

-- after all bytes of a text no line ends
none_behind : (raw : List ℕ) → has_line (drop (length raw) raw) ≡ false
none_behind raw = ap has_line (drop_of_length-le raw (omega arith))

-- all bytes were judged
pub has_to_wait : (s : Stage) (raw : List ℕ) (room : ℕ) → MustWait s raw room → HasToWait s raw room
has_to_wait Replies raw room w = record {
  judged = length raw;
  more = inr (subst (λ (t : List ℕ). RefusesResponse More t) (sym (take-length raw)) w);
  no_line = none_behind raw;
  short = more_short raw w;
}
has_to_wait (Head layout) raw room w = w
has_to_wait (Body chunks) raw room w = w
has_to_wait Over raw room w = w

-- one or the other is true if the other is
or_true : (a b : Bool) → b ≡ true → (a || b) ≡ true
or_true true b e = refl
or_true false b e = e

-- a first byte stays read
pub heard_on : (x : Seen) (events : List Event) → x.heard ≡ true → (after_all x events).heard ≡ true
heard_on x [] h = h
heard_on x (event ∷ events) h = heard_on (after x event) events (or_true (is_heard event) x.heard h)

-- a reply that hasn't begun still hasn't where no further byte was read and none adapted
not_begun : (x : Seen) (adapted read more delta : List ℕ) → more ≡ [] → delta ≡ [] → NotBegun x adapted read
    → NotBegun x (adapted ++ more) (read ++ delta)
not_begun x adapted read more delta m d n = record {
  unheard = n.unheard;
  none = ap (λ (t : List ℕ). adapted ++ t) m ∙ (append-nil adapted ∙ n.none);
  unread = ap (λ (t : List ℕ). read ++ t) d ∙ (append-nil read ∙ n.unread);
  marks = n.marks;
  continued = n.continued;
  count = n.count;
}

-- more bytes are more than some
more_read : (read delta : List ℕ) → 0 < length read → 0 < length (read ++ delta)
more_read read delta l = omega (arith, l, length-append read delta)

-- a first byte was read before, or wasn't
both_heard : (x : Seen) → x.heard ≡ true → x.heard ≡ false → ⊥
both_heard x h n = false≢true (sym (sym h ∙ n))

-- whether a reply has begun is told also after events of its raw bytes
begun_on : (x : Seen) (events : List Event) (adapted read out : List ℕ) → (events ≡ []) ⊎ (x.heard ≡ true)
    → HasBegun x read ⊎ NotBegun x adapted read
    → HasBegun (after_all x events) (read ++ []) ⊎ NotBegun (after_all x events) (adapted ++ take (ad_sum events) out) (read ++ [])
begun_on x events adapted read out e (inl h) = inl (heard_on x events h.0, more_read read [] h.1)
begun_on x events adapted read out (inr h) (inr n) = absurd (both_heard x h n.unheard)
begun_on x events adapted read out (inl none) (inr n) =
    inr (subst (λ (es : List Event). NotBegun (after_all x es) (adapted ++ take (ad_sum es) out) (read ++ [])) (sym none)
    (not_begun x adapted read [] [] refl refl n))

-- what a reader hears of its raw bytes
pub framed : (x : Seen) (old new : ReadSide) (events : List Event) (used : ℕ) (out : List ℕ)
    → ReaderHears x old.reader new.reader events (take used old.raw) (take (ad_sum events) out) → new.raw ≡ drop used old.raw
    → SideHears x old new events [] (take (ad_sum events) out)
framed x old new events used out h r = record {
  legal = h.legal;
  only = h.only;
  heard = λ adapted read s.
      let joined : take used old.raw ++ new.raw ≡ old.raw = ap (λ (t : List ℕ). take used old.raw ++ t) r ∙ take-append-drop used old.raw in
      record {
        framed = s.framed ++ take used old.raw;
        text_is = append-nil read ∙ (s.text_is ∙ (ap (λ (t : List ℕ). s.framed ++ t) (sym joined)
            ∙ sym (append_assoc s.framed (take used old.raw) new.raw)));
        heard = h.heard adapted s.framed s.heard;
        begun = begun_on x events adapted read out h.behind s.begun;
      };
}

-- a reader that refused its bytes
stays_heard : (x : Seen) (adapted read : List ℕ) (old new : Reader) → Stays old new → HasHeard x adapted read old
    → HasHeard x adapted read new
stays_heard x adapted read old new (same e) h = subst (λ (r : Reader). HasHeard x adapted read r) (sym e) h
stays_heard x adapted read old new (before o n p) h =
    let m : HeardInterim x adapted read old = subst (λ (s : Stage). HeardTo s x adapted read old) o h in
    let now : HeardInterim x adapted read new = record {
      marks = m.marks;
      none = m.none;
      count = m.count;
      interim = subst (λ (p : Point). IsContinueOrNothing p x.continued read) (sym p) m.interim;
    } in
    subst (λ (s : Stage). HeardTo s x adapted read new) (sym n) now

-- whether a reply has begun is told also with no byte more
begun_none : (x : Seen) (adapted read : List ℕ) → HasBegun x read ⊎ NotBegun x adapted read
    → HasBegun x (read ++ []) ⊎ NotBegun x (adapted ++ []) (read ++ [])
begun_none x adapted read (inl h) = inl (h.0, more_read read [] h.1)
begun_none x adapted read (inr n) = inr (not_begun x adapted read [] [] refl refl n)

-- whether a reply has begun is told also with more bytes after a first one, or with none
begun_more : (x : Seen) (adapted read delta : List ℕ) → (x.heard ≡ true) ⊎ (delta ≡ []) → HasBegun x read ⊎ NotBegun x adapted read
    → HasBegun x (read ++ delta) ⊎ NotBegun x (adapted ++ []) (read ++ delta)
begun_more x adapted read delta was (inl h) = inl (h.0, more_read read delta h.1)
begun_more x adapted read delta (inl h) (inr b) = absurd (both_heard x h b.unheard)
begun_more x adapted read delta (inr n) (inr b) = inr (not_begun x adapted read [] delta refl n b)

-- a reader that refused its bytes has heard what it had, with no event
pub refused_kept : (x : Seen) (old new : ReadSide) → Stays old.reader new.reader → new.raw ≡ old.raw → SideHears x old new [] [] []
refused_kept x old new k r = record {
  legal = tt;
  only = tt;
  heard = λ adapted read s. record {
    framed = s.framed;
    text_is = append-nil read ∙ (s.text_is ∙ ap (λ (t : List ℕ). s.framed ++ t) (sym r));
    heard = subst (λ (t : List ℕ). HasHeard x t s.framed new.reader) (sym (append-nil adapted))
        (stays_heard x adapted s.framed old.reader new.reader k s.heard);
    begun = begun_none x adapted read s.begun;
  };
}

-- the fault is no part of what was heard
pub other_fault : (x : Seen) (old new kept : ReadSide) (events : List Event) (delta part : List ℕ) → kept.reader ≡ new.reader
    → kept.raw ≡ new.raw → SideHears x old new events delta part → SideHears x old kept events delta part
other_fault x old new kept events delta part e r h = record {
  legal = h.legal;
  only = h.only;
  heard = λ adapted read s.
      let n = h.heard adapted read s in
      record {
        framed = n.framed;
        text_is = n.text_is ∙ ap (λ (t : List ℕ). n.framed ++ t) (sym r);
        heard = subst (λ (q : Reader). HasHeard (after_all x events) (adapted ++ part) n.framed q) (sym e) n.heard;
        begun = n.begun;
      };
}

-- more raw bytes
pub filled_more : (x : Seen) (old new : ReadSide) (delta : List ℕ) → (x.heard ≡ true) ⊎ (delta ≡ []) → new.reader ≡ old.reader
    → new.raw ≡ old.raw ++ delta → SideHears x old new [] delta []
filled_more x old new delta was e r = record {
  legal = tt;
  only = tt;
  heard = λ adapted read s. record {
    framed = s.framed;
    text_is = ap (λ (t : List ℕ). t ++ delta) s.text_is ∙ (append_assoc s.framed old.raw delta
        ∙ ap (λ (t : List ℕ). s.framed ++ t) (sym r));
    heard = subst (λ (t : List ℕ). HasHeard x t s.framed new.reader) (sym (append-nil adapted))
        (subst (λ (n : Reader). HasHeard x adapted s.framed n) (sym e) s.heard);
    begun = begun_more x adapted read delta was s.begun;
  };
}

-- the first bytes of a reply
pub filled_first : (x : Seen) (old new : ReadSide) (delta out : List ℕ) → MayCome x Heard → 0 < length delta → new.reader ≡ old.reader
    → new.raw ≡ old.raw ++ delta → SideHears x old new (Heard ∷ []) delta (take (ad_sum (Heard ∷ [])) out)
filled_first x old new delta out may some e r =
    let none : ad_sum (Heard ∷ []) ≡ 0 = refl in
    subst (λ (n : ℕ). SideHears x old new (Heard ∷ []) delta (take n out)) (sym none) (record {
      legal = (may.0, may.1, tt);
      only = (refl, tt);
      heard = λ adapted read s. record {
        framed = s.framed;
        text_is = ap (λ (t : List ℕ). t ++ delta) s.text_is ∙ (append_assoc s.framed old.raw delta
            ∙ ap (λ (t : List ℕ). s.framed ++ t) (sym r));
        heard = subst (λ (t : List ℕ). HasHeard (after x Heard) t s.framed new.reader) (sym (append-nil adapted))
            (subst (λ (n : Reader). HasHeard (after x Heard) adapted s.framed n) (sym e)
            (to_same old.reader.stage x (after x Heard) adapted s.framed old.reader (same_heard x) s.heard));
        begun = inl (refl, some_read read delta some);
      };
    })

-- one after the other, the first without an event
pub side_then : (x : Seen) (a b c : ReadSide) (events : List Event) (d e part : List ℕ) → SideHears x a b [] d []
    → SideHears x b c events e part → SideHears x a c events (d ++ e) part
side_then x a b c events d e part f g = record {
  legal = g.legal;
  only = g.only;
  heard = λ adapted read s.
      let two : SideHeard (after_all x events) ((adapted ++ []) ++ part) ((read ++ d) ++ e) c =
      g.heard (adapted ++ []) (read ++ d) (f.heard adapted read s) in
      subst (λ (t : List ℕ). SideHeard (after_all x events) (t ++ part) (read ++ (d ++ e)) c) (append-nil adapted)
      (subst (λ (t : List ℕ). SideHeard (after_all x events) ((adapted ++ []) ++ part) t c) (append_assoc read d e) two);
}

-- what was refused stands as it stood
pub refuses_still : (fault : ClientFault) (x : Seen) (old new : Reader) (raw : List ℕ) → Stays old new
    → Refuses fault x old.point old.stage raw → Refuses fault x new.point new.stage raw
refuses_still fault x old new raw (same e) r = subst (λ (k : Reader). Refuses fault x k.point k.stage raw) (sym e) r
refuses_still fault x old new raw (before o n p) r =
    subst (λ (s : Stage). Refuses fault x new.point s raw) (sym n) (subst (λ (k : Point). Refuses fault x k Replies raw) (sym p)
    (subst (λ (s : Stage). Refuses fault x old.point s raw) o r))

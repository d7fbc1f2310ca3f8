-- Turns at the head, by what the wire gave.
use Rattle.std.proofs.Common.{◌≡◌, ℕ, ◌+◌, ◌<◌, ◌⊎◌, inl, inr, false, List, [], ◌++◌, length, take, drop, refl, ap, sym, subst, ◌∙◌}
use Rattle.std.proofs.Common.{append_assoc, append-nil, length-append, arith, Result, Ok, Err, Option, Some, None, IfSome, IfOk}
use Rattle.std.proofs.lemmas.List.{take-append-le}
use Rattle.std.proofs.Math.Seq.{take-length, drop-length}
use Rattle.http_side.specs.declared.fault.HttpFault.{HttpFault}
use Rattle.http_side.specs.declared.fault.HttpFault.TheVariants.{More, Bad, TooLong, TooMany, BothLengths, Lengths, Coding, Target, Connect}
use Rattle.http_side.specs.declared.fault.HttpFault.TheVariants as http
use Rattle.adapt_bytes.specs.Text.{has_line}
use Rattle.http_relay.specs.Judging.{RefusesBytes, IsSwitching, IsOneTooMany, IsLooking, HasNoHead, RefusesHead, LacksMemory, JudgesHead}
use Rattle.http_relay.specs.Judging.{Looks, interims_in}
use Rattle.wire_kit.specs.Past.{Past}
use Rattle.wire_kit.specs.declared.wire.Got.TheVariants as got
use Rattle.http_relay.specs.Reading.{AtHead, GivesBack, Begins, SideRead, SideReads, JudgesHeadTo, FitsHead, HeadTurn}
use Rattle.adapt_sides.specs.Filling.{IsFilled}
use Rattle.http_relay.specs.Source.{Agrees}
use Rattle.http_relay.specs.Message.{length_of}
use Rattle.http_relay.specs.declared.source_body.SourceBody.{SourceBody}
use Rattle.http_relay.proofs.Sides.{filled_more}
use Rattle.adapt_sides.specs.declared.fault.RelayFault.{RelayFault}
use Rattle.adapt_sides.specs.declared.fault.RelayFault.TheVariants.{Head, Chunk, Closed, Device, Length, NoMemory}
use Rattle.http_relay.specs.declared.side.head.Asks.{Asks}
use Rattle.http_relay.specs.declared.side.head.Asks.TheVariants as asks
use Rattle.http_relay.specs.declared.side.head.SourceHead.TheVariants as heads
use Rattle.http_relay.specs.declared.side.head.HeadProgress.{HeadProgress}
use Rattle.http_relay.specs.declared.side.head.HeadProgress.TheVariants as progress
use Rattle.adapt_sides.specs.declared.filling.Filled.TheVariants as filled
use Rattle.http_relay.specs.declared.side.SourceSide.{SourceSide}
use Rattle.http_relay.proofs.Beginning.{counted, still_at_head}
use Rattle.http_relay.proofs.Turning.{SameSide, none_read, bytes_read}

-- what judging looks at
pub record SameLook (old new : SourceSide) : Type 0 where
  pub judged : new.judged ≡ old.judged
  pub interims : new.interims ≡ old.interims
  pub head_fault : new.head_fault ≡ old.head_fault

-- a side at the head with more raw bytes has read as many more
filled_at_head : (old new : SourceSide) (delta : List ℕ) → SameSide old new → SameLook old new → new.raw.items ≡ old.raw.items ++ delta
    → (read : List ℕ) → AtHead read old → AtHead (read ++ delta) new
filled_at_head old new delta m same r read s = record {
  before = s.before;
  text_is = ap (λ (t : List ℕ). t ++ delta) s.text_is ∙ (append_assoc s.before old.raw.items delta
      ∙ ap (λ (t : List ℕ). s.before ++ t) (sym r));
  interims = counted old.asks new.asks old.interims new.interims s.before m.asks same.interims s.interims;
  unread = m.head ∙ s.unread;
}

-- ---- what was judged

-- judging refuses nothing that a turn doesn't
judged_looks : (result : Result HeadProgress RelayFault) (s : SourceSide) → JudgesHead result s → Looks result s
judged_looks (Ok progress.More) s h = h
judged_looks (Ok progress.Interim) s h = h
judged_looks (Ok progress.Taken) s h = h
judged_looks (Err Head) s h = h
judged_looks (Err NoMemory) s h = inl h
judged_looks (Err Closed) s h = absurd h
judged_looks (Err Device) s h = absurd h
judged_looks (Err Chunk) s h = absurd h
judged_looks (Err Length) s h = absurd h

-- the bytes that were judged stay the first ones
looks_on : (old new : SourceSide) (delta : List ℕ) → new.asks ≡ old.asks → SameLook old new → new.raw.items ≡ old.raw.items ++ delta
    → IsLooking old → IsLooking new
looks_on old new delta a m r l =
    let front : take new.judged new.raw.items ≡ take old.judged old.raw.items =
    ap (λ (n : ℕ). take n new.raw.items) m.judged ∙ (ap (λ (t : List ℕ). take old.judged t) r
    ∙ take-append-le old.judged old.raw.items delta l.within) in
    record {
      within = omega (arith, l.within, m.judged, ap (λ (t : List ℕ). length t) r, length-append old.raw.items delta);
      beginning = elim l.beginning [
        | inl z ↦ inl (m.judged ∙ z)
        | inr b ↦ inr (subst (λ (t : Asks). RefusesBytes t (take new.judged new.raw.items) More) (sym a)
            (subst (λ (t : List ℕ). RefusesBytes old.asks t More) (sym front) b))
      ];
      no_fault = m.head_fault ∙ l.no_fault;
    }

-- raw bytes without a head are still without one in a side that judged the same
none_on : (old new : SourceSide) → new.asks ≡ old.asks → SameLook old new → new.raw.items ≡ old.raw.items → HasNoHead old → HasNoHead new
none_on old new a m r h = record {
  looking = looks_on old new [] a m (r ∙ sym (append-nil old.raw.items)) h.looking;
  no_line = ap (λ (n : ℕ). has_line (drop n new.raw.items)) m.judged ∙ (ap (λ (t : List ℕ). has_line (drop old.judged t)) r ∙ h.no_line);
  few = omega (arith, h.few, ap (λ (t : List ℕ). length t) r);
}

-- raw bytes that ask for another protocol still do so in a side with the same bytes and kind of head
switching_on : (old new : SourceSide) → new.asks ≡ old.asks → new.raw.items ≡ old.raw.items → IsSwitching old.asks old.raw.items
    → IsSwitching new.asks new.raw.items
switching_on old new a r h = subst (λ (t : Asks). IsSwitching t new.raw.items) (sym a)
    (subst (λ (t : List ℕ). IsSwitching old.asks t) (sym r) h)

-- raw bytes that are refused for a fault are refused for it in a side with the same bytes and kind of head
bytes_on : (old new : SourceSide) (fault : HttpFault) → new.asks ≡ old.asks → new.raw.items ≡ old.raw.items
    → RefusesBytes old.asks old.raw.items fault → RefusesBytes new.asks new.raw.items fault
bytes_on old new fault a r h = subst (λ (t : Asks). RefusesBytes t new.raw.items fault) (sym a)
    (subst (λ (t : List ℕ). RefusesBytes old.asks t fault) (sym r) h)

-- one interim response too many is still one in a side with the same raw bytes and count
too_many_on : (old new : SourceSide) → new.asks ≡ old.asks → new.raw.items ≡ old.raw.items → new.interims ≡ old.interims
    → IsOneTooMany old.asks old.raw.items old.interims → IsOneTooMany new.asks new.raw.items new.interims
too_many_on old new a r n h =
    subst (λ (t : Asks). IsOneTooMany t new.raw.items new.interims) (sym a)
    (subst (λ (t : List ℕ). IsOneTooMany old.asks t new.interims) (sym r)
    (subst (λ (k : ℕ). IsOneTooMany old.asks old.raw.items k) (sym n) h))

-- a head that is refused is refused for the same in a side with the same raw bytes and count
refuses_on : (old new : SourceSide) (why : Option HttpFault) → new.asks ≡ old.asks → new.raw.items ≡ old.raw.items
    → new.interims ≡ old.interims → RefusesHead old why → RefusesHead new why
refuses_on old new (Some More) a r n h = h
refuses_on old new (Some Bad) a r n h = bytes_on old new Bad a r h
refuses_on old new (Some TooLong) a r n h = bytes_on old new TooLong a r h
refuses_on old new (Some TooMany) a r n h = bytes_on old new TooMany a r h
refuses_on old new (Some BothLengths) a r n h = bytes_on old new BothLengths a r h
refuses_on old new (Some Lengths) a r n h = bytes_on old new Lengths a r h
refuses_on old new (Some Coding) a r n h = bytes_on old new Coding a r h
refuses_on old new (Some Target) a r n h = bytes_on old new Target a r h
refuses_on old new (Some Connect) a r n h = bytes_on old new Connect a r h
refuses_on old new (Some http.NoMemory) a r n h = h
refuses_on old new None a r n h = elim h [ inl x ↦ inl (switching_on old new a r x) | inr x ↦ inr (too_many_on old new a r n x) ]

-- a head for which there is no memory still has none in a side with the same raw bytes and fault
lacks_on : (old new : SourceSide) → new.asks ≡ old.asks → SameLook old new → new.raw.items ≡ old.raw.items → LacksMemory old
    → LacksMemory new
lacks_on old new a m r h = record { fault = m.head_fault ∙ h.fault; cause = bytes_on old new http.NoMemory a r h.cause }

-- what a turn says stays said
pub looks_same : (old new : SourceSide) (result : Result HeadProgress RelayFault) → new.asks ≡ old.asks → new.head ≡ old.head
    → SameLook old new → new.raw.items ≡ old.raw.items → Looks result old → Looks result new
looks_same old new (Ok progress.More) a u m r h = none_on old new a m r h
looks_same old new (Ok progress.Interim) a u m r h = looks_on old new [] a m (r ∙ sym (append-nil old.raw.items)) h
looks_same old new (Ok progress.Taken) a u m r h = λ e. h (sym u ∙ e)
looks_same old new (Err Head) a u m r h = subst (λ (w : Option HttpFault). RefusesHead new w) (sym m.head_fault)
    (refuses_on old new old.head_fault a r m.interims h)
looks_same old new (Err NoMemory) a u m r h = elim h [ inl x ↦ inl (lacks_on old new a m r x) | inr x ↦ inr (none_on old new a m r x) ]
looks_same old new (Err Closed) a u m r h = none_on old new a m r h
looks_same old new (Err Device) a u m r h = none_on old new a m r h
looks_same old new (Err Chunk) a u m r h = h
looks_same old new (Err Length) a u m r h = h

-- why the bytes are refused, by the fault
pub refuses_by : (s : SourceSide) (fault : HttpFault) → (fault ≡ More → ⊥) → (fault ≡ http.NoMemory → ⊥)
    → RefusesBytes s.asks s.raw.items fault → RefusesHead s (Some fault)
refuses_by s More m n h = absurd (m refl)
refuses_by s Bad m n h = h
refuses_by s TooLong m n h = h
refuses_by s TooMany m n h = h
refuses_by s BothLengths m n h = h
refuses_by s Lengths m n h = h
refuses_by s Coding m n h = h
refuses_by s Target m n h = h
refuses_by s Connect m n h = h
refuses_by s http.NoMemory m n h = absurd (n refl)

-- raw bytes to which more of a head must come are fewer than 16,384
pub more_is_few : (a : Asks) (raw : List ℕ) → RefusesBytes a raw More → length raw < 16384
more_is_few asks.Request raw h = h.1
more_is_few (asks.Response to_head) raw h = h.1

-- a refusal leaves the head to come
pub still_refused : (old new : SourceSide) (result : Result HeadProgress RelayFault) → new.asks ≡ old.asks → new.head ≡ heads.Unread
    → new.raw.items ≡ old.raw.items → new.interims ≡ old.interims → IfOk result (λ j. (j ≡ progress.More) × (length new.raw.items < 16384))
    → (read : List ℕ) → AtHead read old → JudgesHeadTo result read new
still_refused old new (Ok progress.More) a u r n m read s = still_at_head old new a (u ∙ sym s.unread) r n read s
still_refused old new (Ok progress.Interim) a u r n m read s = still_at_head old new a (u ∙ sym s.unread) r n read s
still_refused old new (Ok progress.Taken) a u r n m read s = let odd : progress.Taken ≡ progress.More = m.0 in cc
still_refused old new (Err fault) a u r n m read s = still_at_head old new a (u ∙ sym s.unread) r n read s

-- all raw bytes were judged, and more may make a head of them
pub judged_all : (old new : SourceSide) → new.asks ≡ old.asks → new.head_fault ≡ old.head_fault → new.raw.items ≡ old.raw.items
    → new.judged ≡ length old.raw.items
    → length old.raw.items < 16384 → RefusesBytes old.asks old.raw.items More → IsLooking old → HasNoHead new
judged_all old new a f r n few h l =
    let front : take new.judged new.raw.items ≡ old.raw.items =
    ap (λ (k : ℕ). take k new.raw.items) n ∙ (ap (λ (t : List ℕ). take (length old.raw.items) t) r ∙ take-length old.raw.items) in
    let rest : drop new.judged new.raw.items ≡ [] =
    ap (λ (k : ℕ). drop k new.raw.items) n ∙ (ap (λ (t : List ℕ). drop (length old.raw.items) t) r ∙ drop-length old.raw.items) in
    record {
      looking = record {
        within = omega (arith, n, ap (λ (t : List ℕ). length t) r);
        beginning = inr (subst (λ (t : Asks). RefusesBytes t (take new.judged new.raw.items) More) (sym a)
            (subst (λ (t : List ℕ). RefusesBytes old.asks t More) (sym front) h));
        no_fault = f ∙ l.no_fault;
      };
      no_line = ap has_line rest;
      few = omega (arith, few, ap (λ (t : List ℕ). length t) r);
    }

-- ---- turns

-- a fault of judging is none of the wire's
no_wire_fault : (f : RelayFault) → (f ≡ Head) ⊎ (f ≡ NoMemory) → (f ≡ Closed → ⊥) × (f ≡ Device → ⊥)
no_wire_fault f (inl e) = (λ c. let odd : Closed ≡ Head = sym c ∙ e in cc, λ c. let odd : Device ≡ Head = sym c ∙ e in cc)
no_wire_fault f (inr e) = (λ c. let odd : Closed ≡ NoMemory = sym c ∙ e in cc, λ c. let odd : Device ≡ NoMemory = sym c ∙ e in cc)

-- without a read, a turn at the head fits if it doesn't say that more is to come, and has no fault but one of judging
none_fits : (result : Result HeadProgress RelayFault) → (result ≡ Ok progress.More → ⊥)
    → ((f : RelayFault) → result ≡ Err f → (f ≡ Head) ⊎ (f ≡ NoMemory)) → FitsHead None result
none_fits (Ok progress.More) not only = absurd (not refl)
none_fits (Ok progress.Interim) not only = λ e. cc
none_fits (Ok progress.Taken) not only = λ e. cc
none_fits (Err f) not only = no_wire_fault f (only f refl)

-- with bytes of the wire, a turn at the head fits if it has no fault but one of judging
bytes_fit : (n : ℕ) (result : Result HeadProgress RelayFault) → ((f : RelayFault) → result ≡ Err f → (f ≡ Head) ⊎ (f ≡ NoMemory))
    → FitsHead (Some (got.Bytes n)) result
bytes_fit n (Ok came) only = tt
bytes_fit n (Err f) only = no_wire_fault f (only f refl)

-- the raw bytes decided
pub head_judged : (old new : SourceSide) (P : Past → Type 0) (result : Result HeadProgress RelayFault) → (result ≡ Ok progress.More → ⊥)
    → ((f : RelayFault) → result ≡ Err f → (f ≡ Head) ⊎ (f ≡ NoMemory))
    → new.interims ≡ old.interims + interims_in result → ((read : List ℕ) → AtHead read old → JudgesHeadTo result read new)
    → (IsLooking old → JudgesHead result new) → HeadTurn old new P P result
head_judged old new P result not only n h j = record {
  delta = [];
  answer = None;
  wire = none_read P;
  due = tt;
  fits = none_fits result not only;
  count = n;
  heads = λ read s. subst (λ (t : List ℕ). JudgesHeadTo result t new) (sym (append-nil read)) (h read s);
  looks = λ l. judged_looks result new (j l);
}

-- they didn't, and bytes came
pub head_bytes : (old mid more new : SourceSide) (P Q : Past → Type 0) (result : Result HeadProgress RelayFault)
    → mid.interims ≡ old.interims → new.interims ≡ more.interims + interims_in result
    → ((read : List ℕ) → AtHead read old → AtHead read mid) → SameSide mid more
    → IsFilled P Q mid.raw.items more.raw.items filled.Bytes → ((f : RelayFault) → result ≡ Err f → (f ≡ Head) ⊎ (f ≡ NoMemory))
    → ((read : List ℕ) → AtHead read more → JudgesHeadTo result read new)
    → SameLook mid more → (IsLooking old → HasNoHead mid) → (IsLooking more → JudgesHead result new) → HeadTurn old new P Q result
head_bytes old mid more new P Q result n k a m f only h same j on = record {
  delta = f.0;
  answer = Some (got.Bytes (length f.0));
  wire = bytes_read P Q f.0 f.1 f.3;
  due = (mid, a, j);
  fits = bytes_fit (length f.0) result only;
  count = k ∙ ap (λ (c : ℕ). c + interims_in result) (same.interims ∙ n);
  heads = λ read s. h (read ++ f.0) (filled_at_head mid more f.0 m same f.2 read (a read s));
  looks = λ l. judged_looks result new (on (looks_on mid more f.0 m.asks same f.2 (j l).looking));
}

-- a side at the head with no more raw bytes stays there, with nothing more read
stays_at_head : (old mid new : SourceSide) → ((read : List ℕ) → AtHead read old → AtHead read mid) → SameSide mid new → SameLook mid new
    → new.raw.items ≡ mid.raw.items → (read : List ℕ) → AtHead read old → AtHead (read ++ []) new
stays_at_head old mid new a m same r read s = filled_at_head mid new [] m same (r ∙ sym (append-nil mid.raw.items)) read (a read s)

-- a wire that waits, where the raw bytes have no head, makes a turn that says that more is to come
pub head_waited : (old mid new : SourceSide) (P Q : Past → Type 0) → mid.interims ≡ old.interims
    → ((read : List ℕ) → AtHead read old → AtHead read mid) → SameSide mid new → IsFilled P Q mid.raw.items new.raw.items filled.Wait
    → SameLook mid new → (IsLooking old → HasNoHead mid) → HeadTurn old new P Q (Ok progress.More)
head_waited old mid new P Q n a m f same j = record {
  delta = [];
  answer = Some got.Wait;
  wire = record { each = f.1; fits = refl };
  due = (mid, a, j);
  fits = refl;
  count = omega (arith, same.interims, n);
  heads = stays_at_head old mid new a m same f.0;
  looks = λ l. none_on mid new m.asks same f.0 (j l);
}

-- a wire that ends, where the raw bytes have no head, makes a turn that answers Closed
pub head_ended : (old mid new : SourceSide) (P Q : Past → Type 0) → mid.interims ≡ old.interims
    → ((read : List ℕ) → AtHead read old → AtHead read mid) → SameSide mid new → IsFilled P Q mid.raw.items new.raw.items filled.Ended
    → SameLook mid new → (IsLooking old → HasNoHead mid) → HeadTurn old new P Q (Err Closed)
head_ended old mid new P Q n a m f same j = record {
  delta = [];
  answer = Some got.Ended;
  wire = record { each = f.1; fits = refl };
  due = (mid, a, j);
  fits = refl;
  count = omega (arith, same.interims, n);
  heads = stays_at_head old mid new a m same f.0;
  looks = λ l. none_on mid new m.asks same f.0 (j l);
}

-- a wire that fails, where the raw bytes have no head, makes a turn that answers Device
pub head_failed : (old mid new : SourceSide) (P Q : Past → Type 0) → mid.interims ≡ old.interims
    → ((read : List ℕ) → AtHead read old → AtHead read mid) → SameSide mid new → IsFilled P Q mid.raw.items new.raw.items filled.Failed
    → SameLook mid new → (IsLooking old → HasNoHead mid) → HeadTurn old new P Q (Err Device)
head_failed old mid new P Q n a m f same j = record {
  delta = [];
  answer = Some got.Fault;
  wire = record { each = f.1; fits = refl };
  due = (mid, a, j);
  fits = refl;
  count = omega (arith, same.interims, n);
  heads = stays_at_head old mid new a m same f.0;
  looks = λ l. none_on mid new m.asks same f.0 (j l);
}

-- where there is no memory for more bytes of a head, a turn makes no read and says so
pub head_full : (old mid new : SourceSide) (P Q : Past → Type 0) → mid.interims ≡ old.interims
    → ((read : List ℕ) → AtHead read old → AtHead read mid) → SameSide mid new → IsFilled P Q mid.raw.items new.raw.items filled.NoMemory
    → SameLook mid new → (IsLooking old → HasNoHead mid) → HeadTurn old new P Q (Err NoMemory)
head_full old mid new P Q n a m f same j = record {
  delta = [];
  answer = None;
  wire = record { each = f.1; fits = refl };
  due = tt;
  fits = ((λ e. cc), (λ e. cc));
  count = omega (arith, same.interims, n);
  heads = stays_at_head old mid new a m same f.0;
  looks = λ l. inr (none_on mid new m.asks same f.0 (j l));
}

-- the fault is kept
pub head_kept : (old mid new : SourceSide) (P Q : Past → Type 0) (fault : RelayFault) → SameSide mid new → SameLook mid new
    → new.raw.items ≡ mid.raw.items → HeadTurn old mid P Q (Err fault) → HeadTurn old new P Q (Err fault)
head_kept old mid new P Q fault m same r t = record {
  delta = t.delta;
  answer = t.answer;
  wire = t.wire;
  due = t.due;
  fits = t.fits;
  count = same.interims ∙ t.count;
  heads = λ read s. still_at_head mid new m.asks m.head r same.interims (read ++ t.delta) (t.heads read s);
  looks = λ l. looks_same mid new (Err fault) m.asks m.head same r (t.looks l);
}

-- a message that begins still does so where room was given back
begins_given_back : (old new : SourceSide) (read : List ℕ) → GivesBack old new → Begins read old → Begins read new
begins_given_back old new read b s x count going =
    let one = s x count going in
    let k : SideReads old new [] [] [] false = filled_more old new [] false b.asks b.head b.body
    (b.raw ∙ sym (append-nil old.raw.items)) in (
      subst (λ (t : List ℕ). SideRead x [] t false new) (append-nil read) (k.reads x [] read false one.0),
      λ len. subst (λ (t : SourceBody). Agrees x t) (sym b.body) (one.1
          (subst (λ (t : SourceBody). IfSome x.plan.len (λ n. length_of t.framing ≡ Some n)) b.body len)),
    )

-- what judging the raw bytes gave still holds where room was given back
judged_given_back : (old new : SourceSide) (read : List ℕ) (result : Result HeadProgress RelayFault) → GivesBack old new
    → JudgesHeadTo result read old → JudgesHeadTo result read new
judged_given_back old new read (Ok progress.More) b s = still_at_head old new b.asks b.head b.raw b.interims read s
judged_given_back old new read (Ok progress.Interim) b s = still_at_head old new b.asks b.head b.raw b.interims read s
judged_given_back old new read (Ok progress.Taken) b s = begins_given_back old new read b s
judged_given_back old new read (Err fault) b s = still_at_head old new b.asks b.head b.raw b.interims read s

-- room was given back
pub head_given_back : (old mid new : SourceSide) (P Q : Past → Type 0) (result : Result HeadProgress RelayFault) → GivesBack mid new
    → HeadTurn old mid P Q result → HeadTurn old new P Q result
head_given_back old mid new P Q result b t = record {
  delta = t.delta;
  answer = t.answer;
  wire = t.wire;
  due = t.due;
  fits = t.fits;
  count = b.interims ∙ t.count;
  heads = λ read s. judged_given_back mid new (read ++ t.delta) result b (t.heads read s);
  looks = λ l. looks_same mid new result b.asks b.head (record { judged = b.judged; interims = b.interims; head_fault = b.head_fault })
      b.raw (t.looks l);
}

-- The other sides' events leave what was heard.
use Rattle.std.proofs.Common.{◌≡◌, ℕ, ◌<◌, ◌⊎◌, inl, inr, Bool, true, false, ◌||◌, List, [], length, refl, ap, sym, subst, ◌∙◌, arith}
use Rattle.trace_core.specs.declared.history.Point.{Point}
use Rattle.trace_core.specs.declared.history.Event.{Event}
use Rattle.trace_core.specs.declared.history.Event.TheVariants.{In, End, Svc, Stop, Heard, Continue, NoMod, Mod, Ad, AdEnd, Usr, Done, Fail}
use Rattle.trace_core.specs.declared.history.Event.TheVariants.{Retry}
use Rattle.trace_core.specs.declared.history.Seen.{Seen}
use Rattle.trace_core.specs.History.{is_heard, is_preview}
use Rattle.trace_core.specs.View.{after}
use Rattle.icap_client.specs.Replies.{IsContinueOrNothing}
use Rattle.icap_client.specs.Heard.{Reader, HasHeard, HeardTo, Marks, HeardInterim, HeardFinal}
use Rattle.icap_client.specs.Heard.HeardFinal.{unchanged as was_unchanged, changed as was_changed}
use Rattle.icap_client.specs.Laws.{first_reader}
use Rattle.icap_client.specs.Events.{is_of_replies}
use Rattle.icap_client.specs.declared.stage.Stage.{Stage}
use Rattle.icap_client.specs.declared.stage.Stage.TheVariants.{Replies, Head, Body, Over}
use Rattle.icap_client.specs.Reading.{ReadSide, SideHeard, HasBegun, NotBegun, MayRead, NothingToRead}

-- what was heard depends on this alone
pub record Same (x y : Seen) : Type 0 where
  pub no_mod_is : y.no_mod ≡ x.no_mod
  pub modified_is : y.modified ≡ x.modified
  pub has_body_is : y.has_body ≡ x.has_body
  pub over_is : y.adapted_over ≡ x.adapted_over
  pub continued_is : y.continued ≡ x.continued
  pub count_is : y.adapted_received ≡ x.adapted_received

same_by : (x y : Seen) → y.no_mod ≡ x.no_mod → y.modified ≡ x.modified → y.has_body ≡ x.has_body → y.adapted_over ≡ x.adapted_over
    → y.continued ≡ x.continued → y.adapted_received ≡ x.adapted_received → Same x y
same_by x y a b c d e f = record { no_mod_is = a; modified_is = b; has_body_is = c; over_is = d; continued_is = e; count_is = f }

pub same_heard : (x : Seen) → Same x (after x Heard)
same_heard x = same_by x _ refl refl refl refl refl (omega arith)

pub same_after : (x : Seen) (event : Event) → is_of_replies event ≡ false → Same x (after x event)
same_after x (In n) o = same_by x _ refl refl refl refl refl (omega arith)
same_after x End o = same_by x _ refl refl refl refl refl (omega arith)
same_after x (Svc n) o = same_by x _ refl refl refl refl refl (omega arith)
same_after x Stop o = same_by x _ refl refl refl refl refl (omega arith)
same_after x Heard o = cc
same_after x Continue o = cc
same_after x NoMod o = cc
same_after x (Mod payload) o = cc
same_after x (Ad n) o = cc
same_after x AdEnd o = cc
same_after x (Usr n) o = same_by x _ refl refl refl refl refl (omega arith)
same_after x Done o = same_by x _ refl refl refl refl refl (omega arith)
same_after x (Fail cause) o = same_by x _ refl refl refl refl refl (omega arith)
same_after x Retry o = same_by x _ refl refl refl refl refl (omega arith)

marks_same : (x y : Seen) (a b c d : Bool) → Same x y → Marks x a b c d → Marks y a b c d
marks_same x y a b c d s m = record {
  no_mod_is = s.no_mod_is ∙ m.no_mod_is;
  modified_is = s.modified_is ∙ m.modified_is;
  has_body_is = s.has_body_is ∙ m.has_body_is;
  over_is = s.over_is ∙ m.over_is;
}

interim_same : (x y : Seen) (point : Point) (text : List ℕ) → Same x y → IsContinueOrNothing point x.continued text
    → IsContinueOrNothing point y.continued text
interim_same x y point text s i = subst (λ (c : Bool). IsContinueOrNothing point c text) (sym s.continued_is) i

first_same : (x y : Seen) (adapted read : List ℕ) (r : Reader) → Same x y → HeardInterim x adapted read r → HeardInterim y adapted read r
first_same x y adapted read r s h = record {
  marks = marks_same x y _ _ _ _ s h.marks;
  none = h.none;
  count = s.count_is ∙ h.count;
  interim = interim_same x y r.point read s h.interim;
}

final_same : (x y : Seen) (adapted read : List ℕ) (r : Reader) → Same x y → HeardFinal x adapted read r → HeardFinal y adapted read r
final_same x y adapted read r s (was_unchanged h) = was_unchanged (record {
  marks = marks_same x y _ _ _ _ s h.marks;
  none = h.none;
  count = s.count_is ∙ h.count;
  before = h.before;
  last = h.last;
  text_is = h.text_is;
  interim = interim_same x y r.point h.before s h.interim;
  reply = h.reply;
  said = h.said;
})
final_same x y adapted read r s (was_changed h) = was_changed (record {
  layout = h.layout;
  marks = marks_same x y _ _ _ _ s h.marks;
  count = s.count_is ∙ h.count;
  before = h.before;
  last = h.last;
  text_is = h.text_is;
  interim = interim_same x y r.point h.before s h.interim;
  reply = h.reply;
  said = h.said;
  layout_is = h.layout_is;
})

pub to_same : (stage : Stage) (x y : Seen) (adapted read : List ℕ) (r : Reader) → Same x y → HeardTo stage x adapted read r
    → HeardTo stage y adapted read r
to_same Replies x y adapted read r s h = first_same x y adapted read r s h
to_same (Head layout) x y adapted read r s h = record {
  before = h.before;
  icap = h.icap;
  first = first_same x y adapted h.before r s h.first;
  text_is = h.text_is;
  head = h.head;
  said = h.said;
}
to_same (Body chunks) x y adapted read r s h = record {
  marks = marks_same x y _ _ _ _ s h.marks;
  count = s.count_is ∙ h.count;
  layout = h.layout;
  before = h.before;
  heads = h.heads;
  text = h.text;
  text_is = h.text_is;
  interim = interim_same x y r.point h.before s h.interim;
  heads_are = h.heads_are;
  said = h.said;
  layout_is = h.layout_is;
  with_body = h.with_body;
  body = h.body;
  going_on = h.going_on;
  no_fault = h.no_fault;
}
to_same Over x y adapted read r s h = final_same x y adapted read r s h

pub others_keep : (x : Seen) (event : Event) (adapted read : List ℕ) (r : Reader) → is_of_replies event ≡ false → HasHeard x adapted read r
    → HasHeard (after x event) adapted read r
others_keep x event adapted read r o h = to_same r.stage x (after x event) adapted read r (same_after x event o) h

or_true : (b : Bool) → b ≡ true → (a : Bool) → (a || b) ≡ true
or_true b e true = refl
or_true b e false = e

-- a first byte of a reply is an event of its own
heard_still : (x : Seen) (event : Event) → is_of_replies event ≡ false → (after x event).heard ≡ x.heard
heard_still x (In n) o = refl
heard_still x End o = refl
heard_still x (Svc n) o = refl
heard_still x Stop o = refl
heard_still x Heard o = cc
heard_still x Continue o = cc
heard_still x NoMod o = cc
heard_still x (Mod payload) o = cc
heard_still x (Ad n) o = cc
heard_still x AdEnd o = cc
heard_still x (Usr n) o = refl
heard_still x Done o = refl
heard_still x (Fail cause) o = refl
heard_still x Retry o = refl

heard_kept : (x : Seen) (event : Event) (adapted read : List ℕ) → is_of_replies event ≡ false → HasBegun x read ⊎ NotBegun x adapted read
    → HasBegun (after x event) read ⊎ NotBegun (after x event) adapted read
heard_kept x event adapted read o (inl h) = inl (or_true x.heard h.0 (is_heard event), h.1)
heard_kept x event adapted read o (inr n) = let s = same_after x event o in inr (record {
  unheard = heard_still x event o ∙ n.unheard;
  none = n.none;
  unread = n.unread;
  marks = marks_same x (after x event) false false false false s n.marks;
  continued = s.continued_is ∙ n.continued;
  count = s.count_is ∙ n.count;
})

pub side_keeps : (x : Seen) (event : Event) (adapted read : List ℕ) (s : ReadSide) → is_of_replies event ≡ false
    → SideHeard x adapted read s → SideHeard (after x event) adapted read s
side_keeps x event adapted read s o h = record {
  framed = h.framed;
  text_is = h.text_is;
  heard = others_keep x event adapted h.framed s.reader o h.heard;
  begun = heard_kept x event adapted read o h.begun;
}

-- Heard stands just where a byte was read
pub heard_where : (x : Seen) (adapted read : List ℕ) (s : ReadSide) → SideHeard x adapted read s
    → (x.heard ≡ true → 0 < length read) × (0 < length read → x.heard ≡ true)
heard_where x adapted read s h = where_by h.begun
  where
    where_by : HasBegun x read ⊎ NotBegun x adapted read → (x.heard ≡ true → 0 < length read) × (0 < length read → x.heard ≡ true)
    where_by (inl b) = ((λ e. b.1), (λ l. b.0))
    where_by (inr n) = (
      (λ e. let odd : true ≡ false = sym e ∙ n.unheard in cc),
      (λ l. let z : length read ≡ 0 = ap (λ (t : List ℕ). length t) n.unread in absurd (omega (arith, l, z))),
    )

-- before the first byte of a reply nothing was read
pub unheard_none : (x : Seen) (adapted read : List ℕ) (s : ReadSide) → SideHeard x adapted read s → x.heard ≡ false
    → (adapted ≡ []) × (read ≡ [])
unheard_none x adapted read s h n = none_by h.begun n
  where
    none_by : HasBegun x read ⊎ NotBegun x adapted read → x.heard ≡ false → (adapted ≡ []) × (read ≡ [])
    none_by (inl h) f = let odd : true ≡ false = sym h.0 ∙ f in cc
    none_by (inr b) f = (b.none, b.unread)

fresh_by : (x : Seen) (adapted read : List ℕ) (s : ReadSide) (point : Point) → s.reader ≡ first_reader point → s.raw ≡ []
    → HasBegun x read ⊎ NotBegun x adapted read → x.heard ≡ false → SideHeard (after x Retry) [] [] s
fresh_by x adapted read s point e r (inl h) n = let odd : true ≡ false = sym h.0 ∙ n in cc
fresh_by x adapted read s point e r (inr b) n =
    let same : Same x (after x Retry) = same_after x Retry refl in
    let marks : Marks (after x Retry) false false false false = marks_same x (after x Retry) false false false false same b.marks in
    let count : (after x Retry).adapted_received ≡ 0 = same.count_is ∙ b.count in
    let first : HasHeard (after x Retry) [] [] (first_reader point) =
    record {
      marks = marks;
      none = refl;
      count = count;
      interim = subst (λ (c : Bool). IsContinueOrNothing point c []) (sym b.continued) refl;
    } in
    record {
      framed = [];
      text_is = sym r;
      heard = subst (λ (q : Reader). HasHeard (after x Retry) [] [] q) (sym e) first;
      begun = inr (record {
        unheard = heard_still x Retry refl ∙ b.unheard;
        none = refl;
        unread = refl;
        marks = marks;
        continued = b.continued;
        count = count;
      });
    }

-- a fresh reader after a Retry
pub hears_again : (x : Seen) (adapted read : List ℕ) (old s : ReadSide) (point : Point) → s.reader ≡ first_reader point → s.raw ≡ []
    → x.heard ≡ false → SideHeard x adapted read old → SideHeard (after x Retry) [] [] s
hears_again x adapted read old s point e r n h = fresh_by x adapted read s point e r h.begun n

-- a whole final response stands in the history
over_by : (x : Seen) (adapted read : List ℕ) (r : Reader) → HeardFinal x adapted read r → (x.no_mod ≡ true) ⊎ (x.adapted_over ≡ true)
over_by x adapted read r (was_unchanged h) = inl h.marks.no_mod_is
over_by x adapted read r (was_changed h) = inr h.marks.over_is

pub over_is : (x : Seen) (adapted read : List ℕ) (s : ReadSide) → s.reader.stage ≡ Over → SideHeard x adapted read s
    → (x.no_mod ≡ true) ⊎ (x.adapted_over ≡ true)
over_is x adapted read s e h = over_by x adapted h.framed s.reader (subst (λ (t : Stage). HeardTo t x adapted h.framed s.reader) e h.heard)

closed_by : (x : Seen) (all_sent p c : Bool) → is_preview x.plan.kind ≡ p → x.continued ≡ c → ¬ (MayRead x all_sent)
    → (is_preview x.plan.kind ≡ true) × (x.continued ≡ false)
closed_by x all_sent true false e f n = (e, f)
closed_by x all_sent false c e f n = absurd (n (inl e))
closed_by x all_sent true true e f n = absurd (n (inr (inl f)))

-- if nothing is to be read, the answer is whole, there is no room, or a preview waits
pub rests_where : (x : Seen) (adapted read : List ℕ) (all_sent : Bool) (room : ℕ) (s : ReadSide) → SideHeard x adapted read s
    → NothingToRead x all_sent room s.reader.stage
    → ((x.no_mod ≡ true) ⊎ (x.adapted_over ≡ true)) ⊎ ((room ≡ 0) ⊎ ((is_preview x.plan.kind ≡ true) × (x.continued ≡ false)))
rests_where x adapted read all_sent room s h (inl e) = inl (over_is x adapted read s e h)
rests_where x adapted read all_sent room s h (inr (inl z)) = inr (inl z)
rests_where x adapted read all_sent room s h (inr (inr n)) =
    inr (inr (closed_by x all_sent (is_preview x.plan.kind) x.continued refl refl n))

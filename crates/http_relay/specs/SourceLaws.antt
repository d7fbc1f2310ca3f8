-- What other sides' events leave, and when a source rests.
use Rattle.std.specs.Prelude.{◌≡◌, ℕ, ◌⊎◌, true, false, List}
use Rattle.std.proofs.Common.{refl, ◌∙◌, sym, inl, inr, arith}
use Rattle.http_side.proofs.Ends.{over_is}
use Rattle.trace_core.specs.declared.history.Event.{Event}
use Rattle.trace_core.specs.declared.history.Event.TheVariants.{In, End, Svc, Stop, Heard, Retry, Continue, NoMod, Mod, Ad, AdEnd, Usr}
use Rattle.trace_core.specs.declared.history.Event.TheVariants.{Done, Fail}
use Rattle.trace_core.specs.declared.history.Seen.{Seen}
use Rattle.trace_core.specs.View.{after}
use Rattle.trace_core.specs.Turns.{is_of_source}
use Rattle.adapt_sides.specs.Turns.{Given}
use Rattle.http_relay.specs.Source.{Agrees}
use Rattle.http_relay.specs.Reading.{SideRead, Rests, IsOver}
use Rattle.http_relay.specs.declared.side.SourceSide.{SourceSide}

-- what the source's numbers are made of stays
record Keeps (x y : Seen) : Type 0 where
  received : y.received ≡ x.received
  ended : y.ended ≡ x.ended

others_keep : (x : Seen) (event : Event) → is_of_source event ≡ false → Keeps x (after x event)
others_keep x (In n) e = cc
others_keep x End e = cc
others_keep x (Svc n) e = record { received = omega arith; ended = refl }
others_keep x Stop e = record { received = omega arith; ended = refl }
others_keep x Heard e = record { received = omega arith; ended = refl }
others_keep x Retry e = record { received = omega arith; ended = refl }
others_keep x Continue e = record { received = omega arith; ended = refl }
others_keep x NoMod e = record { received = omega arith; ended = refl }
others_keep x (Mod b) e = record { received = omega arith; ended = refl }
others_keep x (Ad n) e = record { received = omega arith; ended = refl }
others_keep x AdEnd e = record { received = omega arith; ended = refl }
others_keep x (Usr n) e = record { received = omega arith; ended = refl }
others_keep x Done e = record { received = omega arith; ended = refl }
others_keep x (Fail c) e = record { received = omega arith; ended = refl }

pub others : (x : Seen) (event : Event) (body : List ℕ) (read : Given) (s : SourceSide) → is_of_source event ≡ false
    → SideRead x body read.bytes read.ended s → SideRead (after x event) body read.bytes read.ended s
others x event body read s e h =
    let k = others_keep x event e in
    record {
      before = h.before;
      head_text = h.head_text;
      framed = h.framed;
      text_is = h.text_is;
      interims = h.interims;
      head = h.head;
      way = h.way;
      body_read = record {
        count = k.received ∙ h.body_read.count;
        ended = k.ended ∙ h.body_read.ended;
        reads = h.body_read.reads;
        whole = h.body_read.whole;
      };
    }

pub others_agree : (x : Seen) (event : Event) (s : SourceSide) → is_of_source event ≡ false → Agrees x s.body
    → Agrees (after x event) s.body
others_agree x event s e a =
    let k = others_keep x event e in
    record { received = k.received ∙ a.received; ended = k.ended ∙ a.ended; len = a.len }

pub rests_where : (x : Seen) (body : List ℕ) (read : Given) (room : ℕ) (s : SourceSide) → SideRead x body read.bytes read.ended s
    → Rests room s → (x.ended ≡ true) ⊎ (room ≡ 0)
rests_where x body read room s h (inl e) = inl (h.body_read.ended ∙ e)
rests_where x body read room s h (inr z) = inr z

pub ended_where : (x : Seen) (body : List ℕ) (read : Given) (s : SourceSide) → SideRead x body read.bytes read.ended s → x.ended ≡ true
    → IsOver s ⊎ (read.ended ≡ true)
ended_where x body read s h e =
    elim (h.body_read.whole (sym h.body_read.ended ∙ e)) [
      | inl w ↦ inl ((over_is s.body.framing h.framed body s.body.reader h.body_read.reads).1 w)
      | inr w ↦ inr w.0
    ]

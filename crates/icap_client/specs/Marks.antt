-- The side's marks beside the other sides' events.
use Rattle.std.proofs.Common.{◌≡◌, ℕ, Bool, false, not, ◌||◌, ◌&&◌, List, ◌++◌, length, refl, ap, sym, ◌∙◌}
use Rattle.trace_core.specs.declared.history.Event.{Event}
use Rattle.trace_core.specs.declared.history.Event.TheVariants.{In, End, Svc, Stop, Heard, Continue, NoMod, Mod, Ad, AdEnd, Usr, Done, Fail}
use Rattle.trace_core.specs.declared.history.Event.TheVariants.{Retry}
use Rattle.trace_core.specs.declared.history.Seen.{Seen}
use Rattle.trace_core.specs.History.{in_bytes, is_retry, is_preview}
use Rattle.trace_core.specs.View.{after}
use Rattle.icap_client.specs.Events.{MayCome, is_of_sending, is_of_replies}
use Rattle.icap_client.specs.Turns.{Service, ServiceSent, ServiceHeard, is_answered}
use Rattle.icap_client.specs.OthersSent.{others}
use Rattle.icap_client.specs.OthersHeard.{Same, same_after, side_keeps}

last_stop_kept : (x : Seen) (event : Event) → is_of_sending event ≡ false → is_retry event ≡ false → x.last_stop ≡ (after x event).last_stop
last_stop_kept x (In k) o n = refl
last_stop_kept x End o n = refl
last_stop_kept x (Svc k) o n = cc
last_stop_kept x Stop o n = cc
last_stop_kept x Heard o n = refl
last_stop_kept x Continue o n = refl
last_stop_kept x NoMod o n = refl
last_stop_kept x (Mod payload) o n = refl
last_stop_kept x (Ad k) o n = refl
last_stop_kept x AdEnd o n = refl
last_stop_kept x (Usr k) o n = refl
last_stop_kept x Done o n = refl
last_stop_kept x (Fail cause) o n = refl
last_stop_kept x Retry o n = cc

-- a request that may begin anew after an event might before it
pub might_retry : (x : Seen) (event : Event) → is_retry event ≡ false → MayCome (after x event) Retry → MayCome x Retry
might_retry x (In k) n m = m
might_retry x End n m = m
might_retry x (Svc k) n m = m
might_retry x Stop n m = m
might_retry x Heard n m = cc
might_retry x Continue n m = m
might_retry x NoMod n m = m
might_retry x (Mod payload) n m = m
might_retry x (Ad k) n m = m
might_retry x AdEnd n m = m
might_retry x (Usr k) n m = m
might_retry x Done n m = cc
might_retry x (Fail cause) n m = cc
might_retry x Retry n m = cc

pub service_others : (head : List ℕ) (x : Seen) (event : Event) (came bytes taken : List ℕ) (s : Service) → is_of_sending event ≡ false
    → is_retry event ≡ false → length came ≡ x.received → length bytes ≡ in_bytes event
    → ServiceSent head x came taken s → ServiceSent head (after x event) (came ++ bytes) taken s
service_others head x event came bytes taken s o n l b h = record {
  sent = others head x event came bytes taken s.writer o n l b h.sent;
  kept = λ m. h.kept (might_retry x event n m);
  last_stop = h.last_stop ∙ last_stop_kept x event o n;
}

-- a preview is answered by what was heard alone
pub answered_same : (x : Seen) (event : Event) → Same x (after x event) → is_answered (after x event) ≡ is_answered x
answered_same x event s =
    ap (λ (c : Bool). is_preview x.plan.kind && (not c && ((after x event).no_mod || (after x event).modified))) s.continued_is
    ∙ (ap (λ (n : Bool). is_preview x.plan.kind && (not x.continued && (n || (after x event).modified))) s.no_mod_is
    ∙ ap (λ (m : Bool). is_preview x.plan.kind && (not x.continued && (x.no_mod || m))) s.modified_is)

pub service_keeps : (x : Seen) (event : Event) (adapted read : List ℕ) (s : Service) → is_of_replies event ≡ false
    → ServiceHeard x adapted read s → ServiceHeard (after x event) adapted read s
service_keeps x event adapted read s o h = record {
  heard = side_keeps x event adapted read s.replies o h.heard;
  answered = h.answered ∙ sym (answered_same x event (same_after x event o));
}

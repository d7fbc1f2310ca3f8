-- Users that are handed out, one after another.
use Rattle.std.proofs.Common.{◌≡◌, ℕ, zero, suc, ◌+◌, ◌<◌, ◌≤◌, ◌%◌, ◌⊎◌, inl, inr, Bool, false, List, [], ◌++◌, refl, ap, sym, ◌∙◌, subst}
use Rattle.std.proofs.Common.{append_assoc, append-nil, arith}
use Rattle.std.specs.Prelude.{nat_eq}
use Rattle.event_loop.specs.declared.mail.Mail.{Ghosts as Mail}
use Rattle.event_loop.specs.Sendings.{Sending}
use Rattle.event_loop.specs.Mail.{Sends, IsHandedTo, HandsOut, asks, hands}

-- of two numbers, the first is at most the second, or the second is less
le_or_less : (n m : ℕ) → (n ≤ m) ⊎ (m < n)
le_or_less zero m = inl (omega arith)
le_or_less (suc n) zero = inr (omega arith)
le_or_less (suc n) (suc m) = elim (le_or_less n m) [ inl h ↦ inl (omega (arith, h)) | inr h ↦ inr (omega (arith, h)) ]

-- what two calls sent one after the other was sent by both together
pub sends_then : {M : Type 0} (w : Mail M) (a b c : M) (first second : List Sending) → Sends w a b first → Sends w b c second
    → Sends w a c (second ++ first)
sends_then w a b c first second f s past h = subst (λ (sent : List Sending). w.past c sent) (sym (append_assoc second first past))
    (s (first ++ past) (f past h))

-- a mail that stays as it is has sent nothing
pub sends_same : {M : Type 0} (w : Mail M) (a b : M) → b ≡ a → Sends w a b []
sends_same {M} w a b e past h = subst (λ (m : M). w.past m past) (sym e) h

-- a user that was handed to a loop is so after more sendings
handed_more : (own to number : ℕ) (sendings more : List Sending) → IsHandedTo own to number sendings
    → IsHandedTo own to number (more ++ sendings)
handed_more own to number sendings more h = record {
  alone = h.alone;
  later = more ++ h.later;
  before = h.before;
  is = ap (λ (sent : List Sending). more ++ sent) h.is ∙ sym (append_assoc more h.later
      (hands (nat_eq to own) to number h.alone ++ h.before));
}

-- a user that was handed to a loop is so with older sendings before
handed_older : (own to number : ℕ) (sendings older : List Sending) → IsHandedTo own to number sendings
    → IsHandedTo own to number (sendings ++ older)
handed_older own to number sendings older h = record {
  alone = h.alone;
  later = h.later;
  before = h.before ++ older;
  is = ap (λ (sent : List Sending). sent ++ older) h.is
      ∙ (append_assoc h.later (hands (nat_eq to own) to number h.alone ++ h.before) older
      ∙ ap (λ (sent : List Sending). h.later ++ sent) (append_assoc (hands (nat_eq to own) to number h.alone) h.before older));
}

-- one user was handed to the loop whose turn it is
pub one_handed : {M : Type 0} (w : Mail M) (a b : M) (own loops first last : ℕ) (came : Bool) → last ≤ first + 1
    → (alone : Bool) × Sends w a b (hands (nat_eq (last % loops) own) (last % loops) last alone)
    → (came ≡ false → last % loops ≡ own → ⊥) → HandsOut w a b own loops first last came
one_handed w a b own loops first last came one sent other = record {
  sendings = hands (nat_eq (last % loops) own) (last % loops) last sent.0;
  sends = sent.1;
  turns = λ some number above below.
      let same : last ≡ number = omega (arith, one, above, below) in
      subst (λ (n : ℕ). IsHandedTo own (n % loops) n (hands (nat_eq (last % loops) own) (last % loops) last sent.0)) same (record {
        alone = sent.0;
        later = [];
        before = [];
        is = sym (append-nil (hands (nat_eq (last % loops) own) (last % loops) last sent.0));
      });
  knows = λ some none number above below.
      let same : last ≡ number = omega (arith, one, above, below) in
      λ e. other none (ap (λ (n : ℕ). n % loops) same ∙ e);
}

-- nobody was handed out
pub none_handed : {M : Type 0} (w : Mail M) (a b : M) (own loops first last : ℕ) (came : Bool) (sendings : List Sending) → last ≡ first
    → Sends w a b sendings → HandsOut w a b own loops first last came
none_handed w a b own loops first last came sendings same sends = record {
  sendings = sendings;
  sends = sends;
  turns = λ some number above below. absurd (omega (arith, same, above, below));
  knows = λ some none number above below e. absurd (omega (arith, same, above, below));
}

-- so without loops
pub no_loops : {M : Type 0} (w : Mail M) (a b : M) (own loops first last : ℕ) (came : Bool) (sendings : List Sending) → loops ≡ 0
    → Sends w a b sendings → HandsOut w a b own loops first last came
no_loops w a b own loops first last came sendings none sends = record {
  sendings = sendings;
  sends = sends;
  turns = λ some number above below. absurd (omega (arith, none, some));
  knows = λ some other number above below e. absurd (omega (arith, none, some));
}

-- some, and then others
pub hands_then : {M : Type 0} (w : Mail M) (a b c : M) (own loops first mid last : ℕ) (one two came : Bool)
    → HandsOut w a b own loops first mid one → HandsOut w b c own loops mid last two → (came ≡ false → (one ≡ false) × (two ≡ false))
    → HandsOut w a c own loops first last came
hands_then w a b c own loops first mid last one two came f s both = record {
  sendings = s.sendings ++ f.sendings;
  sends = sends_then w a b c f.sendings s.sendings f.sends s.sends;
  turns = λ some number above below.
      elim (le_or_less number mid) as (λ _. IsHandedTo own (number % loops) number (s.sendings ++ f.sendings)) [
        | inl early ↦ handed_more own (number % loops) number f.sendings s.sendings (f.turns some number above early)
        | inr late ↦ handed_older own (number % loops) number s.sendings f.sendings (s.turns some number late below)
      ];
  knows = λ some none number above below e.
      elim (le_or_less number mid) as (λ _. ⊥) [
        | inl early ↦ f.knows some (both none).0 number above early e
        | inr late ↦ s.knows some (both none).1 number late below e
      ];
}

-- so where the loop whose turn it is has a name
pub one_handed_to : {M : Type 0} (w : Mail M) (a b : M) (own loops first last : ℕ) (came : Bool) (to : ℕ) → last ≤ first + 1
    → to ≡ last % loops
    → (alone : Bool) × Sends w a b (hands (nat_eq to own) to last alone) → (came ≡ false → to ≡ own → ⊥)
    → HandsOut w a b own loops first last came
one_handed_to w a b own loops first last came to one e sent other =
    one_handed w a b own loops first last came one (subst (λ (t : ℕ). (alone : Bool) × Sends w a b (hands (nat_eq t own) t last alone)) e
    sent)
    (λ none same. other none (e ∙ same))

-- a loop was asked for room, if there is one
pub asked_for_room : {M : Type 0} (w : Mail M) (a b : M) (own loops first last : ℕ) (came : Bool) (to : ℕ) → last ≡ first
    → (0 < loops → Sends w a b (asks (nat_eq to own) to)) → (loops ≡ 0 → Sends w a b []) → HandsOut w a b own loops first last came
asked_for_room w a b own zero first last came to same some none = none_handed w a b own zero first last came [] same (none refl)
asked_for_room w a b own (suc n) first last came to same some none =
    none_handed w a b own (suc n) first last came (asks (nat_eq to own) to) same (some (omega arith))

-- others after some, where the numbers go on
pub hands_on : {M : Type 0} (w : Mail M) (a b c : M) (own loops others first mid from last : ℕ) (one two came : Bool) → others ≡ loops
    → from ≡ mid
    → HandsOut w a b own loops first mid one → HandsOut w b c own others from last two → (came ≡ false → (one ≡ false) × (two ≡ false))
    → HandsOut w a c own loops first last came
hands_on w a b c own loops others first mid from last one two came e1 e2 f s both =
    hands_then w a b c own loops first mid last one two came f
    (subst (λ (n : ℕ). HandsOut w b c own loops n last two) e2 (subst (λ (n : ℕ). HandsOut w b c own n from last two) e1 s)) both

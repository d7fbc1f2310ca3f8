-- What is read from a line by cases is what the line says.
use Rattle.std.proofs.Common.{◌≡◌, ℕ, Bool, true, false, cond, List, ◌++◌, length, take, drop, Option}
use Rattle.std.proofs.Common.{Some, None, option_and_then, refl, sym, ap, ◌∙◌, subst, codes, arith, eqb}
use Rattle.std.proofs.lemmas.List.{take-append-drop}
use Rattle.std.proofs.lemmas.Slice.Eq.{bytes_eq-Decides}
use Rattle.std.proofs.lemmas.Bool.Decides.{nat_tests}
use Rattle.std.specs.Str.{bytes_eq}
use Rattle.trace_core.specs.declared.history.Event.{Event}
use Rattle.trace_core.specs.declared.history.Event.TheVariants.{In, End, Svc, Stop, Heard, Continue, NoMod}
use Rattle.trace_core.specs.declared.history.Event.TheVariants.{Mod, Ad, AdEnd, Usr, Done, Fail, Retry}
use Rattle.trace_core.specs.declared.history.Payload.TheVariants.{Body, NullBody}
use Rattle.trace_core.specs.declared.history.Cause.{Cause}
use Rattle.trace_core.specs.declared.history.Cause.TheVariants.{Source, Service, NextHop, Memory, Deadline, Stopping}
use Rattle.trace_core.specs.declared.tape.Tape.TheVariants.{Original, Adapted}
use Rattle.proxy_commands.specs.declared.script.Line.{Line}
use Rattle.proxy_commands.specs.declared.script.Line.TheVariants.{Step, Need}
use Rattle.exchange_report.specs.Script.{cause_number}
use Rattle.proxy_commands.specs.Words.{SaysLine, IsNumber}
use Rattle.proxy_commands.specs.Reading.{decimal_of, behind, mark_of, cause_of, or_number, fail_of, numbered_of, step_or, line_of}
use Rattle.proxy_commands.proofs.Decimals.{decimal_of-number, number-decimal_of}

-- From what a line says to what is read.

-- what is made of a number is made of the digits that write it
counted : (make : ℕ → Option Line) (digits : List ℕ) (n : ℕ) → IsNumber digits n → option_and_then make (decimal_of digits) ≡ make n
counted make digits n h = ap (option_and_then make) (decimal_of-number digits n h)

-- a cause's number is read as the failure of this cause
numbers_cause : (cause : Cause) → fail_of (cause_of (cause_number cause)) ≡ Some (Step (Fail cause))
unfolding cause_of
numbers_cause Source = refl
numbers_cause Service = refl
numbers_cause NextHop = refl
numbers_cause Memory = refl
numbers_cause Deadline = refl
numbers_cause Stopping = refl

-- a text that says a line is read as this line
pub line_of-says : (text : List ℕ) (line : Line) → SaysLine text line → line_of text ≡ Some line
unfolding line_of mark_of numbered_of
line_of-says text (Step (In n)) h = ap line_of h.1 ∙ counted (λ n. Some (Step (In n))) h.0 n h.2
line_of-says text (Step End) h = ap line_of h
line_of-says text (Step (Svc n)) h = ap line_of h.1 ∙ counted (λ n. Some (Step (Svc n))) h.0 n h.2
line_of-says text (Step Stop) h = ap line_of h
line_of-says text (Step Heard) h = ap line_of h
line_of-says text (Step Continue) h = ap line_of h
line_of-says text (Step NoMod) h = ap line_of h
line_of-says text (Step (Mod Body)) h = ap line_of h
line_of-says text (Step (Mod NullBody)) h = ap line_of h
line_of-says text (Step (Ad n)) h = ap line_of h.1 ∙ counted (λ n. Some (Step (Ad n))) h.0 n h.2
line_of-says text (Step AdEnd) h = ap line_of h
line_of-says text (Step (Usr n)) h = ap line_of h.1 ∙ counted (λ n. Some (Step (Usr n))) h.0 n h.2
line_of-says text (Step Done) h = ap line_of h
line_of-says text (Step (Fail cause)) h =
    ap line_of h.1 ∙ counted (λ n. fail_of (cause_of n)) h.0 (cause_number cause) h.2 ∙ numbers_cause cause
line_of-says text (Step Retry) h = ap line_of h
line_of-says text (Need Original n) h = ap line_of h.1 ∙ counted (λ n. Some (Need Original n)) h.0 n h.2
line_of-says text (Need Adapted n) h = ap line_of h.1 ∙ counted (λ n. Some (Need Adapted n)) h.0 n h.2

-- From what is read to what the line says.

-- a text that compares equal to a word is this word
pub text_is : (text word : List ℕ) → bytes_eq text word ≡ true → text ≡ word
text_is text word e = (bytes_eq-Decides text word).0 e

-- the text is the prefix and what comes after it
pub behind-is : (front text rest : List ℕ) → behind front text ≡ Some rest → text ≡ front ++ rest
behind-is front text rest e = by_test (bytes_eq (take (length front) text) front) refl e
  where
    by_test : (b : Bool) → bytes_eq (take (length front) text) front ≡ b
        → cond b (Some (drop (length front) text)) None ≡ Some rest → text ≡ front ++ rest
    by_test true t e =
        let fronts = text_is (take (length front) text) front t in
        let backs : drop (length front) text ≡ rest = cc in
        sym (take-append-drop (length front) text) ∙ ap (λ x. x ++ drop (length front) text) fronts ∙ ap (λ x. front ++ x) backs
    by_test false t e = absurd (cc)

-- the event that is read, of this word or else of the other forms, is what the text says
word_here : (text word : List ℕ) (a event : Event) (other : Option Event) → (text ≡ word → SaysLine text (Step a))
    → (other ≡ Some event → SaysLine text (Step event)) → cond (bytes_eq text word) (Some a) other ≡ Some event → SaysLine text (Step event)
word_here text word a event other says next e = by_test (bytes_eq text word) refl e
  where
    by_test : (b : Bool) → bytes_eq text word ≡ b → cond b (Some a) other ≡ Some event → SaysLine text (Step event)
    by_test true t e = let same : a ≡ event = cc in subst (λ (x : Event). SaysLine text (Step x)) same (says (text_is text word t))
    by_test false t e = next e

-- an event that is read of a word alone is what the text says
mark-says : (text : List ℕ) (event : Event) → mark_of text ≡ Some event → SaysLine text (Step event)
unfolding mark_of
mark-says text event =
    word_here text (codes "end") End event _ (λ e. e)
    (word_here text (codes "stop") Stop event _ (λ e. e)
    (word_here text (codes "heard") Heard event _ (λ e. e)
    (word_here text (codes "100") Continue event _ (λ e. e)
    (word_here text (codes "204") NoMod event _ (λ e. e)
    (word_here text (codes "200") (Mod Body) event _ (λ e. e)
    (word_here text (codes "200 null") (Mod NullBody) event _ (λ e. e)
    (word_here text (codes "adend") AdEnd event _ (λ e. e)
    (word_here text (codes "done") Done event _ (λ e. e)
    (word_here text (codes "retry") Retry event _ (λ e. e)
    (λ e. absurd (cc)))))))))))

-- where the text is this prefix and a number of which the line is made, it says the line
Makes : List ℕ → List ℕ → (ℕ → Option Line) → Line → Type 0
Makes text front make line =
    (digits : List ℕ) (n : ℕ) → text ≡ front ++ digits → IsNumber digits n → make n ≡ Some line → SaysLine text line

-- the line that is read, of a number after this prefix or else of the other forms, is what the text says
number_here : (text front : List ℕ) (make : ℕ → Option Line) (line : Line) (other : Option Line)
    → ((digits : List ℕ) (n : ℕ) → text ≡ front ++ digits → IsNumber digits n → make n ≡ Some line → SaysLine text line)
    → (other ≡ Some line → SaysLine text line) → or_number (behind front text) make other ≡ Some line → SaysLine text line
number_here text front make line other says next e = by_front (behind front text) refl e
  where
    by_number : (digits : List ℕ) → text ≡ front ++ digits
        → (r : Option ℕ) → decimal_of digits ≡ r → option_and_then make r ≡ Some line → SaysLine text line
    by_number digits t None d e = absurd (cc)
    by_number digits t (Some n) d e = says digits n t (number-decimal_of digits n d) e

    by_front : (r : Option (List ℕ)) → behind front text ≡ r → or_number r make other ≡ Some line → SaysLine text line
    by_front None t e = next e
    by_front (Some digits) t e = by_number digits (behind-is front text digits t) (decimal_of digits) refl e

-- numbers that compare equal are equal
same_number : (n k : ℕ) → eqb n k ≡ true → n ≡ k
same_number n k e = grind (arith, nat_tests)

-- a number that is read as a cause, as this one or else as another, is the cause's number
cause_here : (n k : ℕ) (here cause : Cause) (other : Option Cause) → k ≡ cause_number here → (other ≡ Some cause → n ≡ cause_number cause)
    → cond (eqb n k) (Some here) other ≡ Some cause → n ≡ cause_number cause
cause_here n k here cause other is next e = by_test (eqb n k) refl e
  where
    by_test : (b : Bool) → eqb n k ≡ b → cond b (Some here) other ≡ Some cause → n ≡ cause_number cause
    by_test true t e = let same : here ≡ cause = cc in same_number n k t ∙ is ∙ ap cause_number same
    by_test false t e = next e

-- a number that is read as a cause is this cause's number
number_of_cause : (n : ℕ) (cause : Cause) → cause_of n ≡ Some cause → n ≡ cause_number cause
unfolding cause_of
number_of_cause n cause =
    cause_here n 1 Source cause _ refl (cause_here n 2 Service cause _ refl (cause_here n 3 NextHop cause _ refl
    (cause_here n 4 Memory cause _ refl (cause_here n 5 Deadline cause _ refl (cause_here n 6 Stopping cause _ refl (λ e. absurd (cc)))))))

-- the line that is read of `fail` and a number is what the text says
fail_here : (n : ℕ) (line : Line) (text digits : List ℕ)
    → text ≡ codes "fail " ++ digits → IsNumber digits n → fail_of (cause_of n) ≡ Some line → SaysLine text line
fail_here n line text digits t h e = by_cause (cause_of n) refl e
  where
    by_cause : (r : Option Cause) → cause_of n ≡ r → fail_of r ≡ Some line → SaysLine text line
    by_cause None c e = absurd (cc)
    by_cause (Some cause) c e =
        let same : Step (Fail cause) ≡ line = cc in
        subst (λ (x : Line). SaysLine text x) same (digits, t, subst (λ (k : ℕ). IsNumber digits k) (number_of_cause n cause c) h)

-- a line that is read with its number is what the text says
numbered-says : (text : List ℕ) (line : Line) → numbered_of text ≡ Some line → SaysLine text line
unfolding numbered_of
numbered-says text line =
    number_here text (codes "in ") (λ n. Some (Step (In n))) line _
    (λ digits n t h e. let same : Step (In n) ≡ line = cc in subst (λ (x : Line). SaysLine text x) same (digits, t, h))
    (number_here text (codes "svc ") (λ n. Some (Step (Svc n))) line _
    (λ digits n t h e. let same : Step (Svc n) ≡ line = cc in subst (λ (x : Line). SaysLine text x) same (digits, t, h))
    (number_here text (codes "ad ") (λ n. Some (Step (Ad n))) line _
    (λ digits n t h e. let same : Step (Ad n) ≡ line = cc in subst (λ (x : Line). SaysLine text x) same (digits, t, h))
    (number_here text (codes "usr ") (λ n. Some (Step (Usr n))) line _
    (λ digits n t h e. let same : Step (Usr n) ≡ line = cc in subst (λ (x : Line). SaysLine text x) same (digits, t, h))
    (number_here text (codes "fail ") (λ n. fail_of (cause_of n)) line _ (λ digits n t h e. fail_here n line text digits t h e)
    (number_here text (codes "need original ") (λ n. Some (Need Original n)) line _
    (λ digits n t h e. let same : Need Original n ≡ line = cc in subst (λ (x : Line). SaysLine text x) same (digits, t, h))
    (number_here text (codes "need adapted ") (λ n. Some (Need Adapted n)) line _
    (λ digits n t h e. let same : Need Adapted n ≡ line = cc in subst (λ (x : Line). SaysLine text x) same (digits, t, h))
    (λ e. absurd (cc))))))))

-- a line that is read is what the text says
pub says-line_of : (text : List ℕ) (line : Line) → line_of text ≡ Some line → SaysLine text line
unfolding line_of
says-line_of text line e = by_mark (mark_of text) refl e
  where
    by_mark : (r : Option Event) → mark_of text ≡ r → step_or r (numbered_of text) ≡ Some line → SaysLine text line
    by_mark None m e = numbered-says text line e
    by_mark (Some event) m e = let same : Step event ≡ line = cc in subst (λ (x : Line). SaysLine text x) same (mark-says text event m)

-- what isn't read says nothing
pub says_nothing : (text : List ℕ) → line_of text ≡ None → (line : Line) → SaysLine text line → ⊥
says_nothing text e line h = let f = line_of-says text line h in absurd (cc)

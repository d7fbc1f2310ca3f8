-- What has to be answered to a text that may begin with a response's head is answered.
use Rattle.std.proofs.Common.{◌≡◌, ◌≢◌, ℕ, ◌≤◌, ◌⊎◌, inl, inr, Bool, false, List, [], ◌++◌, length, drop, Some, None, Result, Ok, Err, refl}
use Rattle.std.proofs.Common.{sym, ap, ◌∙◌, subst, arith}
use Rattle.std.specs.Prelude.{IfOk, IfErr, IsOkAnd}
use Rattle.std.proofs.lemmas.List.{length-map, append-nil}
use Rattle.httparse.specs.Grammar.{ResponseHead, ReadsResponse, print_response, HasNoResponse, NeverHasResponse}
use Rattle.httparse.specs.Spans.{name_and_value, ResponseExceeds, ResponseOverflows}
use Rattle.httparse.proofs.GrammarLemmas.{response_unique}
use Rattle.http_side.specs.declared.head.Head.{Head}
use Rattle.http_side.specs.declared.fault.HttpFault.{HttpFault}
use Rattle.http_side.specs.declared.fault.HttpFault.TheVariants.{More, Bad, TooLong, TooMany, BothLengths, Lengths, Coding, Target, Connect}
use Rattle.http_side.specs.declared.fault.HttpFault.TheVariants.{NoMemory}
use Rattle.http_side.specs.Heads.{ResponseParts, response_parts, judged, unended, response_fault, IsResponseAt}
use Rattle.http_side.specs.Responses.{RefusesAnswer, HasRefusedAnswer, MayRefuseResponse, IsResponseRead, IsUnfinishedResponse}
use Rattle.http_side.specs.Responses.{RefusesResponse}
use Rattle.http_side.proofs.RequestAnswers.{short_is, long_is}

-- ---- one head

-- two responses' heads that a text begins with, both to HEAD or neither, have the same parts and length
pub one_at : (text : List ℕ) (r p : ResponseParts) (n m : ℕ) → IsResponseAt text r n → IsResponseAt text p m → r.to_head ≡ p.to_head
    → (r ≡ p) × (n ≡ m)
one_at text r p n m x y asked =
    let same = (response_unique text x.head y.head (drop n text) (drop m text) x.reads y.reads).0 in (
      sym x.parts_are ∙ ap (λ h. response_parts h r.to_head) same ∙ ap (response_parts y.head) asked ∙ y.parts_are,
      x.len_is ∙ ap (λ h. length (print_response h)) same ∙ sym y.len_is,
    )

-- ---- one fault of a head

abbrev Cause : ResponseParts → HttpFault → Type 0
Cause r f = (response_fault r ≡ Some f) ⊎ ((response_fault r ≡ None) × (f ≡ NoMemory))

-- what refuses a response's head is the first fault of its fields, or, without one, want of memory
cause_of : (r : ResponseParts) (f : HttpFault) → RefusesAnswer r f → Cause r f
cause_of r More w = absurd w
cause_of r Bad w = absurd w
cause_of r TooLong w = absurd w
cause_of r TooMany w = absurd w
cause_of r BothLengths w = absurd w
cause_of r Lengths w = inl w
cause_of r Coding w = inl w
cause_of r Target w = absurd w
cause_of r Connect w = absurd w
cause_of r NoMemory w = inr (w, refl)

-- two options with faults in them are equal only where the faults are
some_same : {x y : HttpFault} → Some x ≡ Some y → x ≡ y
some_same e = cc

-- an option with a fault in it isn't none
some_none : {x : HttpFault} → Some x ≡ None → ⊥
some_none e = cc

-- two faults that refuse a response's head are one, where the second isn't want of memory
one_cause : (r : ResponseParts) (f g : HttpFault) → g ≢ NoMemory → Cause r f → Cause r g → f ≡ g
one_cause r f g other (inl x) (inl y) = some_same (sym x ∙ y)
one_cause r f g other (inl x) (inr y) = absurd (other y.1)
one_cause r f g other (inr x) (inl y) = absurd (some_none (sym y ∙ x.0))
one_cause r f g other (inr x) (inr y) = absurd (other y.1)

-- ---- what a text begins with

-- a text that no bytes make a response's head has none yet
never_here : (text : List ℕ) → NeverHasResponse text → HasNoResponse text
never_here text never = subst HasNoResponse (append-nil text) (never [])

abbrev Answer : List ℕ → HttpFault → Type 0
Answer text f =
    ((f ≡ unended (length text)) × IsUnfinishedResponse (judged text)) ⊎ ((f ≡ Bad) × NeverHasResponse (judged text))
    ⊎ ((f ≡ TooMany) × ResponseExceeds 100 (judged text) × ResponseOverflows 100 (judged text)) ⊎ HasRefusedAnswer (judged text) f

-- a response that may be refused is unended, no head, one of too many fields, or begins with a refused head
answer_of : (text : List ℕ) (f : HttpFault) → MayRefuseResponse text f → Answer text f
answer_of text More w = inl (short_is (length text) w.1, w.0)
answer_of text Bad w = inr (inl (refl, w))
answer_of text TooLong w = inl (long_is (length text) w.1, w.0)
answer_of text TooMany w = inr (inr (inl (refl, w.0, w.1)))
answer_of text BothLengths w = inr (inr (inr w))
answer_of text Lengths w = inr (inr (inr w))
answer_of text Coding w = inr (inr (inr w))
answer_of text Target w = inr (inr (inr w))
answer_of text Connect w = inr (inr (inr w))
answer_of text NoMemory w = inr (inr (inr w))

-- a head that is there agrees with what stands
with_head : (text : List ℕ) (h : ResponseHead) (rest : List ℕ) → ReadsResponse (judged text) h rest → length h.fields ≤ 100
    → (g : HttpFault) → RefusesResponse text g → (g ≢ NoMemory) × Cause (response_parts h false) g
with_head text h rest reads few g (inl s) = absurd (s.1.0 h rest reads)
with_head text h rest reads few g (inr (inl s)) = absurd (never_here (judged text) s.1.0 h rest reads)
with_head text h rest reads few g (inr (inr (inl s))) =
    let same = (response_unique (judged text) h s.1.0 rest s.1.1 reads s.1.2).0 in
    absurd (omega (arith, ap (λ x. length x.fields) same, s.1.3))
with_head text h rest reads few g (inr (inr (inr s))) =
    let same = (response_unique (judged text) s.1.0 h s.1.1 rest s.1.2 reads).0 in
    (s.0, subst (λ x. Cause (response_parts x false) g) same (cause_of (response_parts s.1.0 false) g s.1.4))

-- what a response may be refused for is what it has to be refused for
agrees : (text : List ℕ) (f g : HttpFault) → Answer text f → RefusesResponse text g → f ≡ g
agrees text f g (inl x) (inl y) = x.0 ∙ sym y.0
agrees text f g (inl x) (inr (inl y)) = let may = x.1.1 in absurd (y.1.0 may.0 may.1 [] may.2)
agrees text f g (inl x) (inr (inr (inl y))) = absurd (x.1.0 y.1.0 y.1.1 y.1.2)
agrees text f g (inl x) (inr (inr (inr y))) = absurd (x.1.0 y.1.0 y.1.1 y.1.2)
agrees text f g (inr (inl x)) (inl y) = absurd (x.1 y.1.1.0 y.1.1.1 [] y.1.1.2)
agrees text f g (inr (inl x)) (inr (inl y)) = x.0 ∙ sym y.0
agrees text f g (inr (inl x)) (inr (inr (inl y))) = absurd (never_here (judged text) x.1 y.1.0 y.1.1 y.1.2)
agrees text f g (inr (inl x)) (inr (inr (inr y))) = absurd (never_here (judged text) x.1 y.1.0 y.1.1 y.1.2)
agrees text f g (inr (inr (inl x))) (inl y) = absurd (omega (arith, x.2 y.1.1.0 y.1.1.1 [] y.1.1.2, y.1.1.3))
agrees text f g (inr (inr (inl x))) (inr (inl y)) = absurd (y.1.1 x.1)
agrees text f g (inr (inr (inl x))) (inr (inr (inl y))) = x.0 ∙ sym y.0
agrees text f g (inr (inr (inl x))) (inr (inr (inr y))) =
    let reads : ReadsResponse (judged text ++ []) y.1.0 y.1.1 =
    subst (λ t. ReadsResponse t y.1.0 y.1.1) (sym (append-nil (judged text))) y.1.2 in
    absurd (omega (arith, x.2 [] y.1.0 y.1.1 reads, y.1.3))
agrees text f g (inr (inr (inr x))) y =
    let it = with_head text x.0 x.1 x.2 x.3 g y in
    one_cause (response_parts x.0 false) f g it.0 (cause_of (response_parts x.0 false) f x.4) it.1

-- a response's head has at most 100 fields where its parts have
pub few_of : (text : List ℕ) (r : ResponseParts) (n : ℕ) (at : IsResponseAt text r n) → length r.fields ≤ 100 → length at.head.fields ≤ 100
few_of text r n at few = omega (arith, length-map at.head.fields name_and_value, ap (λ x. length x.fields) at.parts_are)

-- a text whose head is read as a response hasn't to be refused
not_read : (to_head : Bool) (text : List ℕ) (r : ResponseParts) (n : ℕ) (g : HttpFault) → IsResponseRead to_head text r n
    → RefusesResponse text g → ⊥
not_read to_head text r n g read stands =
    let at = read.there in
    let it = with_head text at.head (drop n (judged text)) at.reads (few_of (judged text) r n at read.few) g stands in
    let none : response_fault (response_parts at.head r.to_head) ≡ None = ap response_fault at.parts_are ∙ read.no_fault in
    not_taken (response_parts at.head false) none it.0 it.1
  where
    not_taken : (p : ResponseParts) → response_fault p ≡ None → g ≢ NoMemory → Cause p g → ⊥
    not_taken p none other (inl x) = some_none (sym x ∙ none)
    not_taken p none other (inr x) = other x.1

-- ---- the answers

-- a response that has to be refused for a fault is answered with that fault
pub fault_told : (to_head : Bool) (text : List ℕ) (result : Result (Head ResponseParts) HttpFault)
    → IfOk result (λ head. IsResponseRead to_head text head.value head.length)
    → IfErr result (MayRefuseResponse text) → (g : HttpFault) → RefusesResponse text g → result ≡ Err g
fault_told to_head text (Ok head) read refused g stands = absurd (not_read to_head text head.value head.length g read stands)
fault_told to_head text (Err f) read refused g stands = ap Err (agrees text f g (answer_of text f refused) stands)

-- a text whose response's head is read may be refused only for want of memory
refused_read : (to_head : Bool) (text : List ℕ) (f : HttpFault) (r : ResponseParts) (n : ℕ) → Answer text f
    → IsResponseRead to_head text r n → f ≡ NoMemory
refused_read to_head text f r n (inl x) read = absurd (x.1.0 read.there.head (drop n (judged text)) read.there.reads)
refused_read to_head text f r n (inr (inl x)) read =
    absurd (never_here (judged text) x.1 read.there.head (drop n (judged text)) read.there.reads)
refused_read to_head text f r n (inr (inr (inl x))) read =
    let at = read.there in
    let reads : ReadsResponse (judged text ++ []) at.head (drop n (judged text)) =
    subst (λ t. ReadsResponse t at.head (drop n (judged text))) (sym (append-nil (judged text))) at.reads in
    absurd (omega (arith, x.2 [] at.head (drop n (judged text)) reads, few_of (judged text) r n at read.few))
refused_read to_head text f r n (inr (inr (inr x))) read =
    let at = read.there in
    let same = (response_unique (judged text) x.0 at.head x.1 (drop n (judged text)) x.2 at.reads).0 in
    memory (cause_of (response_parts x.0 false) f x.4) (ap (λ h. response_fault (response_parts h r.to_head)) same
    ∙ ap response_fault at.parts_are ∙ read.no_fault)
  where
    memory : Cause (response_parts x.0 false) f → response_fault (response_parts x.0 r.to_head) ≡ None → f ≡ NoMemory
    memory (inl c) none = absurd (some_none (sym c ∙ none))
    memory (inr c) none = c.1

-- a text whose response's head is read is answered with it and its length, or with want of memory
pub head_told : (to_head : Bool) (text : List ℕ) (result : Result (Head ResponseParts) HttpFault)
    → IfOk result (λ head. IsResponseRead to_head text head.value head.length)
    → IfErr result (MayRefuseResponse text) → (r : ResponseParts) (n : ℕ) → IsResponseRead to_head text r n
    → (result ≡ Err NoMemory) ⊎ IsOkAnd result (λ head. (head.value ≡ r) × (head.length ≡ n))
head_told to_head text (Ok head) read refused r n there =
    inr (one_at (judged text) head.value r head.length n read.there there.there (read.asked ∙ sym there.asked))
head_told to_head text (Err f) read refused r n there = inl (ap Err (refused_read to_head text f r n (answer_of text f refused) there))

-- ---- one answer

-- a text that has to be refused has no head that is read as a response
pub head_or_fault : (to_head : Bool) (text : List ℕ) (r : ResponseParts) (n : ℕ) (g : HttpFault) → RefusesResponse text g
    → ¬ (IsResponseRead to_head text r n)
head_or_fault to_head text r n g stands read = not_read to_head text r n g read stands

-- a text has to be refused as a response for one fault at most
pub one_fault : (text : List ℕ) (f g : HttpFault) → RefusesResponse text f → RefusesResponse text g → f ≡ g
one_fault text f g (inl x) (inl y) = x.0 ∙ sym y.0
one_fault text f g (inl x) (inr (inl y)) = absurd (y.1.0 x.1.1.0 x.1.1.1 [] x.1.1.2)
one_fault text f g (inl x) (inr (inr (inl y))) = absurd (x.1.0 y.1.0 y.1.1 y.1.2)
one_fault text f g (inr (inl x)) (inl y) = absurd (x.1.0 y.1.1.0 y.1.1.1 [] y.1.1.2)
one_fault text f g (inr (inl x)) (inr (inl y)) = x.0 ∙ sym y.0
one_fault text f g (inr (inl x)) (inr (inr (inl y))) = absurd (never_here (judged text) x.1.0 y.1.0 y.1.1 y.1.2)
one_fault text f g (inr (inr (inl x))) (inl y) = absurd (y.1.0 x.1.0 x.1.1 x.1.2)
one_fault text f g (inr (inr (inl x))) (inr (inl y)) = absurd (never_here (judged text) y.1.0 x.1.0 x.1.1 x.1.2)
one_fault text f g (inr (inr (inl x))) (inr (inr (inl y))) = x.0 ∙ sym y.0
one_fault text f g (inr (inr (inr x))) y =
    let it = with_head text x.1.0 x.1.1 x.1.2 x.1.3 g y in
    one_cause (response_parts x.1.0 false) f g it.0 (cause_of (response_parts x.1.0 false) f x.1.4) it.1
one_fault text f g x (inr (inr (inr y))) =
    let it = with_head text y.1.0 y.1.1 y.1.2 y.1.3 f x in
    sym (one_cause (response_parts y.1.0 false) g f it.0 (cause_of (response_parts y.1.0 false) g y.1.4) it.1)

-- What has to be answered to a text that may begin with a request's head is answered.
use Rattle.std.proofs.Common.{◌≡◌, ◌≢◌, ℕ, ◌<◌, ◌≤◌, ◌⊎◌, inl, inr, Bool, true, false, List, [], ◌++◌, length, drop, Some, None, Result, Ok}
use Rattle.std.proofs.Common.{Err, refl, sym, ap, ◌∙◌, subst, arith, lt-ltb, le-ltb}
use Rattle.std.specs.Prelude.{IfOk, IfErr, IsOkAnd}
use Rattle.std.proofs.lemmas.List.{length-map, append-nil}
use Rattle.httparse.specs.Grammar.{RequestHead, ReadsRequest, print_request, HasNoRequest, NeverHasRequest, MayBecomeRequest}
use Rattle.httparse.specs.Spans.{name_and_value, RequestExceeds, RequestOverflows}
use Rattle.httparse.proofs.GrammarLemmas.{request_unique}
use Rattle.http_side.specs.declared.head.Head.{Head}
use Rattle.http_side.specs.declared.fault.HttpFault.{HttpFault}
use Rattle.http_side.specs.declared.fault.HttpFault.TheVariants.{More, Bad, TooLong, TooMany, BothLengths, Lengths, Coding, Target, Connect}
use Rattle.http_side.specs.declared.fault.HttpFault.TheVariants.{NoMemory}
use Rattle.http_side.specs.Heads.{RequestParts, request_parts, judged, unended, request_fault, is_connect, IsRequestAt}
use Rattle.http_side.specs.Targets.{IsServedIn}
use Rattle.http_side.specs.Requests.{Refuses, HasRefused, MayRefuseRequest, IsTaken, IsRead, IsUnfinished, RefusesRequest}

-- ---- one head

-- two requests' heads that a text begins with have the same parts and length
pub one_at : (text : List ℕ) (r p : RequestParts) (n m : ℕ) → IsRequestAt text r n → IsRequestAt text p m → (r ≡ p) × (n ≡ m)
one_at text r p n m x y =
    let same = (request_unique text x.head y.head (drop n text) (drop m text) x.reads y.reads).0 in
    (sym x.parts_are ∙ ap request_parts same ∙ y.parts_are, x.len_is ∙ ap (λ h. length (print_request h)) same ∙ sym y.len_is)

-- ---- one fault of a head

abbrev Late : Bool → RequestParts → HttpFault → Type 0
Late adapted r f =
    ((f ≡ Connect) × (is_connect r ≡ true)) ⊎ ((f ≡ Target) × (is_connect r ≡ false) × (IsServedIn adapted r → ⊥))
    ⊎ ((f ≡ NoMemory) × (is_connect r ≡ false))

abbrev Cause : Bool → RequestParts → HttpFault → Type 0
Cause adapted r f = (request_fault r ≡ Some f) ⊎ ((request_fault r ≡ None) × Late adapted r f)

-- what refuses a head is its first fault, or, without one, CONNECT, its target or want of memory
cause_of : (adapted : Bool) (r : RequestParts) (f : HttpFault) → Refuses adapted r f → Cause adapted r f
cause_of adapted r More w = absurd w
cause_of adapted r Bad w = inl w
cause_of adapted r TooLong w = absurd w
cause_of adapted r TooMany w = absurd w
cause_of adapted r BothLengths w = inl w
cause_of adapted r Lengths w = inl w
cause_of adapted r Coding w = inl w
cause_of adapted r Target w = inr (w.0, inr (inl (refl, w.1, w.2)))
cause_of adapted r Connect w = inr (w.0, inl (refl, w.1))
cause_of adapted r NoMemory w = inr (w.0, inr (inr (refl, w.1)))

-- what may be answered where the second stands: this, or want of memory in place of Target
abbrev pub Allowed : HttpFault → HttpFault → Type 0
Allowed f g = (f ≡ g) ⊎ ((g ≡ Target) × (f ≡ NoMemory))

-- two equal options that hold faults hold one fault
some_same : {x y : HttpFault} → Some x ≡ Some y → x ≡ y
some_same e = cc

-- an option that holds a fault isn't none
some_none : {x : HttpFault} → Some x ≡ None → ⊥
some_none e = cc

-- true isn't false
differ : true ≡ false → ⊥
differ e = cc

-- of two faults after those of the fields, the first may be answered for a second that isn't want of memory
late_one : (adapted : Bool) (r : RequestParts) (f g : HttpFault) → g ≢ NoMemory → Late adapted r f → Late adapted r g → Allowed f g
late_one adapted r f g other (inl x) (inl y) = inl (x.0 ∙ sym y.0)
late_one adapted r f g other (inl x) (inr (inl y)) = absurd (differ (sym x.1 ∙ y.1))
late_one adapted r f g other (inr (inl x)) (inl y) = absurd (differ (sym y.1 ∙ x.1))
late_one adapted r f g other (inr (inl x)) (inr (inl y)) = inl (x.0 ∙ sym y.0)
late_one adapted r f g other (inr (inr x)) (inl y) = absurd (differ (sym y.1 ∙ x.1))
late_one adapted r f g other (inr (inr x)) (inr (inl y)) = inr (y.0, x.0)
late_one adapted r f g other (inl x) (inr (inr y)) = absurd (other y.0)
late_one adapted r f g other (inr (inl x)) (inr (inr y)) = absurd (other y.0)
late_one adapted r f g other (inr (inr x)) (inr (inr y)) = absurd (other y.0)

-- of two faults that refuse a head, the first may be answered for the second, unless that is want of memory
one_cause : (adapted : Bool) (r : RequestParts) (f g : HttpFault) → g ≢ NoMemory → Cause adapted r f → Cause adapted r g → Allowed f g
one_cause adapted r f g other (inl x) (inl y) = inl (some_same (sym x ∙ y))
one_cause adapted r f g other (inl x) (inr y) = absurd (some_none (sym x ∙ y.0))
one_cause adapted r f g other (inr x) (inl y) = absurd (some_none (sym y ∙ x.0))
one_cause adapted r f g other (inr x) (inr y) = late_one adapted r f g other x.1 y.1

-- a head that is taken is refused for nothing but want of memory
not_taken : (adapted : Bool) (r : RequestParts) (f : HttpFault) → f ≢ NoMemory → IsTaken adapted r → Cause adapted r f → ⊥
not_taken adapted r f other t (inl x) = some_none (sym x ∙ t.no_fault)
not_taken adapted r f other t (inr (none, inl x)) = differ (sym x.1 ∙ t.no_connect)
not_taken adapted r f other t (inr (none, inr (inl x))) = x.2 t.served
not_taken adapted r f other t (inr (none, inr (inr x))) = other x.0

-- ---- what a text begins with

-- a text that no bytes make a request's head has none yet
never_here : (text : List ℕ) → NeverHasRequest text → HasNoRequest text
never_here text never = subst HasNoRequest (append-nil text) (never [])

abbrev Answer : Bool → List ℕ → HttpFault → Type 0
Answer adapted text f =
    ((f ≡ unended (length text)) × IsUnfinished (judged text)) ⊎ ((f ≡ Bad) × NeverHasRequest (judged text))
    ⊎ ((f ≡ TooMany) × RequestExceeds 100 (judged text) × RequestOverflows 100 (judged text)) ⊎ HasRefused adapted (judged text) f

-- of an unended text of fewer than 16,384 bytes more may come
pub short_is : (n : ℕ) → n < 16384 → More ≡ unended n
short_is n l = rw (lt-ltb n 16384 l) refl

-- an unended text of 16,384 bytes or more is too long
pub long_is : (n : ℕ) → 16384 ≤ n → TooLong ≡ unended n
long_is n l = rw (le-ltb n 16384 l) refl

-- a text that may be refused is unended, no head, one of too many fields, or begins with a refused head
answer_of : (adapted : Bool) (text : List ℕ) (f : HttpFault) → MayRefuseRequest adapted text f → Answer adapted text f
answer_of adapted text More w = inl (short_is (length text) w.1, w.0)
answer_of adapted text Bad (inl w) = inr (inl (refl, w))
answer_of adapted text Bad (inr w) = inr (inr (inr w))
answer_of adapted text TooLong w = inl (long_is (length text) w.1, w.0)
answer_of adapted text TooMany w = inr (inr (inl (refl, w.0, w.1)))
answer_of adapted text BothLengths w = inr (inr (inr w))
answer_of adapted text Lengths w = inr (inr (inr w))
answer_of adapted text Coding w = inr (inr (inr w))
answer_of adapted text Target w = inr (inr (inr w))
answer_of adapted text Connect w = inr (inr (inr w))
answer_of adapted text NoMemory w = inr (inr (inr w))

-- a head that is there agrees with what stands
with_head : (adapted : Bool) (text : List ℕ) (h : RequestHead) (rest : List ℕ) → ReadsRequest (judged text) h rest → length h.fields ≤ 100
    → (g : HttpFault) → RefusesRequest adapted text g → (g ≢ NoMemory) × Cause adapted (request_parts h) g
with_head adapted text h rest reads few g (inl s) = absurd (s.1.0 h rest reads)
with_head adapted text h rest reads few g (inr (inl s)) = absurd (never_here (judged text) s.1.0 h rest reads)
with_head adapted text h rest reads few g (inr (inr (inl s))) =
    let same = (request_unique (judged text) h s.1.0 rest s.1.1 reads s.1.2).0 in
    absurd (omega (arith, ap (λ x. length x.fields) same, s.1.3))
with_head adapted text h rest reads few g (inr (inr (inr s))) =
    let same = (request_unique (judged text) s.1.0 h s.1.1 rest s.1.2 reads).0 in
    (s.0, subst (λ x. Cause adapted (request_parts x) g) same (cause_of adapted (request_parts s.1.0) g s.1.4))

-- what a text may be refused for is what it has to be, or want of memory in place of Target
agrees : (adapted : Bool) (text : List ℕ) (f g : HttpFault) → Answer adapted text f → RefusesRequest adapted text g → Allowed f g
agrees adapted text f g (inl x) (inl y) = inl (x.0 ∙ sym y.0)
agrees adapted text f g (inl x) (inr (inl y)) = absurd (may x.1.1)
  where
    may : MayBecomeRequest (judged text) → ⊥
    may (inl m) = y.1.0 m.0 m.1 [] m.2
    may (inr ends) = y.1.1 ends
agrees adapted text f g (inl x) (inr (inr (inl y))) = absurd (x.1.0 y.1.0 y.1.1 y.1.2)
agrees adapted text f g (inl x) (inr (inr (inr y))) = absurd (x.1.0 y.1.0 y.1.1 y.1.2)
agrees adapted text f g (inr (inl x)) (inl y) = absurd (x.1 y.1.1.0 y.1.1.1 [] y.1.1.2)
agrees adapted text f g (inr (inl x)) (inr (inl y)) = inl (x.0 ∙ sym y.0)
agrees adapted text f g (inr (inl x)) (inr (inr (inl y))) = absurd (never_here (judged text) x.1 y.1.0 y.1.1 y.1.2)
agrees adapted text f g (inr (inl x)) (inr (inr (inr y))) = absurd (never_here (judged text) x.1 y.1.0 y.1.1 y.1.2)
agrees adapted text f g (inr (inr (inl x))) (inl y) = absurd (omega (arith, x.2 y.1.1.0 y.1.1.1 [] y.1.1.2, y.1.1.3))
agrees adapted text f g (inr (inr (inl x))) (inr (inl y)) = absurd (y.1.2 x.1)
agrees adapted text f g (inr (inr (inl x))) (inr (inr (inl y))) = inl (x.0 ∙ sym y.0)
agrees adapted text f g (inr (inr (inl x))) (inr (inr (inr y))) =
    let reads : ReadsRequest (judged text ++ []) y.1.0 y.1.1 =
    subst (λ t. ReadsRequest t y.1.0 y.1.1) (sym (append-nil (judged text))) y.1.2 in
    absurd (omega (arith, x.2 [] y.1.0 y.1.1 reads, y.1.3))
agrees adapted text f g (inr (inr (inr x))) y =
    let it = with_head adapted text x.0 x.1 x.2 x.3 g y in
    one_cause adapted (request_parts x.0) f g it.0 (cause_of adapted (request_parts x.0) f x.4) it.1

-- a request's head has at most 100 fields where its parts have
pub few_of : (text : List ℕ) (r : RequestParts) (n : ℕ) (at : IsRequestAt text r n) → length r.fields ≤ 100 → length at.head.fields ≤ 100
few_of text r n at few = omega (arith, length-map at.head.fields name_and_value, ap (λ x. length x.fields) at.parts_are)

-- a text whose head is read as a request hasn't to be refused
not_read : (adapted : Bool) (text : List ℕ) (r : RequestParts) (n : ℕ) (g : HttpFault) → IsRead adapted text r n
    → RefusesRequest adapted text g → ⊥
not_read adapted text r n g read stands =
    let at = read.there in
    let it = with_head adapted text at.head (drop n (judged text)) at.reads (few_of (judged text) r n at read.few) g stands in
    not_taken adapted r g it.0 read.taken (subst (λ x. Cause adapted x g) at.parts_are it.1)

-- ---- the answers

abbrev pub Told : Result (Head RequestParts) HttpFault → HttpFault → Type 0
Told result g = (result ≡ Err g) ⊎ ((g ≡ Target) × (result ≡ Err NoMemory))

-- a text that has to be refused is answered so, or, in place of Target, with want of memory
pub fault_told : (adapted : Bool) (text : List ℕ) (result : Result (Head RequestParts) HttpFault)
    → IfOk result (λ head. IsRead adapted text head.value head.length)
    → IfErr result (MayRefuseRequest adapted text) → (g : HttpFault) → RefusesRequest adapted text g → Told result g
fault_told adapted text (Ok head) read refused g stands = absurd (not_read adapted text head.value head.length g read stands)
fault_told adapted text (Err f) read refused g stands = told (agrees adapted text f g (answer_of adapted text f refused) stands)
  where
    told : Allowed f g → Told (Err f) g
    told (inl same) = inl (ap Err same)
    told (inr other) = inr (other.0, ap Err other.1)

-- a text whose head is read may be refused only for want of memory
refused_read : (adapted : Bool) (text : List ℕ) (f : HttpFault) (r : RequestParts) (n : ℕ) → Answer adapted text f → IsRead adapted text r n
    → f ≡ NoMemory
refused_read adapted text f r n (inl x) read = absurd (x.1.0 read.there.head (drop n (judged text)) read.there.reads)
refused_read adapted text f r n (inr (inl x)) read =
    absurd (never_here (judged text) x.1 read.there.head (drop n (judged text)) read.there.reads)
refused_read adapted text f r n (inr (inr (inl x))) read =
    let at = read.there in
    let reads : ReadsRequest (judged text ++ []) at.head (drop n (judged text)) =
    subst (λ t. ReadsRequest t at.head (drop n (judged text))) (sym (append-nil (judged text))) at.reads in
    absurd (omega (arith, x.2 [] at.head (drop n (judged text)) reads, few_of (judged text) r n at read.few))
refused_read adapted text f r n (inr (inr (inr x))) read =
    let at = read.there in
    let same = (request_unique (judged text) x.0 at.head x.1 (drop n (judged text)) x.2 at.reads).0 in
    let cause = subst (λ p. Cause adapted p f) (ap request_parts same ∙ at.parts_are) (cause_of adapted (request_parts x.0) f x.4) in
    memory cause
  where
    memory : Cause adapted r f → f ≡ NoMemory
    memory (inl c) = absurd (some_none (sym c ∙ read.taken.no_fault))
    memory (inr (none, inl c)) = absurd (differ (sym c.1 ∙ read.taken.no_connect))
    memory (inr (none, inr (inl c))) = absurd (c.2 read.taken.served)
    memory (inr (none, inr (inr c))) = c.0

-- a text whose head is read is answered with it and its length, or with want of memory
pub head_told : (adapted : Bool) (text : List ℕ) (result : Result (Head RequestParts) HttpFault)
    → IfOk result (λ head. IsRead adapted text head.value head.length)
    → IfErr result (MayRefuseRequest adapted text) → (r : RequestParts) (n : ℕ) → IsRead adapted text r n
    → (result ≡ Err NoMemory) ⊎ IsOkAnd result (λ head. (head.value ≡ r) × (head.length ≡ n))
head_told adapted text (Ok head) read refused r n there = inr (one_at (judged text) head.value r head.length n read.there there.there)
head_told adapted text (Err f) read refused r n there =
    inl (ap Err (refused_read adapted text f r n (answer_of adapted text f refused) there))

-- ---- one answer

-- a text that has to be refused has no head that is read as a request
pub head_or_fault : (adapted : Bool) (text : List ℕ) (r : RequestParts) (n : ℕ) (g : HttpFault) → RefusesRequest adapted text g
    → ¬ (IsRead adapted text r n)
head_or_fault adapted text r n g stands read = not_read adapted text r n g read stands

-- what may be answered for a fault, other than want of memory, is that fault
same_fault : (f g : HttpFault) → f ≢ NoMemory → Allowed f g → f ≡ g
same_fault f g other (inl same) = same
same_fault f g other (inr memory) = absurd (other memory.1)

-- a text has to be refused as a request for one fault at most
pub one_fault : (adapted : Bool) (text : List ℕ) (f g : HttpFault) → RefusesRequest adapted text f → RefusesRequest adapted text g → f ≡ g
one_fault adapted text f g (inl x) (inl y) = x.0 ∙ sym y.0
one_fault adapted text f g (inl x) (inr (inl y)) = absurd (y.1.0 x.1.1.0 x.1.1.1 [] x.1.1.2)
one_fault adapted text f g (inl x) (inr (inr (inl y))) = absurd (x.1.0 y.1.0 y.1.1 y.1.2)
one_fault adapted text f g (inr (inl x)) (inl y) = absurd (x.1.0 y.1.1.0 y.1.1.1 [] y.1.1.2)
one_fault adapted text f g (inr (inl x)) (inr (inl y)) = x.0 ∙ sym y.0
one_fault adapted text f g (inr (inl x)) (inr (inr (inl y))) = absurd (never_here (judged text) x.1.0 y.1.0 y.1.1 y.1.2)
one_fault adapted text f g (inr (inr (inl x))) (inl y) = absurd (y.1.0 x.1.0 x.1.1 x.1.2)
one_fault adapted text f g (inr (inr (inl x))) (inr (inl y)) = absurd (never_here (judged text) y.1.0 x.1.0 x.1.1 x.1.2)
one_fault adapted text f g (inr (inr (inl x))) (inr (inr (inl y))) = x.0 ∙ sym y.0
one_fault adapted text f g (inr (inr (inr x))) y =
    let it = with_head adapted text x.1.0 x.1.1 x.1.2 x.1.3 g y in
    same_fault f g x.0 (one_cause adapted (request_parts x.1.0) f g it.0 (cause_of adapted (request_parts x.1.0) f x.1.4) it.1)
one_fault adapted text f g x (inr (inr (inr y))) =
    let it = with_head adapted text y.1.0 y.1.1 y.1.2 y.1.3 f x in
    sym (same_fault g f y.0 (one_cause adapted (request_parts y.1.0) g f it.0 (cause_of adapted (request_parts y.1.0) g y.1.4) it.1))

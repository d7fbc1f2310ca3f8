-- A head stays whatever follows, and each beginning of it is unfinished; where one fault stands, no other does.
use Rattle.std.proofs.Common.{◌≡◌, ℕ, ◌+◌, ◌-◌, ◌<◌, ◌≤◌, inl, inr, Bool, List, [], ◌∷◌, ◌++◌, length, take, drop, zero, suc, refl, sym, ap}
use Rattle.std.proofs.Common.{◌∙◌, subst, arith, length-append, length-take, take_all}
use Rattle.std.proofs.lemmas.List.{append-nil, take-append-drop, take-append-le}
use Rattle.std.proofs.lemmas.Bool.{cases_lt}
use Rattle.std.proofs.Math.Seq.{drop-append_seam, take-append-add}
use Rattle.httparse.specs.Grammar.{ReadsRequest, ReadsResponse, print_request, print_response}
use Rattle.httparse.proofs.GrammarLemmas.{request_unique, ReadsRequest-append, response_unique, ReadsResponse-append}
use Rattle.http_side.specs.declared.fault.HttpFault.TheVariants.{More}
use Rattle.http_side.specs.Heads.{RequestParts, ResponseParts, judged}
use Rattle.http_side.specs.Requests.{IsRead, AwaitsRequest, RefusesRequest}
use Rattle.http_side.specs.Responses.{IsResponseRead, AwaitsResponse, RefusesResponse}
use Rattle.http_side.proofs.RequestAnswers.{few_of, short_is}
use Rattle.http_side.proofs.ResponseAnswers.{few_of as few_of_response}

-- what is judged of a text stays when more follows
judged-append : (text more : List ℕ) → (extra : List ℕ) × (judged (text ++ more) ≡ judged text ++ extra)
judged-append text more = elim (cases_lt (length text) 16384) [
  | inl short ↦ (
    take (16384 - length text) more,
    ap (λ n. take n (text ++ more)) (let e : 16384 ≡ length text + (16384 - length text) = omega (arith, short) in e)
        ∙ take-append-add text more (16384 - length text) ∙ ap (λ t. t ++ take (16384 - length text) more)
        (sym (take_all 16384 text (omega (arith, short)))),
  )
  | inr long ↦ ([], take-append-le 16384 text more (omega (arith, long)) ∙ sym (append-nil (judged text)))
]

-- the rest after a head is what comes after its bytes
behind : (text p rest : List ℕ) (n : ℕ) → text ≡ p ++ rest → n ≡ length p → drop n text ≡ rest
behind text p rest n e l = ap (drop n) e ∙ ap (λ k. drop k (p ++ rest)) l ∙ drop-append_seam p rest

-- a request's head that is read stays the same whatever bytes follow
pub request_stays : (adapted : Bool) (text more : List ℕ) (r : RequestParts) (n : ℕ) → IsRead adapted text r n
    → IsRead adapted (text ++ more) r n
request_stays adapted text more r n read =
    let at = read.there in
    let extra = judged-append text more in
    let longer = ReadsRequest-append (judged text) at.head (drop n (judged text)) extra.0 at.reads in
    let here : ReadsRequest (judged (text ++ more)) at.head (drop n (judged text) ++ extra.0) =
    subst (λ t. ReadsRequest t at.head (drop n (judged text) ++ extra.0)) (sym extra.1) longer in
    let rest : drop n (judged (text ++ more)) ≡ drop n (judged text) ++ extra.0 =
    behind (judged (text ++ more)) (print_request at.head) (drop n (judged text) ++ extra.0) n here.1 at.len_is in
    record {
      there = record {
        head = at.head;
        reads = subst (λ t. ReadsRequest (judged (text ++ more)) at.head t) (sym rest) here;
        len_is = at.len_is;
        parts_are = at.parts_are;
      };
      few = read.few;
      taken = read.taken;
    }

-- a response's head that is read stays the same whatever bytes follow
pub response_stays : (to_head : Bool) (text more : List ℕ) (r : ResponseParts) (n : ℕ) → IsResponseRead to_head text r n
    → IsResponseRead to_head (text ++ more) r n
response_stays to_head text more r n read =
    let at = read.there in
    let extra = judged-append text more in
    let longer = ReadsResponse-append (judged text) at.head (drop n (judged text)) extra.0 at.reads in
    let here : ReadsResponse (judged (text ++ more)) at.head (drop n (judged text) ++ extra.0) =
    subst (λ t. ReadsResponse t at.head (drop n (judged text) ++ extra.0)) (sym extra.1) longer in
    let rest : drop n (judged (text ++ more)) ≡ drop n (judged text) ++ extra.0 =
    behind (judged (text ++ more)) (print_response at.head) (drop n (judged text) ++ extra.0) n here.1 at.len_is in
    record {
      there = record {
        head = at.head;
        reads = subst (λ t. ReadsResponse (judged (text ++ more)) at.head t) (sym rest) here;
        len_is = at.len_is;
        parts_are = at.parts_are;
      };
      few = read.few;
      asked = read.asked;
      no_fault = read.no_fault;
    }

-- ---- beginnings

-- a prefix of a longer prefix of a text is a prefix of the text itself
front_take : (n k : ℕ) (xs : List ℕ) → k ≤ n → take k (take n xs) ≡ take k xs
front_take n zero xs l = refl
front_take zero (suc k) xs l = absurd (omega arith)
front_take (suc n) (suc k) [] l = refl
front_take (suc n) (suc k) (x ∷ xs) l = ap (λ t. x ∷ t) (front_take n k xs (omega arith))

-- a cut in the bytes p that a text begins with
record Cut (text p rest : List ℕ) (cut : ℕ) : Type 0 where
  small : cut < 16384
  whole : judged (take cut text) ≡ take cut text
  front : take cut text ≡ take cut p
  joined : take cut text ++ drop cut (judged text) ≡ judged text
  size : length (take cut text) ≤ cut

-- a cut within the head that a text begins with leaves fewer than 16,384 bytes, a prefix of the head
cut_of : (text p rest : List ℕ) (cut : ℕ) → judged text ≡ p ++ rest → cut < length p → Cut text p rest cut
cut_of text p rest cut e l =
    let room : length p ≤ 16384 = omega (arith, ap length e, length-append p rest, length-take 16384 text) in
    let small : cut < 16384 = omega (arith, l, room) in
    let inner : take cut (judged text) ≡ take cut text = front_take 16384 cut text (omega (arith, small)) in
    let size : length (take cut text) ≤ cut = omega (arith, length-take cut text) in
    record {
      small = small;
      whole = take_all 16384 (take cut text) (omega (arith, size, small));
      front = sym inner ∙ ap (take cut) e ∙ take-append-le cut p rest (omega (arith, l));
      joined = ap (λ t. t ++ drop cut (judged text)) (sym inner) ∙ take-append-drop cut (judged text);
      size = size;
    }

-- a text that is cut within its request's head has to be answered that more may come
pub request_beginning : (adapted : Bool) (text : List ℕ) (r : RequestParts) (n cut : ℕ) → IsRead adapted text r n → cut < n
    → RefusesRequest adapted (take cut text) More
request_beginning adapted text r n cut read l =
    let at = read.there in
    let p = print_request at.head in
    let it = cut_of text p (drop n (judged text)) cut at.reads.1 (omega (arith, at.len_is)) in
    let awaits : AwaitsRequest (take cut text) = (
      λ k q reads.
          let longer = ReadsRequest-append (take cut text) k q (drop cut (judged text)) reads in
          let whole = subst (λ t. ReadsRequest t k (q ++ drop cut (judged text))) it.joined longer in
          let same = (request_unique (judged text) k at.head (q ++ drop cut (judged text)) (drop n (judged text)) whole at.reads).0 in
          omega (arith, ap (λ h. length (print_request h)) same, at.len_is, ap length reads.1, length-append (print_request k) q, it.size),
      (
        drop cut p,
        at.head,
        (at.reads.0, ap (λ t. t ++ drop cut p) it.front ∙ take-append-drop cut p ∙ sym (append-nil p)),
        few_of (judged text) r n at read.few,
      ),
    ) in
    inl (short_is (length (take cut text)) (omega (arith, it.size, it.small)), subst AwaitsRequest (sym it.whole) awaits)

-- a text that is cut within its response's head has to be answered that more may come
pub response_beginning : (to_head : Bool) (text : List ℕ) (r : ResponseParts) (n cut : ℕ) → IsResponseRead to_head text r n → cut < n
    → RefusesResponse (take cut text) More
response_beginning to_head text r n cut read l =
    let at = read.there in
    let p = print_response at.head in
    let it = cut_of text p (drop n (judged text)) cut at.reads.1 (omega (arith, at.len_is)) in
    let awaits : AwaitsResponse (take cut text) = (
      λ k q reads.
          let longer = ReadsResponse-append (take cut text) k q (drop cut (judged text)) reads in
          let whole = subst (λ t. ReadsResponse t k (q ++ drop cut (judged text))) it.joined longer in
          let same = (response_unique (judged text) k at.head (q ++ drop cut (judged text)) (drop n (judged text)) whole at.reads).0 in
          omega (
            arith,
            ap (λ h. length (print_response h)) same,
            at.len_is,
            ap length reads.1,
            length-append (print_response k) q,
            it.size,
          ),
      (
        drop cut p,
        at.head,
        (at.reads.0, ap (λ t. t ++ drop cut p) it.front ∙ take-append-drop cut p ∙ sym (append-nil p)),
        few_of_response (judged text) r n at read.few,
      ),
    ) in
    inl (short_is (length (take cut text)) (omega (arith, it.size, it.small)), subst AwaitsResponse (sym it.whole) awaits)

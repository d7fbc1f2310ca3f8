-- What is read from a plan's line by cases is what the line says.
use Rattle.std.proofs.Common.{◌≡◌, ◌≢◌, ℕ, ◌<◌, ◌↔◌, IfSome, IfNone, IsSome, rules, ◌⊎◌, Bool, true, false, cond, List, []}
use Rattle.std.proofs.Common.{◌∷◌, ◌++◌, Option, Some, None, refl, sym, ap, ◌∙◌, subst, inl, inr, codes, arith, eqb, ne_eqb}
use Rattle.std.specs.Char.{digit_value}
use Rattle.std.specs.Str.Parse.{AllDigits}
use Rattle.trace_core.specs.declared.history.Kind.{Kind}
use Rattle.trace_core.specs.declared.history.Kind.TheVariants.{Plain, Whole, Preview}
use Rattle.trace_core.specs.declared.history.Plan.{Plan}
use Rattle.trace_core.specs.declared.history.Point.TheVariants.{Respmod}
use Rattle.trace_core.specs.Legal.{IsPlanned}
use Rattle.exchange_report.specs.Script.{allow_text}
use Rattle.proxy_commands.specs.Script.{SaysKind, SaysLength, SaysParts, SaysPlan}
use Rattle.proxy_commands.specs.Reading.{decimal_of, behind, up_to_space, from_space, preview_of, sized_of, kind_or, kind_of, known_length}
use Rattle.proxy_commands.specs.Reading.{length_behind, length_of, allow_or, with_length, with_options, with_kind, with_plan, parts_of}
use Rattle.proxy_commands.proofs.Decimals.{decimal_of-number, number-decimal_of}
use Rattle.proxy_commands.proofs.LineForms.{behind-is}

-- no digit is a space
not_space : (d : ℕ) → digit_value d < 10 → d ≢ 32
not_space d l e = let v = ap digit_value e in absurd (omega arith)

-- the text is empty or begins with a space
abbrev OpensWithSpace : List ℕ → Type 0
OpensWithSpace text = (text ≡ []) ⊎ ((rest : List ℕ) × (text ≡ 32 ∷ rest))

-- a text that is empty or begins with a space is cut at its beginning
cut_tail : (tail : List ℕ) → OpensWithSpace tail → (up_to_space tail ≡ []) × (from_space tail ≡ tail)
cut_tail tail (inl e) = (ap up_to_space e, ap from_space e ∙ sym e)
cut_tail tail (inr h) = (ap up_to_space h.1, ap from_space h.1 ∙ sym h.1)

-- digits end at the space after them
cut_digits : (digits tail : List ℕ) → AllDigits 10 digits → OpensWithSpace tail
    → (up_to_space (digits ++ tail) ≡ digits) × (from_space (digits ++ tail) ≡ tail)
cut_digits [] tail h o = cut_tail tail o
cut_digits (d ∷ ds) tail h o =
    let rest = cut_digits ds tail h.1 o in
    let no = ne_eqb d 32 (not_space d h.0) in (
      ap (λ t. cond t [] (d ∷ up_to_space (ds ++ tail))) no ∙ ap (λ t. d ∷ t) rest.0,
      ap (λ t. cond t (d ∷ (ds ++ tail)) (from_space (ds ++ tail))) no ∙ rest.1,
    )

-- From what a line says to what is read.

-- the kind that a text says is read, and what follows it is left
kind_of-says : (text tail : List ℕ) (kind : Kind) → SaysKind text kind → OpensWithSpace tail → kind_of (text ++ tail) ≡ Some (kind, tail)
unfolding kind_of
kind_of-says text tail Plain h o = ap (λ t. kind_of (t ++ tail)) h
kind_of-says text tail Whole h o = ap (λ t. kind_of (t ++ tail)) h
kind_of-says text tail (Preview size) h o =
    let cut = cut_digits h.0 tail h.2.writes.digits.1 o in
    ap (λ t. kind_of (t ++ tail)) h.1
    ∙ ap (λ t. preview_of (decimal_of t) (from_space (h.0 ++ tail))) cut.0
    ∙ ap (λ t. preview_of (decimal_of h.0) t) cut.1
    ∙ ap (λ r. preview_of r tail) (decimal_of-number h.0 size h.2)

-- the length that a text says is read
length_of-says : (text : List ℕ) (len : Option ℕ) → SaysLength text len → length_of text ≡ Some len
unfolding length_of
length_of-says text None h = ap length_of h
length_of-says text (Some bytes) h = ap length_of h.1 ∙ ap known_length (decimal_of-number h.0 bytes h.2)

-- no length's text begins with ` allow`
no_allow : (text : List ℕ) (len : Option ℕ) → SaysLength text len → behind (codes " allow") text ≡ None
no_allow text None h = ap (behind (codes " allow")) h
no_allow text (Some bytes) h = ap (behind (codes " allow")) h.1

-- no length's text begins with ` allow retry`
no_leave : (text : List ℕ) (len : Option ℕ) → SaysLength text len → behind (codes " allow retry") text ≡ None
no_leave text None h = ap (behind (codes " allow retry")) h
no_leave text (Some bytes) h = ap (behind (codes " allow retry")) h.1

-- ` allow` before a length's text isn't ` allow retry`
allow_alone : (text : List ℕ) (len : Option ℕ) → SaysLength text len → behind (codes " allow retry") (codes " allow" ++ text) ≡ None
allow_alone text None h = ap (λ t. behind (codes " allow retry") (codes " allow" ++ t)) h
allow_alone text (Some bytes) h = ap (λ t. behind (codes " allow retry") (codes " allow" ++ t)) h.1

-- no length's text begins with ` retry`
no_retry : (text : List ℕ) (len : Option ℕ) → SaysLength text len → behind (codes " retry") text ≡ None
no_retry text None h = ap (behind (codes " retry")) h
no_retry text (Some bytes) h = ap (behind (codes " retry")) h.1

-- what is read where neither ` allow retry` stands nor ` allow`
abbrev retry_or : Kind → List ℕ → Option (List ℕ) → Option (Kind × (Bool × Bool) × Option ℕ)
retry_or kind text found = with_options kind (allow_or found (false, true) ((false, false), text))

-- the allowance, the leave and the length after a kind are read as their texts say
options_of-says : (kind : Kind) (text : List ℕ) (allow : Bool × Bool) (len : Option ℕ) → SaysLength text len
    → with_kind (Some (kind, allow_text allow ++ text)) ≡ Some (kind, allow, len)
options_of-says kind text (true, true) len h = ap (with_length kind (true, true)) (length_of-says text len h)
options_of-says kind text (true, false) len h =
    ap (λ r. with_options kind (allow_or r (true, true) (allow_or (behind (codes " allow") (codes " allow" ++ text)) (true, false)
    (allow_or (behind (codes " retry") (codes " allow" ++ text)) (false, true) ((false, false), codes " allow" ++ text)))))
    (allow_alone text len h)
    ∙ ap (with_length kind (true, false)) (length_of-says text len h)
options_of-says kind text (false, true) len h = ap (with_length kind (false, true)) (length_of-says text len h)
options_of-says kind text (false, false) len h =
    ap (λ r. with_options kind (allow_or r (true, true) (allow_or (behind (codes " allow") text) (true, false)
    (allow_or (behind (codes " retry") text) (false, true) ((false, false), text))))) (no_leave text len h)
    ∙ ap (λ r. with_options kind (allow_or r (true, false) (allow_or (behind (codes " retry") text) (false, true) ((false, false), text))))
    (no_allow text len h)
    ∙ ap (retry_or kind text) (no_retry text len h)
    ∙ ap (with_length kind (false, false)) (length_of-says text len h)

-- a length's text is empty or begins with a space
opens : (text : List ℕ) (len : Option ℕ) → SaysLength text len → OpensWithSpace text
opens text None h = inl h
opens text (Some bytes) h = inr (_, h.1)

-- options and a length's text are empty or begin with a space
options_open : (text : List ℕ) (allow : Bool × Bool) (len : Option ℕ) → SaysLength text len → OpensWithSpace (allow_text allow ++ text)
options_open text (true, true) len h = inr (_, refl)
options_open text (true, false) len h = inr (_, refl)
options_open text (false, true) len h = inr (_, refl)
options_open text (false, false) len h = opens text len h

-- the parts that a line says are read
pub parts_of-says : (text : List ℕ) (kind : Kind) (allow : Bool × Bool) (len : Option ℕ)
    → SaysParts text kind allow len → parts_of text ≡ Some (kind, allow, len)
unfolding parts_of
parts_of-says text kind allow len h =
    ap parts_of h.text_is
    ∙ ap with_kind (kind_of-says h.kind_text (allow_text allow ++ h.len_text) kind h.kind_is (options_open h.len_text allow len h.len_is))
    ∙ options_of-says kind h.len_text allow len h.len_is

-- From what is read to what the line says.

-- one byte more before a text that is cut stands before the cut or after it
one_more : (b : ℕ) (text : List ℕ) → text ≡ up_to_space text ++ from_space text → (t : Bool)
    → (b ∷ text) ≡ (cond t [] (b ∷ up_to_space text)) ++ (cond t (b ∷ text) (from_space text))
one_more b text rest true = refl
one_more b text rest false = ap (λ t. b ∷ t) rest

-- a text is what stands before its first space and what stands from there on
digits_front : (text : List ℕ) → text ≡ up_to_space text ++ from_space text
digits_front [] = refl
digits_front (b ∷ text) = one_more b text (digits_front text) (eqb b 32)

-- a kind's text at the beginning, and what comes after it
record FoundKind (text : List ℕ) (kind : Kind) (rest : List ℕ) : Type 0 where
  kind_text : List ℕ
  text_is : text ≡ kind_text ++ rest
  kind_is : SaysKind kind_text kind

-- a preview that is read with its size stands at the beginning of the text
sized-says : (text : List ℕ) (kind : Kind) (rest : List ℕ)
    → (r : Option (List ℕ)) → behind (codes "preview ") text ≡ r → sized_of r ≡ Some (kind, rest)
    → FoundKind text kind rest
sized-says text kind rest None t e = absurd (cc)
sized-says text kind rest (Some digits) t e = by_number (decimal_of (up_to_space digits)) refl e
  where
    by_number : (r : Option ℕ) → decimal_of (up_to_space digits) ≡ r → preview_of r (from_space digits) ≡ Some (kind, rest)
        → FoundKind text kind rest
    by_number None d e = absurd (cc)
    by_number (Some size) d e =
        let pair : (Preview size, from_space digits) ≡ (kind, rest) = cc in
        let same : Preview size ≡ kind = ap (λ (p : Kind × List ℕ). p.0) pair in
        let behind : from_space digits ≡ rest = ap (λ (p : Kind × List ℕ). p.1) pair in
        let number = number-decimal_of (up_to_space digits) size d in
        let front = behind-is (codes "preview ") text digits t in
        record {
          kind_text = codes "preview " ++ up_to_space digits;
          text_is = front ∙ ap (λ x. codes "preview " ++ x) (digits_front digits ∙ ap (λ x. up_to_space digits ++ x) behind);
          kind_is = subst (λ (k : Kind). SaysKind (codes "preview " ++ up_to_space digits) k) same (up_to_space digits, refl, number);
        }

-- the kind that is read, of this word or else of the other forms, stands at the beginning of the text
kind_here : (text front : List ℕ) (here kind : Kind) (rest : List ℕ) (other : Option (Kind × List ℕ)) → SaysKind front here
    → (other ≡ Some (kind, rest) → FoundKind text kind rest)
    → kind_or (behind front text) here other ≡ Some (kind, rest) → FoundKind text kind rest
kind_here text front here kind rest other says next e = by_front (behind front text) refl e
  where
    by_front : (r : Option (List ℕ)) → behind front text ≡ r → kind_or r here other ≡ Some (kind, rest) → FoundKind text kind rest
    by_front None t e = next e
    by_front (Some found) t e =
        let pair : (here, found) ≡ (kind, rest) = cc in
        let same : here ≡ kind = ap (λ (p : Kind × List ℕ). p.0) pair in
        let is : found ≡ rest = ap (λ (p : Kind × List ℕ). p.1) pair in
        record {
          kind_text = front;
          text_is = behind-is front text found t ∙ ap (λ x. front ++ x) is;
          kind_is = subst (λ (k : Kind). SaysKind front k) same says;
        }

-- a kind that is read stands at the beginning of the text, before what is left
kind-says : (text : List ℕ) (kind : Kind) (rest : List ℕ) → kind_of text ≡ Some (kind, rest) → FoundKind text kind rest
unfolding kind_of
kind-says text kind rest =
    kind_here text (codes "plain") Plain kind rest _ refl
    (kind_here text (codes "whole") Whole kind rest _ refl
    (sized-says text kind rest (behind (codes "preview ") text) refl))

-- a length that is read is what the text says
length-says : (text : List ℕ) (len : Option ℕ) → length_of text ≡ Some len → SaysLength text len
unfolding length_of
length-says [] len e = let same : None ≡ len = cc in subst (λ (l : Option ℕ). SaysLength [] l) same refl
length-says (b ∷ text) len e = by_front (behind (codes " len ") (b ∷ text)) refl e
  where
    by_number : (digits : List ℕ) → (b ∷ text) ≡ codes " len " ++ digits
        → (r : Option ℕ) → decimal_of digits ≡ r → known_length r ≡ Some len → SaysLength (b ∷ text) len
    by_number digits t None d e = absurd (cc)
    by_number digits t (Some bytes) d e =
        let same : Some bytes ≡ len = cc in
        subst (λ (l : Option ℕ). SaysLength (b ∷ text) l) same (digits, t, number-decimal_of digits bytes d)

    by_front : (r : Option (List ℕ)) → behind (codes " len ") (b ∷ text) ≡ r → length_behind r ≡ Some len → SaysLength (b ∷ text) len
    by_front None t e = absurd (cc)
    by_front (Some digits) t e = by_number digits (behind-is (codes " len ") (b ∷ text) digits t) (decimal_of digits) refl e

-- what is read of the options
record FoundOptions (text : List ℕ) (allow : Bool × Bool) (len : Option ℕ) : Type 0 where
  len_text : List ℕ
  text_is : text ≡ allow_text allow ++ len_text
  len_is : SaysLength len_text len

-- what is read with a length has this kind and this allowance, and the text says the length
length_found : (kind found_kind : Kind) (allow found_allow : Bool × Bool) (text : List ℕ) (len : Option ℕ)
    → with_length kind allow (length_of text) ≡ Some (found_kind, found_allow, len)
    → (kind ≡ found_kind) × (allow ≡ found_allow) × SaysLength text len
length_found kind found_kind allow found_allow text len e = by_length (length_of text) refl e
  where
    by_length : (r : Option (Option ℕ)) → length_of text ≡ r
        → with_length kind allow r ≡ Some (found_kind, found_allow, len)
        → (kind ≡ found_kind) × (allow ≡ found_allow) × SaysLength text len
    by_length None t e = absurd (cc)
    by_length (Some found) t e =
        let triple : (kind, allow, found) ≡ (found_kind, found_allow, len) = cc in
        let is : found ≡ len = ap (λ (p : Kind × (Bool × Bool) × Option ℕ). p.2) triple in (
          ap (λ (p : Kind × (Bool × Bool) × Option ℕ). p.0) triple,
          ap (λ (p : Kind × (Bool × Bool) × Option ℕ). p.1) triple,
          length-says text len (t ∙ ap Some is),
        )

-- what is read after a kind has this kind, and the text says the rest of it
options-says : (text : List ℕ) (found kind : Kind) (allow : Bool × Bool) (len : Option ℕ)
    → with_kind (Some (found, text)) ≡ Some (kind, allow, len)
    → (found ≡ kind) × FoundOptions text allow len
options-says text found kind allow len e = by_leave (behind (codes " allow retry") text) refl e
  where
    by_retry : (r : Option (List ℕ)) → behind (codes " retry") text ≡ r
        → retry_or found text r ≡ Some (kind, allow, len)
        → (found ≡ kind) × FoundOptions text allow len
    by_retry None t e =
        let h = length_found found kind (false, false) allow text len e in
        (h.0, subst (λ (a : Bool × Bool). FoundOptions text a len) h.1 (record { len_text = text; text_is = refl; len_is = h.2 }))
    by_retry (Some rest) t e =
        let h = length_found found kind (false, true) allow rest len e in (
          h.0,
          subst (λ (a : Bool × Bool). FoundOptions text a len) h.1
              (record { len_text = rest; text_is = behind-is (codes " retry") text rest t; len_is = h.2 }),
        )

    by_front : (r : Option (List ℕ)) → behind (codes " allow") text ≡ r
        → with_options found (allow_or r (true, false)
        (allow_or (behind (codes " retry") text) (false, true) ((false, false), text))) ≡ Some (kind, allow, len)
        → (found ≡ kind) × FoundOptions text allow len
    by_front None t e = by_retry (behind (codes " retry") text) refl e
    by_front (Some rest) t e =
        let h = length_found found kind (true, false) allow rest len e in (
          h.0,
          subst (λ (a : Bool × Bool). FoundOptions text a len) h.1
              (record { len_text = rest; text_is = behind-is (codes " allow") text rest t; len_is = h.2 }),
        )

    by_leave : (r : Option (List ℕ)) → behind (codes " allow retry") text ≡ r
        → with_options found (allow_or r (true, true) (allow_or (behind (codes " allow") text) (true, false)
        (allow_or (behind (codes " retry") text) (false, true) ((false, false), text)))) ≡ Some (kind, allow, len)
        → (found ≡ kind) × FoundOptions text allow len
    by_leave None t e = by_front (behind (codes " allow") text) refl e
    by_leave (Some rest) t e =
        let h = length_found found kind (true, true) allow rest len e in (
          h.0,
          subst (λ (a : Bool × Bool). FoundOptions text a len) h.1
              (record { len_text = rest; text_is = behind-is (codes " allow retry") text rest t; len_is = h.2 }),
        )

-- parts that are read are what the line says
pub says-parts_of : (text : List ℕ) (kind : Kind) (allow : Bool × Bool) (len : Option ℕ)
    → parts_of text ≡ Some (kind, allow, len) → SaysParts text kind allow len
unfolding parts_of
says-parts_of text kind allow len e = by_front (behind (codes "plan ") text) refl e
  where
    by_kind : (rest : List ℕ) → text ≡ codes "plan " ++ rest
        → (r : Option (Kind × List ℕ)) → kind_of rest ≡ r
        → with_kind r ≡ Some (kind, allow, len) → SaysParts text kind allow len
    by_kind rest t None k e = absurd (cc)
    by_kind rest t (Some found) k e =
        let options = options-says found.1 found.0 kind allow len e in
        let pair : (found.0, found.1) ≡ (kind, found.1) = ap (λ (x : Kind). (x, found.1)) options.0 in
        let named = kind-says rest kind found.1 (k ∙ ap Some pair) in
        record {
          kind_text = named.kind_text;
          len_text = options.1.len_text;
          text_is = t ∙ ap (λ x. codes "plan " ++ x) (named.text_is ∙ ap (λ x. named.kind_text ++ x) options.1.text_is);
          kind_is = named.kind_is;
          len_is = options.1.len_is;
        }

    by_front : (r : Option (List ℕ)) → behind (codes "plan ") text ≡ r
        → with_plan r ≡ Some (kind, allow, len) → SaysParts text kind allow len
    by_front None t e = absurd (cc)
    by_front (Some rest) t e = by_kind rest (behind-is (codes "plan ") text rest t) (kind_of rest) refl e

-- what isn't read says nothing
pub says_no_parts : (text : List ℕ) → parts_of text ≡ None
    → (kind : Kind) (allow : Bool × Bool) (len : Option ℕ) → SaysParts text kind allow len → ⊥
says_no_parts text e kind allow len h = let f = parts_of-says text kind allow len h in absurd (cc)

-- `None` is no plan
not_some : IsSome {T = Plan} None → ⊥
not_some e = absurd (cc)

-- a plan that is made of the parts that were read, where they are in range
module _ (text : List ℕ) (kind : Kind) (allow : Bool × Bool) (len : Option ℕ) (read : parts_of text ≡ Some (kind, allow, len)) where
  -- a plan that is made is what the text says
  pub plan_found : (r : Option Plan)
      → IfSome r (λ plan. (plan.kind ≡ kind) × (plan.allow ≡ allow.0) × (plan.retry ≡ allow.1) × (plan.len ≡ len) × (plan.point ≡ Respmod))
      → (IsSome r ↔ IsPlanned kind len) → IfSome r (SaysPlan text)
  plan_found None same range = tt
  plan_found (Some plan) same range =
      let fits = range.0 (search rules) in
      let k = same.0 in
      let a = same.1 in
      let r = same.2 in
      let l = same.3 in
      let in_range : IsPlanned plan.kind plan.len = rw (k, l) fits in
      let e : parts_of text ≡ Some (plan.kind, (plan.allow, plan.retry), plan.len) = rw (k, a, r, l) read in
      record {
        parts = says-parts_of text plan.kind (plan.allow, plan.retry) plan.len e;
        in_range = in_range;
        point = same.4;
      }

  -- where none is made, the text says no plan
  pub plan_refused : (r : Option Plan) → (IsSome r ↔ IsPlanned kind len)
      → IfNone r ((plan : Plan) → SaysPlan text plan → ⊥)
  plan_refused (Some plan) range = tt
  plan_refused None range = λ plan h.
      let e = parts_of-says text plan.kind (plan.allow, plan.retry) plan.len h.parts in
      let triple : (plan.kind, (plan.allow, plan.retry), plan.len) ≡ (kind, allow, len) = cc in
      let k : plan.kind ≡ kind = ap (λ (p : Kind × (Bool × Bool) × Option ℕ). p.0) triple in
      let l : plan.len ≡ len = ap (λ (p : Kind × (Bool × Bool) × Option ℕ). p.2) triple in
      let fits : IsPlanned plan.kind plan.len = h.in_range in
      let in_range : IsPlanned kind len = rw (← k, ← l) fits in
      not_some (range.1 in_range)

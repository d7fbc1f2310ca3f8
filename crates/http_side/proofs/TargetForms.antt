-- The parts of a target that is served, by its grammar.
use Rattle.std.proofs.Common.{◌≡◌, ℕ, ◌<◌, Bool, true, false, not, ◌||◌, ◌&&◌, List, [], ◌∷◌, ◌++◌, length, take, drop, Option, Some, None}
use Rattle.std.proofs.Common.{refl, sym, ap, ◌∙◌, subst, inl, inr, arith, get_or, zero, suc, append_assoc, length-append, rules}
use Rattle.std.specs.Prelude.{codes, ◌==◌, bytes_eq, slice_index, IsUtf8}
use Rattle.std.specs.List.{prefix_len}
use Rattle.std.specs.Char.{to_ascii_lowercase}
use Rattle.std.proofs.lemmas.Bool.{cases_Bool, eqb-true}
use Rattle.std.proofs.lemmas.Slice.Eq.{bytes_eq-Decides}
use Rattle.std.proofs.lemmas.List.{length-map}
use Rattle.std.proofs.lemmas.Str.{IsUtf8-append, IsUtf8-nil, IsUtf8-from_ascii}
use Rattle.std.proofs.Math.Seq.{drop-append_seam, take-append_seam}
use Rattle.http_uri.specs.ByteClasses.{lowercase, is_scheme_byte, is_delimiter as ends_authority}
use Rattle.http_uri.specs.Grammar.{IsScheme, normal_scheme, IsAuthority, IsTail, IsUriText, without_fragment}
use Rattle.http_uri.specs.Uri.{Spells, uri_scheme, uri_authority, uri_data}
use Rattle.http_uri.specs.declared.uri.Uri.{Uri as Target}
use Rattle.http_uri.proofs.AuthorityLemmas.{IsAuthority_utf8, IsAuthority_no_delimiter}
use Rattle.http_side.specs.Targets.{is_delimiter, is_hash, count_before, before, from, authority_of, path_of, is_rooted, rooted}
use Rattle.http_side.specs.Targets.{origin_form, serves, serves_uri, IsServed, is_plain_authority, has_path_behind}
use Rattle.http_side.specs.Forward.{target_form}

-- ---- counts

-- true isn't false
differ : true ≡ false → ⊥
differ e = cc

-- a byte ends an authority of a URI just where it is a slash, a question mark or a hash
same_delimiter : (b : ℕ) → ends_authority b ≡ is_delimiter b
same_delimiter b = regroup (b == 47) (b == 63) (b == 35)
  where
    regroup : (x y z : Bool) → ((x || y) || z) ≡ (x || (y || z))
    regroup true y z = refl
    regroup false y z = refl

-- no byte stands before the first that passes where the first one does
count_stop : (test : ℕ → Bool) (b : ℕ) (t : List ℕ) → test b ≡ true → count_before test (b ∷ t) ≡ 0
count_stop test b t e = rw e refl

-- a first byte that doesn't pass is one more before the first that does
count_on : (test : ℕ → Bool) (b : ℕ) (t : List ℕ) → test b ≡ false → count_before test (b ∷ t) ≡ suc (count_before test t)
count_on test b t e = rw e refl

-- a prefix without such a byte, and then one or the end
count_front : (test : ℕ → Bool) (a tail : List ℕ) → ((k : ℕ) → k < length a → test (get_or a k 0) ≡ false) → count_before test tail ≡ 0
    → count_before test (a ++ tail) ≡ length a
count_front test [] tail none stops = stops
count_front test (b ∷ a) tail none stops =
    count_on test b (a ++ tail) (none 0 (omega arith)) ∙ ap suc (count_front test a tail (λ k l. none (suc k) (omega arith)) stops)

-- as many bytes stand before the first hash as the longest prefix without one has
count_prefix : (t : List ℕ) → count_before is_hash t ≡ prefix_len (λ b. not (b == 35)) t
count_prefix [] = refl
count_prefix (b ∷ t) = elim (cases_Bool (b == 35)) [
  | inl is ↦ rw is refl
  | inr off ↦ rw off (omega (arith, count_prefix t))
]

-- a text before its first hash is the text without its fragment
without_is : (t : List ℕ) → before is_hash t ≡ without_fragment t
without_is t = ap (λ n. take n t) (count_prefix t)

-- ---- an absolute target

-- a colon and two slashes are three bytes
three : length (codes "://") ≡ 3
three = refl

-- a slash is UTF-8
slash_utf8 : IsUtf8 (47 ∷ [])
slash_utf8 = IsUtf8-from_ascii (47 ∷ []) (λ k. all_low k)
  where
    all_low : (k : ℕ) → get_or (47 ∷ []) k 0 < 128
    all_low zero = omega arith
    all_low (suc k) = omega arith

-- the text http:// is UTF-8
scheme_utf8 : IsUtf8 (codes "http://")
scheme_utf8 = search rules

-- a slash is no byte of a scheme
no_slash : (b : ℕ) → (b == 47) ≡ true → is_scheme_byte b ≡ true → ⊥
no_slash b e h = differ (sym (ap is_scheme_byte (sym (eqb-true b 47 e)) ∙ h))

-- a name of the scheme http has four bytes
name_length : (name : List ℕ) → normal_scheme name ≡ codes "http" → length name ≡ 4
name_length name e = elim (cases_Bool (bytes_eq (lowercase name) (codes "http"))) [
  | inl http ↦
      let same : lowercase name ≡ codes "http" = (bytes_eq-Decides (lowercase name) (codes "http")).0 http in
      let four : length (lowercase name) ≡ 4 = ap length same in
      omega (arith, four, length-map name to_ascii_lowercase)
  | inr other ↦ elim (cases_Bool (bytes_eq (lowercase name) (codes "https"))) [
    | inl https ↦ absurd (let x : codes "https" ≡ codes "http" = sym (let y : normal_scheme name ≡ codes "https" = rw (other, https) refl in
        y) ∙ e in
        let n : 5 ≡ 4 = ap length x in omega (arith, n))
    | inr neither ↦ let x : name ≡ codes "http" = sym (let y : normal_scheme name ≡ name = rw (other, neither) refl in y) ∙ e in ap length x
  ]
]

-- a text that begins with a scheme that isn't empty doesn't begin with a slash
first_of_scheme : (name more : List ℕ) → IsScheme name → 0 < length name → is_rooted (name ++ more) ≡ false
first_of_scheme [] more h l = absurd (omega arith)
first_of_scheme (b ∷ name) more h l = elim (cases_Bool (b == 47)) [
  | inl slash ↦ absurd (no_slash b slash (h.0 0 b (omega arith)))
  | inr off ↦ off
]

-- what follows an authority is empty or begins with a delimiter
tail_stops : (tail kept : List ℕ) → IsTail tail kept → count_before is_delimiter tail ≡ 0
tail_stops [] kept h = refl
tail_stops (b ∷ tail) kept (inl h) = absurd (let n : suc (length tail) ≡ 0 = ap length h.0 in omega (arith, n))
tail_stops (b ∷ tail) kept (inr h) = count_stop is_delimiter b tail (sym (same_delimiter b) ∙ h.0)

-- what follows an authority is UTF-8 up to its first hash
tail_utf8 : (tail kept : List ℕ) → IsTail tail kept → IsUtf8 (before is_hash tail)
tail_utf8 tail kept (inl h) = subst (λ t. IsUtf8 (before is_hash t)) (sym h.0) IsUtf8-nil
tail_utf8 tail kept (inr h) = subst IsUtf8 (sym (without_is tail)) h.1.kept.utf8

-- what is known of a target that is served
pub record IsAbsolute (t a : List ℕ) : Type 0 where
  pub plain : is_rooted t ≡ false
  pub authority : IsAuthority a
  pub cut : authority_of t ≡ a
  pub utf8 : IsUtf8 (before is_hash (from is_delimiter (drop 7 t)))

abbrev pub Form : Bool → List ℕ → Option (List ℕ) → Type 0
Form adapted t None = (adapted ≡ true) × (is_rooted t ≡ true) × IsUtf8 (before is_hash t)
Form adapted t (Some a) = IsAbsolute t a

-- a scheme http, an authority and what follows it are an absolute target of that authority
absolute : (t name a tail kept : List ℕ) → t ≡ name ++ codes "://" ++ a ++ tail → IsScheme name → normal_scheme name ≡ codes "http"
    → IsAuthority a → IsTail tail kept → IsAbsolute t a
absolute t name a tail kept spelled scheme http authority ends =
    let four = name_length name http in
    let front : length (name ++ codes "://") ≡ 7 = omega (arith, length-append name (codes "://"), four, three) in
    let whole : t ≡ (name ++ codes "://") ++ (a ++ tail) = spelled ∙ append_assoc (name ++ codes "://") a tail in
    let behind : drop 7 t ≡ a ++ tail = ap (drop 7) whole ∙ ap (λ n. drop n ((name ++ codes "://") ++ (a ++ tail))) (sym front)
    ∙ drop-append_seam (name ++ codes "://") (a ++ tail) in
    let none : (k : ℕ) → k < length a → is_delimiter (get_or a k 0) ≡ false =
    λ k l. sym (same_delimiter (get_or a k 0)) ∙ flip (ends_authority (get_or a k 0)) (IsAuthority_no_delimiter a authority k l) in
    let count : count_before is_delimiter (a ++ tail) ≡ length a = count_front is_delimiter a tail none (tail_stops tail kept ends) in
    let rest : from is_delimiter (drop 7 t) ≡ tail =
    ap (from is_delimiter) behind ∙ ap (λ n. drop n (a ++ tail)) count ∙ drop-append_seam a tail in
    record {
      plain = ap is_rooted (whole ∙ append_assoc name (codes "://") (a ++ tail))
          ∙ first_of_scheme name (codes "://" ++ (a ++ tail)) scheme (omega (arith, four));
      authority = authority;
      cut = ap (before is_delimiter) behind ∙ ap (λ n. take n (a ++ tail)) count ∙ take-append_seam a tail;
      utf8 = subst (λ x. IsUtf8 (before is_hash x)) (sym rest) (tail_utf8 tail kept ends);
    }
  where
    flip : (b : Bool) → not b ≡ true → b ≡ false
    flip true e = absurd (differ (sym e))
    flip false e = refl

-- both sides of a true conjunction are true
both : (x y : Bool) → (x && y) ≡ true → (x ≡ true) × (y ≡ true)
both true true e = (refl, refl)
both true false e = absurd (differ (sym e))
both false y e = absurd (differ (sym e))

-- a target that is served has origin form, where that is allowed, or absolute form of its authority
pub form_of : (adapted needs : Bool) (t : List ℕ) (s a : Option (List ℕ)) (kept : List ℕ) → IsUriText t s a kept
    → serves adapted needs t s a ≡ true → Form adapted t a
form_of adapted needs t None None kept h e =
    let two = both adapted (slice_index t 0 == 47) e in
    let path = h.1.0.1 in
    (two.0, two.1, subst IsUtf8 (sym (without_is t)) path.kept.utf8)
form_of adapted needs t None (Some a) kept h e = absurd (differ (sym e))
form_of adapted needs t (Some s) None kept h e = absurd h.1
form_of adapted needs t (Some s) (Some a) kept h e =
    let two = both (bytes_eq s (codes "http")) (is_plain_authority a && (not needs || has_path_behind a t)) e in
    let http = (bytes_eq-Decides s (codes "http")).0 two.0 in
    absolute t h.1.name a h.1.tail kept h.1.spelled h.1.is_scheme (sym h.1.normal ∙ http) h.1.is_authority h.1.is_tail

-- the authority is that of the URI
pub finds_authority : (needs : Bool) (t : List ℕ) (uri : Target) → Spells t uri → serves_uri false needs t uri ≡ true
    → uri_authority uri ≡ Some (authority_of t)
finds_authority needs t uri h e = told (uri_authority uri) (form_of false needs t (uri_scheme uri) (uri_authority uri) (uri_data uri) h e)
  where
    told : (a : Option (List ℕ)) → Form false t a → a ≡ Some (authority_of t)
    told None f = absurd (differ (sym f.0))
    told (Some a) f = ap Some (sym f.cut)

-- ---- what is written of it is UTF-8

-- the path and query of a target that is served are UTF-8
path_utf8 : (adapted needs : Bool) (t : List ℕ) → IsServed adapted needs t → IsUtf8 (path_of t)
path_utf8 adapted needs t h = told (uri_authority h.0) (form_of adapted needs t (uri_scheme h.0) (uri_authority h.0) (uri_data h.0) h.1 h.2)
  where
    told : (a : Option (List ℕ)) → Form adapted t a → IsUtf8 (path_of t)
    told None f = rw f.1 f.2
    told (Some a) f = rw f.plain f.utf8

-- a path that is UTF-8 stays so when a slash is put before it
rooted_utf8 : (p : List ℕ) → IsUtf8 p → IsUtf8 (rooted p)
rooted_utf8 p u = elim (cases_Bool (is_rooted p)) [
  | inl on ↦ rw on u
  | inr off ↦ rw off (IsUtf8-append (47 ∷ []) p slash_utf8 u)
]

-- the authority of a user's target that is served is UTF-8
authority_utf8 : (needs : Bool) (t : List ℕ) → IsServed false needs t → IsUtf8 (authority_of t)
authority_utf8 needs t h = told (uri_authority h.0) (form_of false needs t (uri_scheme h.0) (uri_authority h.0) (uri_data h.0) h.1 h.2)
  where
    told : (a : Option (List ℕ)) → Form false t a → IsUtf8 (authority_of t)
    told None f = absurd (differ (sym f.0))
    told (Some a) f = subst IsUtf8 (sym f.cut) (IsAuthority_utf8 a f.authority)

-- the target that is written, of one that is served and a user's authority, is UTF-8
pub target_utf8 : (adapted needs whose full : Bool) (t user : List ℕ) → IsServed adapted needs t → IsServed false whose user
    → IsUtf8 (target_form full (authority_of user) t)
target_utf8 adapted needs whose false t user h u = rooted_utf8 (path_of t) (path_utf8 adapted needs t h)
target_utf8 adapted needs whose true t user h u =
    IsUtf8-append (codes "http://") (authority_of user ++ origin_form t) scheme_utf8
    (IsUtf8-append (authority_of user) (origin_form t) (authority_utf8 whose user u)
    (rooted_utf8 (path_of t) (path_utf8 adapted needs t h)))

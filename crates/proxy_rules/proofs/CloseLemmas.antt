-- The Connection fields of a head that goes on.
use Rattle.std.proofs.Common.{◌≡◌, ℕ, Bool, true, false, not, List, [], ◌∷◌, ◌++◌, length, refl, ap, ◌∙◌}
use Rattle.std.specs.Prelude.{codes, ◌||◌, if◌then◌else◌}
use Rattle.std.specs.List.{list_any}
use Rattle.adapt_bytes.specs.Text.{trim, comma_parts, comma_items, has_item}
use Rattle.adapt_bytes.specs.Fields.{values_of}
use Rattle.http_side.specs.declared.forward.Forward.{Forward}
use Rattle.http_side.specs.declared.forward.Message.{Message}
use Rattle.http_side.specs.declared.forward.Message.TheVariants.{Request, Response}
use Rattle.http_side.specs.Forward.{is_response, is_named_by, gets_zero, is_chunks, next_framing, closes, is_once, says_close, when}
use Rattle.http_side.specs.Forward.{via_value, added_fields, extra_of}
use Rattle.http_side.specs.Laws.{passed_fields, minor_of, forwarded_fields}
use Rattle.http_side.specs.Targets.{authority_of}
use Rattle.http_side.proofs.Passing.{values-append}
use Rattle.http_side.proofs.Removed.{request_loses, response_loses}

abbrev CONNECTION : List ℕ
CONNECTION = codes "connection"

abbrev on_close : Bool → List (List ℕ)
on_close b = if b then codes "close" ∷ [] else []

-- of the fields that are added, Connection has one value, close, where the head says so, and else none
added_close : (f : Forward) (minor : ℕ) → values_of CONNECTION (added_fields (extra_of f) minor) ≡ on_close (says_close f)
added_close f minor = by_four (gets_zero f) (is_chunks (next_framing f)) (says_close f) true
  where
    by_four : (a b c d : Bool) → values_of CONNECTION (when a (codes "Content-Length", codes "0")
        ++ when b (codes "Transfer-Encoding", codes "chunked")
        ++ when c (codes "Connection", codes "close") ++ when d (codes "Via", via_value minor)) ≡ on_close c
    by_four true true true true = refl
    by_four true true true false = refl
    by_four true true false true = refl
    by_four true true false false = refl
    by_four true false true true = refl
    by_four true false true false = refl
    by_four true false false true = refl
    by_four true false false false = refl
    by_four false true true true = refl
    by_four false true true false = refl
    by_four false true false true = refl
    by_four false true false false = refl
    by_four false false true true = refl
    by_four false false true false = refl
    by_four false false false true = refl
    by_four false false false false = refl

-- a list of length 0 has no item
no_item : (values : List (List ℕ)) → length values ≡ 0 → values ≡ []
no_item [] e = refl
no_item (value ∷ values) e = absurd (let f : length (value ∷ values) ≡ 0 = e in cc)

-- no Connection field is among the fields of a message that go on
passed_none : (authority : List ℕ) (m : Message) → values_of CONNECTION (passed_fields authority m) ≡ []
passed_none authority (Request r) = no_item _ (request_loses r.now authority CONNECTION refl)
passed_none authority (Response r) = no_item _ (response_loses r.now CONNECTION refl)

-- close is an item of the value that is just close
close_in : has_item (codes "close") (codes "close") ≡ true
unfolding trim comma_parts comma_items
close_in = refl

-- values that are just close where a test passes, and else none, name close just where it passes
named : (b : Bool) → list_any (has_item (codes "close")) (on_close b) ≡ b
named true = ap (λ t. t || false) close_in
named false = refl

-- a head that goes on names close in Connection just where it is to say that the connection ends
says : (f : Forward) → is_named_by (forwarded_fields f) (codes "close") ≡ (says_close f)
says f =
    ap (list_any (has_item (codes "close")))
    (values-append CONNECTION (passed_fields (authority_of f.user.now.target) f.message) (added_fields (extra_of f) (minor_of f.message))
    ∙ ap (λ t. t ++ values_of CONNECTION (added_fields (extra_of f) (minor_of f.message)))
    (passed_none (authority_of f.user.now.target) f.message)
    ∙ added_close f (minor_of f.message))
    ∙ named (says_close f)

-- an answer's head names close in Connection just where the user's connection ends after it
pub answer_says : (f : Forward) → is_response f.message ≡ true → is_named_by (forwarded_fields f) (codes "close") ≡ closes f
answer_says f e = says f ∙ ap (λ b. if b then closes f else is_once f.origin.connection) e

-- a request's head names close in Connection just where the origin's connection ends after its answer
pub request_says : (f : Forward) → is_response f.message ≡ false
    → is_named_by (forwarded_fields f) (codes "close") ≡ is_once f.origin.connection
request_says f e = says f ∙ ap (λ b. if b then closes f else is_once f.origin.connection) e

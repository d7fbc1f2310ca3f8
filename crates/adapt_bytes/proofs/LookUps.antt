-- The values of a name, field by field, as in a header map.
use Rattle.std.proofs.Common.{◌≡◌, ℕ, true, false, List, [], ◌∷◌, ◌++◌, map, bytes_eq, refl, sym, ap, ◌∙◌, subst, inl, inr, append-nil}
use Rattle.std.proofs.Common.{append_assoc}
use Rattle.std.proofs.lemmas.Bool.{cases_Bool}
use Rattle.std.proofs.lemmas.Slice.Eq.{bytes_eq-Decides}
use Rattle.http_header.specs.Token.{lowercase}
use Rattle.http_header.specs.HeaderMap.{Entries, get_all, append, append_all}
use Rattle.http_header.proofs.HeaderMapLemmas.{get_all-append_same, get_all-append_other}
use Rattle.adapt_bytes.specs.Fields.{FieldList, is_named, values_of, as_header_map}

-- the value of a first field of this name comes before those of the other fields
values_yes : (name : List ℕ) (f : List ℕ × List ℕ) (fields : FieldList) → is_named name f ≡ true
    → values_of name (f ∷ fields) ≡ f.1 ∷ values_of name fields
values_yes name f fields is = rw is refl

-- a first field of another name adds no value
values_no : (name : List ℕ) (f : List ℕ × List ℕ) (fields : FieldList) → is_named name f ≡ false
    → values_of name (f ∷ fields) ≡ values_of name fields
values_no name f fields off = rw off refl

-- a value that is appended under an equal key comes last among the values of this name in the map
get_appended : (m : Entries (List ℕ)) (key value : List ℕ) (name : List ℕ) → bytes_eq key name ≡ true
    → get_all (append m key value) name ≡ get_all m name ++ value ∷ []
get_appended m key value name is =
    let same : key ≡ name = (bytes_eq-Decides key name).0 is in
    subst (λ k. get_all (append m k value) name ≡ get_all m name ++ value ∷ []) (sym same) (get_all-append_same m name value)

-- a value that is appended under another key changes no value of this name in the map
get_other : (m : Entries (List ℕ)) (key value : List ℕ) (name : List ℕ) → bytes_eq key name ≡ false
    → get_all (append m key value) name ≡ get_all m name
get_other m key value name off =
    get_all-append_other m key name value (λ same. let x : false ≡ true = sym off ∙ (bytes_eq-Decides key name).1 same in cc)

-- a map to which fields are appended gives its own values of a name, and then those of the fields
map_after : (name : List ℕ) (fields : FieldList) (m : Entries (List ℕ))
    → get_all (append_all m (map (λ f. (lowercase f.0, f.1)) fields)) (lowercase name) ≡ get_all m (lowercase name) ++ values_of name fields
map_after name [] m = sym (append-nil (get_all m (lowercase name)))
map_after name (f ∷ fields) m =
    let key = lowercase f.0 in
    let rest = map_after name fields (append m key f.1) in
    elim (cases_Bool (is_named name f)) [
      | inl is ↦
          rest ∙ ap (λ v. v ++ values_of name fields) (get_appended m key f.1 (lowercase name) is)
          ∙ append_assoc (get_all m (lowercase name)) (f.1 ∷ []) (values_of name fields)
          ∙ ap (λ v. get_all m (lowercase name) ++ v) (sym (values_yes name f fields is))
      | inr off ↦
          rest ∙ ap (λ v. v ++ values_of name fields) (get_other m key f.1 (lowercase name) off)
          ∙ ap (λ v. get_all m (lowercase name) ++ v) (sym (values_no name f fields off))
    ]

-- the header map gives the same values of a name as the fields do, in their order
pub values_as_in_map : (name : List ℕ) (fields : FieldList) → get_all (as_header_map fields) (lowercase name) ≡ values_of name fields
values_as_in_map name fields = map_after name fields []

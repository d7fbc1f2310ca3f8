-- What a layout says, and its text.
use Rattle.std.specs.Prelude.{◌≡◌, ℕ, ◌≤◌, ◌++◌, List, [], ◌∷◌, map, codes, Contains, Option, Some, None}
use Rattle.std.specs.List.{join_by}
use Rattle.adapt_bytes.specs.Numeral.{numeral}
use Rattle.adapt_bytes.specs.declared.method.Method.{Method}
use Rattle.encapsulated.specs.declared.message.Direction.{Direction}
use Rattle.encapsulated.specs.declared.offsets.Layout.{Layout}
use Rattle.encapsulated.specs.declared.parts.Part.{Part}
use Rattle.encapsulated.specs.declared.parts.Part.TheVariants.{ReqHdr, ResHdr, Body}
use Rattle.encapsulated.specs.Grammar.{name_of, AreParts}
use Rattle.encapsulated.specs.Rows.{allowed}

-- the parts without their offsets
abbrev pub names : List (Part × ℕ) → List Part
names parts = map (λ part. part.0) parts

-- the offsets without their parts
abbrev pub offsets : List (Part × ℕ) → List ℕ
offsets parts = map (λ part. part.1) parts

-- the offsets don't fall, from this one on
abbrev pub NoneFalls : ℕ → List ℕ → Type 0
NoneFalls from [] = Unit {0}
NoneFalls from (offset ∷ offsets) = (from ≤ offset) × NoneFalls offset offsets

-- the first offset is 0, and none is smaller than the one before
abbrev pub Rises : List ℕ → Type 0
Rises [] = Unit {0}
Rises (first ∷ offsets) = (first ≡ 0) × NoneFalls first offsets

-- a part that may be missing
abbrev pub if_there : Part → Option ℕ → List (Part × ℕ)
if_there part None = []
if_there part (Some offset) = (part, offset) ∷ []

-- a layout's parts and their offsets, in order
abbrev pub parts_of : Layout → List (Part × ℕ)
parts_of l = if_there ReqHdr l.req_hdr ++ if_there ResHdr l.res_hdr ++ (Body l.body, l.offset) ∷ []

-- a message of this kind may have this layout
pub record MayHave (method : Method) (direction : Direction) (layout : Layout) : Type 0 where
  pub whole : Contains (allowed method direction) (names (parts_of layout))
  pub rises : Rises (offsets (parts_of layout))

-- some message may have this layout
abbrev pub IsWritableLayout : Layout → Type 0
IsWritableLayout layout = (method : Method) × (direction : Direction) × MayHave method direction layout

-- the text is this layout of a message of this kind
pub record IsLayout (method : Method) (direction : Direction) (text : List ℕ) (layout : Layout) : Type 0 where
  pub parts : AreParts text (parts_of layout)
  pub may : MayHave method direction layout

-- name=offset
abbrev pub item_text : Part × ℕ → List ℕ
item_text part = name_of part.0 ++ 61 ∷ numeral 10 part.1

-- the text that is written: the items, joined by a comma and a space
unfoldable pub written : Layout → List ℕ
written l = join_by item_text (codes ", ") (parts_of l)

-- Which lists a message may have (RFC 3507, section 4.4.1).
use Rattle.std.specs.Prelude.{◌++◌, List, [], ◌∷◌, map, Contains}
use Rattle.std.specs.List.{flat_map}
use Rattle.adapt_bytes.specs.declared.method.Method.{Method}
use Rattle.adapt_bytes.specs.declared.method.Method.TheVariants.{Reqmod, Respmod, Options}
use Rattle.encapsulated.specs.declared.message.Direction.{Direction}
use Rattle.encapsulated.specs.declared.message.Direction.TheVariants.{Request, Response}
use Rattle.encapsulated.specs.declared.parts.BodyPart.{BodyPart}
use Rattle.encapsulated.specs.declared.parts.BodyPart.TheVariants.{ReqBody, ResBody, OptBody, NullBody}
use Rattle.encapsulated.specs.declared.parts.Part.{Part}
use Rattle.encapsulated.specs.declared.parts.Part.TheVariants.{ReqHdr, ResHdr, Body}

-- The RFC's five rows, and one for OPTIONS requests, of which it has none. A row has heads, each of which
-- may be missing, and a body, for which null-body may stand; a REQMOD response has either of two.
abbrev pub rows : Method → Direction → List (List Part × BodyPart)
rows Reqmod Request = (ReqHdr ∷ [], ReqBody) ∷ []
rows Reqmod Response = (ReqHdr ∷ [], ReqBody) ∷ (ResHdr ∷ [], ResBody) ∷ []
rows Respmod Request = (ReqHdr ∷ ResHdr ∷ [], ResBody) ∷ []
rows Respmod Response = (ResHdr ∷ [], ResBody) ∷ []
rows Options Request = ([], NullBody) ∷ []
rows Options Response = ([], OptBody) ∷ []

-- the heads with each of them there or missing
abbrev pub some_of : List Part → List (List Part)
some_of [] = [] ∷ []
some_of (head ∷ heads) = map (λ named. head ∷ named) (some_of heads) ++ some_of heads

-- the lists of a row: some of its heads, and then its body or null-body
abbrev pub lists_of : List Part → BodyPart → List (List Part)
lists_of heads body = flat_map (λ named. (named ++ Body body ∷ []) ∷ (named ++ Body NullBody ∷ []) ∷ []) (some_of heads)

-- the lists that a message may have, each whole
abbrev pub allowed : Method → Direction → List (List Part)
allowed method direction = flat_map (λ row. lists_of row.0 row.1) (rows method direction)

-- the names are the first of some list
abbrev pub IsFront : List (List Part) → List Part → Type 0
IsFront lists names = (more : List Part) × Contains lists (names ++ more)

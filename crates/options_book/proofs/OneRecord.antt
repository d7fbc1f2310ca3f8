-- A response is one record at most.
use Rattle.std.proofs.Common.{◌≡◌, ℕ, List, [], ◌∷◌, Option, Some, None, sym, ◌∙◌, ap}
use Rattle.std.specs.Prelude.{codes}
use Rattle.adapt_bytes.proofs.Spellings.{spells_one}
use Rattle.adapt_bytes.specs.Fields.{FieldList, values_of}
use Rattle.icap_head.specs.Heads.{Response}
use Rattle.trace_core.specs.declared.history.Point.{Point}
use Rattle.options_book.specs.Numbers.{IsNumber}
use Rattle.options_book.specs.Transfer.{Lists}
use Rattle.options_book.specs.Options.{Options, IsRecordOf, HasTag, unquoted}

-- the fields of one name say one number, or that there is none
one_number : (values : List (List ℕ)) (n m : Option ℕ) → IsNumber values n → IsNumber values m → n ≡ m
one_number [] n m a b = a ∙ sym b
one_number (text ∷ values) None m a b = absurd a
one_number (text ∷ values) (Some n) None a b = absurd b
one_number (text ∷ values) (Some n) (Some m) a b = ap (λ (k : ℕ). Some k) (spells_one 10 n m text a.1.0 b.1.0)

-- two texts are the same where the options that have them are
some_same : (v w : List ℕ) → Some v ≡ Some w → v ≡ w
some_same v w e = cc

-- the fields of a response have one tag at most
one_tag : (fields : FieldList) (a b : List ℕ) → HasTag fields a → HasTag fields b → a ≡ b
one_tag fields a b s t = s.tag_is ∙ ap unquoted (some_same s.value t.value (sym s.first ∙ t.first)) ∙ sym t.tag_is

-- records with the same tag, numbers, lists and moment are the same
of_parts : (a b : Options) → a.tag ≡ b.tag → a.preview ≡ b.preview → a.connections ≡ b.connections → a.ttl ≡ b.ttl → a.lists ≡ b.lists
    → a.read_at ≡ b.read_at → a ≡ b
of_parts a b t p c l ls r =
    ap (λ (x : List ℕ). made x a.preview a.connections a.ttl a.lists a.read_at) t
    ∙ ap (λ (x : Option ℕ). made b.tag x a.connections a.ttl a.lists a.read_at) p
    ∙ ap (λ (x : Option ℕ). made b.tag b.preview x a.ttl a.lists a.read_at) c
    ∙ ap (λ (x : Option ℕ). made b.tag b.preview b.connections x a.lists a.read_at) l
    ∙ ap (λ (x : Lists). made b.tag b.preview b.connections b.ttl x a.read_at) ls
    ∙ ap (λ (x : ℕ). made b.tag b.preview b.connections b.ttl b.lists x) r
  where
    made : List ℕ → Option ℕ → Option ℕ → Option ℕ → Lists → ℕ → Options
    made tag preview connections ttl lists read_at =
        record { tag = tag; preview = preview; connections = connections; ttl = ttl; lists = lists; read_at = read_at }

-- a response that is read at one moment is one record at most
pub one_record : (point : Point) (moment : ℕ) (response : Response) (a b : Options) → IsRecordOf point moment response a
    → IsRecordOf point moment response b → a ≡ b
one_record point moment response a b s t = of_parts a b
    (one_tag response.fields a.tag b.tag s.tag t.tag)
    (one_number (values_of (codes "Preview") response.fields) a.preview b.preview s.numbers.preview_is t.numbers.preview_is)
    (one_number (values_of (codes "Max-Connections") response.fields) a.connections b.connections s.numbers.connections_is
    t.numbers.connections_is)
    (one_number (values_of (codes "Options-TTL") response.fields) a.ttl b.ttl s.numbers.ttl_is t.numbers.ttl_is)
    (s.lists ∙ sym t.lists)
    (s.read_at ∙ sym t.read_at)

-- What an OPTIONS response says of a service (RFC 3507, section 4.10.2), by its fields.
use Rattle.std.specs.Prelude.{◌≡◌, ◌≢◌, ℕ, ◌-◌, ◌<◌, ◌≤◌, Bool, true, ◌&&◌, nat_le, ◌==◌, ◌⊎◌, List, [], ◌∷◌, length, take, drop}
use Rattle.std.specs.Prelude.{slice_index, codes, Option, Some, if◌then◌else◌, bytes_eq, IfSome, min, option_map}
use Rattle.std.specs.List.{list_any}
use Rattle.adapt_bytes.specs.Text.{comma_items}
use Rattle.adapt_bytes.specs.declared.limits.TheConstants.{MAX_CONNECTIONS}
use Rattle.adapt_bytes.specs.Fields.{FieldList, values_of}
use Rattle.icap_head.specs.Fields.{first_of}
use Rattle.icap_head.specs.Heads.{Response}
use Rattle.encapsulated.specs.Layouts.{IsLayout}
use Rattle.adapt_bytes.specs.Methods.{method_name}
use Rattle.options_book.specs.declared.judged.TheConstants.{MAX_ACCEPTED_TAG}
use Rattle.encapsulated.specs.declared.Layout.{Layout}
use Rattle.adapt_bytes.specs.declared.Method.TheVariants as Methods
use Rattle.encapsulated.specs.declared.Direction.TheVariants as Directions
use Rattle.trace_core.specs.declared.history.Point.{Point}
use Rattle.trace_core.specs.Points.{method_of}
use Rattle.options_book.specs.Numbers.{IsNumber}
use Rattle.options_book.specs.Transfer.{Lists, items_of, kept_lists}
use Rattle.options_book.specs.declared.transfer.TransferLists.{TransferLists}
use Rattle.options_book.specs.declared.faults.OptFault.{OptFault}
use Rattle.options_book.specs.declared.faults.OptFault.TheVariants as Faults

-- a comma-separated list has the item, in its exact case
abbrev pub lists_item : List ℕ → List ℕ → Bool
lists_item list item = list_any (λ found. bytes_eq found item) (comma_items list)

-- the Methods fields name the method of the point
abbrev pub serves : Point → FieldList → Bool
serves point fields = list_any (λ value. lists_item value (method_name (method_of point))) (values_of (codes "Methods") fields)

-- begins and ends with a quote, each of its own (RFC 3507, section 4.7)
abbrev pub is_quoted : List ℕ → Bool
is_quoted text = nat_le 2 (length text) && (slice_index text 0 == 34) && (slice_index text (length text - 1) == 34)

-- the text without its quotes, which come off only as a pair
abbrev pub unquoted : List ℕ → List ℕ
unquoted text = if is_quoted text then take (length text - 2) (drop 1 text) else text

-- the first ISTag field has this tag, without its quotes: of 1 to 256 bytes (RFC 3507, section 4.7)
pub record HasTag (fields : FieldList) (tag : List ℕ) : Type 0 where
  pub value : List ℕ
  pub first : first_of (codes "ISTag") fields ≡ Some value
  pub tag_is : tag ≡ unquoted value
  pub some : 1 ≤ length tag
  pub fits : length tag ≤ MAX_ACCEPTED_TAG

-- the three numbers, in this order: the preview's size, the most connections, and the seconds that the response stays fresh
pub record AreNumbers (fields : FieldList) (preview connections ttl : Option ℕ) : Type 0 where
  pub preview_is : IsNumber (values_of (codes "Preview") fields) preview
  pub connections_is : IsNumber (values_of (codes "Max-Connections") fields) connections
  pub ttl_is : IsNumber (values_of (codes "Options-TTL") fields) ttl
  pub not_none : connections ≢ Some 0

-- an OPTIONS response may have this Encapsulated list
abbrev pub IsOptionsList : List ℕ → Type 0
IsOptionsList text = (layout : Layout) × IsLayout Methods.Options Directions.Response text layout

-- there is no Encapsulated field, or one whose list an OPTIONS response may have (RFC 3507, section 4.4.1)
abbrev pub IsEncapsulated : FieldList → Type 0
IsEncapsulated fields =
    (values_of (codes "Encapsulated") fields ≡ [])
    ⊎ ((text : List ℕ) × (values_of (codes "Encapsulated") fields ≡ text ∷ []) × IsOptionsList text)

-- the items of the Transfer fields
abbrev pub transfer_lists : FieldList → Lists
transfer_lists fields = record {
  complete = items_of (values_of (codes "Transfer-Complete") fields);
  preview = items_of (values_of (codes "Transfer-Preview") fields);
  ignore = items_of (values_of (codes "Transfer-Ignore") fields);
}

-- what a record holds of a response: its tag, its numbers, its lists, and the moment of its reading, in seconds
pub record Options : Type 0 where
  pub tag : List ℕ
  pub preview : Option ℕ
  pub connections : Option ℕ
  pub ttl : Option ℕ
  pub lists : Lists
  pub read_at : ℕ

-- the same from the fields of a record
abbrev pub options_of : List ℕ → Option ℕ → Option ℕ → Option ℕ → TransferLists → ℕ → Options
options_of tag preview connections ttl lists read_at = record {
  tag = tag;
  preview = preview;
  connections = connections;
  ttl = ttl;
  lists = kept_lists lists;
  read_at = read_at;
}

-- the response says this of a point's service, read at this moment
pub record IsRecordOf (point : Point) (moment : ℕ) (response : Response) (options : Options) : Type 0 where
  pub success : response.status ≡ 200
  pub method : serves point response.fields ≡ true
  pub tag : HasTag response.fields options.tag
  pub numbers : AreNumbers response.fields options.preview options.connections options.ttl
  pub encapsulated : IsEncapsulated response.fields
  pub lists : options.lists ≡ transfer_lists response.fields
  pub read_at : options.read_at ≡ moment

-- the faults by their numbers
abbrev pub fault_number : OptFault → ℕ
fault_number Faults.Status = 1
fault_number Faults.NoMethods = 2
fault_number Faults.NoTag = 3
fault_number Faults.Number = 4
fault_number Faults.Encapsulated = 5
fault_number Faults.NoMemory = 6

-- where each fault stands: no earlier one does
abbrev pub RefusesOptions : OptFault → Point → Response → Type 0
RefusesOptions Faults.Status point response = response.status ≢ 200
RefusesOptions Faults.NoMethods point response =
    (response.status ≡ 200) × (serves point response.fields ≢ true)
RefusesOptions Faults.NoTag point response =
    (response.status ≡ 200) × (serves point response.fields ≡ true)
    × ((tag : List ℕ) → ¬ (HasTag response.fields tag))
RefusesOptions Faults.Number point response =
    (response.status ≡ 200) × (serves point response.fields ≡ true)
    × ((tag : List ℕ) × HasTag response.fields tag)
    × ((preview connections ttl : Option ℕ) → ¬ (AreNumbers response.fields preview connections ttl))
RefusesOptions Faults.Encapsulated point response =
    (response.status ≡ 200) × (serves point response.fields ≡ true)
    × ((tag : List ℕ) × HasTag response.fields tag)
    × ((preview : Option ℕ) × (connections : Option ℕ) × (ttl : Option ℕ) × AreNumbers response.fields preview connections ttl)
    × ¬ (IsEncapsulated response.fields)
RefusesOptions Faults.NoMemory point response = ⊥

-- the record serves at this moment: fewer seconds than its time to live have passed, and the last tag, if there is one, is its
-- own; tags before the last one don't count
pub record IsFresh (options : Options) (moment : ℕ) (last : Option (List ℕ)) : Type 0 where
  pub in_time : IfSome options.ttl (λ ttl. moment - options.read_at < ttl)
  pub same_tag : IfSome last (λ tag. unquoted tag ≡ options.tag)

-- how many connections may be open: Max-Connections, up to the most
abbrev pub most_connections : Options → Option ℕ
most_connections options = option_map (min MAX_CONNECTIONS) options.connections

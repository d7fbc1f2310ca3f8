-- The Transfer lists of an OPTIONS response (RFC 3507, section 4.10.2).
use Rattle.std.specs.Prelude.{ℕ, List, [], ◌∷◌, ◌++◌, map, codes, Option, Some, None, if◌then◌else◌, unwrap_or}
use Rattle.std.specs.Global.{Vec}
use Rattle.adapt_bytes.specs.Text.{comma_items, is_among}
use Rattle.options_book.specs.declared.transfer.Treat.{Treat}
use Rattle.options_book.specs.declared.transfer.Treat.TheVariants.{Complete, Preview, Ignore}
use Rattle.options_book.specs.declared.transfer.TransferLists.{TransferLists}

-- the items of comma-separated lists, one list after the other
abbrev pub items_of : List (List ℕ) → List (List ℕ)
items_of [] = []
items_of (list ∷ lists) = comma_items list ++ items_of lists

-- the items of the three fields
pub record Lists : Type 0 where
  pub complete : List (List ℕ)
  pub preview : List (List ℕ)
  pub ignore : List (List ℕ)

-- what a vector has
abbrev pub vec_bytes : Vec ℕ → List ℕ
vec_bytes v = v.items

-- the items that a record has
abbrev pub kept_lists : TransferLists → Lists
kept_lists t = record {
  complete = map vec_bytes t.complete.items;
  preview = map vec_bytes t.preview.items;
  ignore = map vec_bytes t.ignore.items;
}

-- what the lists say of an item: Complete wins, then Preview, then Ignore
abbrev pub listed : Lists → List ℕ → Option Treat
listed lists item =
    if is_among lists.complete item then Some Complete
    else if is_among lists.preview item then Some Preview
    else if is_among lists.ignore item then Some Ignore
    else None

-- an extension that is listed goes by its list; any other one, and a path with none, by the list of `*`; else Complete
abbrev pub treat_of : Lists → Option (List ℕ) → Treat
treat_of lists None = unwrap_or (listed lists (codes "*")) Complete
treat_of lists (Some item) = unwrap_or (listed lists item) (unwrap_or (listed lists (codes "*")) Complete)

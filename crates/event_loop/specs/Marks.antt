-- Which exchanges are marked.
use Rattle.std.specs.Prelude.{ℕ, Bool, false, length, slice_index_or}
use Rattle.event_loop.specs.declared.ready_list.ReadyList.{ReadyList}

-- the exchange under this key is marked
abbrev pub is_marked : ReadyList → ℕ → Bool
is_marked list key = slice_index_or list.marked.items key false

-- how many keys there are: they are below this number
abbrev pub count : ReadyList → ℕ
count list = length list.marked.items

-- What the wires of a running transaction gave and took since it began, over all of its calls.
use Rattle.std.specs.Prelude.{◌≡◌, ℕ, ◌<◌, ◌++◌, true, List, [], Option, Some, None, MatchOption}
use Rattle.wire_kit.specs.Past.{Past, IsLater}
use Rattle.wire_kit.specs.declared.wire.Wire.{Ghosts as Wire}
use Rattle.adapt_sides.specs.Turns.{Given}
use Rattle.adapt_turn.specs.declared.ends.FreedConnection.{FreedConnection}
use Rattle.adapt_turn.specs.Stands.{Texts, joined}
use Rattle.proxy_rules.specs.Grown.{Grown}
use Rattle.proxy_rules.specs.Wires.{begun_with}

-- How a transaction began. Its wires are as they were then, and the source's as it was before the first byte of the message was read of it.
pub record Snapshot (A W C : Type 0) : Type 0 where
  -- the request that was offered, up to its chunks
  pub request : List ℕ
  -- bytes of the message that the source's wire had given before: they were left over from the message before it
  pub ahead : List ℕ
  -- bytes that the source's wire took from the first read of the message up to the transaction's beginning
  pub beside : List ℕ
  pub source : A
  pub next : C
  -- the service's connection as the request began on it: at the beginning, or in the place of a broken one
  pub line : Option W
  -- and as it was when it was given up
  pub given : Option W

-- no connection was given up yet
abbrev pub first_snapshot : {A W C : Type 0} → (request ahead beside : List ℕ) → A → C → Option W → Snapshot A W C
first_snapshot request ahead beside source next line =
    record { request = request; ahead = ahead; beside = beside; source = source; next = next; line = line; given = None }

-- the same beginning, where the request began anew on this connection
abbrev pub anew_on : {A W C : Type 0} → Option W → Snapshot A W C → Snapshot A W C
anew_on line s = record s { line = line; given = None }

-- a connection that is held, or where there is none the one that was given up
abbrev pub held_or : {W : Type 0} → (held given : Option W) → Option W
held_or None given = given
held_or (Some wire) given = Some wire

-- the same beginning, where this connection was given up, if one was
abbrev pub given_up : {A W C : Type 0} → Option W → Snapshot A W C → Snapshot A W C
given_up given s = record s { given = held_or given s.given }

-- the wire of a connection that was given up, if one was
abbrev pub freed_wire : {W : Type 0} → Option (FreedConnection W) → Option W
freed_wire None = None
freed_wire (Some free) = Some free.wire

-- the source's wire gave this, whose end it counted, and took these bytes
abbrev pub SourceGrown : (before after : Past → Type 0) → (read : Given) → (taken : List ℕ) → Type 0
SourceGrown before after read taken = (p : Past) → before p
    → (q : Past) × after q × IsLater p read.bytes taken q × (read.ended ≡ true → p.ends < q.ends)

-- a connection as it was, and as it is or was when it was given up: it gave and took these bytes between; without one there are none
abbrev pub LineGrown : {W : Type 0} → Wire W → (first last : Option W) → (given taken : List ℕ) → Type 0
LineGrown w first last given taken =
    MatchOption first ((last ≡ None) × (given ≡ []) × (taken ≡ [])) (λ f. MatchOption last ⊥ (λ l. Grown (w.past f) (w.past l) given taken))

-- Since this beginning the wires gave and took just the texts of which this is so: each past that a wire may have had then, with just these
-- texts, is one that it may have now. Of the service's connection they are what it gave and took since the request began on it.
pub record Since {A W C : Type 0} (a : Wire A) (w : Wire W) (c : Wire C) (s : Snapshot A W C) (took : List ℕ → Texts → Type 0) (source : A)
    (line : Option W) (next : C) : Type 0 where
  pub texts : Texts
  pub took_is : took s.request (joined (begun_with s.ahead) texts)
  pub source_is : SourceGrown (a.past s.source) (a.past source) texts.source_read (s.beside ++ texts.back_taken)
  pub line_is : LineGrown w s.line (held_or line s.given) texts.service_read texts.service_taken
  pub next_is : Grown (c.past s.next) (c.past next) [] texts.next_taken

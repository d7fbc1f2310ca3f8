-- What a call says of its connection that found nothing to do now.
use Rattle.std.specs.Prelude.{◌<◌, ◌⊎◌}
use Rattle.wire_kit.specs.Past.{Past}

-- the connection answered Wait to a read in this call
abbrev pub GivesNone : (before after : Past → Type 0) → Type 0
GivesNone before after = (p : Past) → before p → (q : Past) × after q × (p.read_waits < q.read_waits)

-- it answered Wait to a read or to a write, unless nothing was left to do
abbrev pub MovesNone : (done : Type 0) → (before after : Past → Type 0) → Type 0
MovesNone done before after = (p : Past) → before p
    → (q : Past) × after q × ((p.read_waits < q.read_waits) ⊎ ((p.write_waits < q.write_waits) ⊎ done))

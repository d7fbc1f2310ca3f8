-- What one read of a wire makes of the raw bytes.
use Rattle.std.specs.Prelude.{◌≡◌, ℕ, ◌+◌, ◌<◌, List, ◌++◌, length}
use Rattle.wire_kit.specs.Past.{Past, Gave}
use Rattle.adapt_sides.specs.declared.filling.Filled.{Filled}
use Rattle.adapt_sides.specs.declared.filling.Filled.TheVariants as filled

-- bytes came after the raw ones; or no byte came, for the wire's reason
abbrev pub IsFilled : (Past → Type 0) → (Past → Type 0) → List ℕ → List ℕ → Filled → Type 0
IsFilled before after old new filled.Bytes = (given : List ℕ) × (0 < length given) × (new ≡ old ++ given) × Gave before after given
IsFilled before after old new filled.Ended = (new ≡ old) × ((p : Past) → before p
    → after (record {
      read = p.read;
      taken = p.taken;
      ends = p.ends + 1;
      read_waits = p.read_waits;
      write_waits = p.write_waits;
      faults = p.faults;
      reads = p.reads;
      writes = p.writes;
    }))
IsFilled before after old new filled.Wait = (new ≡ old) × ((p : Past) → before p
    → after (record {
      read = p.read;
      taken = p.taken;
      ends = p.ends;
      read_waits = p.read_waits + 1;
      write_waits = p.write_waits;
      faults = p.faults;
      reads = p.reads;
      writes = p.writes;
    }))
IsFilled before after old new filled.Failed = (new ≡ old) × ((p : Past) → before p
    → after (record {
      read = p.read;
      taken = p.taken;
      ends = p.ends;
      read_waits = p.read_waits;
      write_waits = p.write_waits;
      faults = p.faults + 1;
      reads = p.reads;
      writes = p.writes;
    }))
IsFilled before after old new filled.NoMemory = (new ≡ old) × ((p : Past) → before p → after p)

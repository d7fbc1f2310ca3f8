-- What has happened on a wire: the bytes that it gave and took, and how often it gave each answer.
use Rattle.std.specs.Prelude.{◌≡◌, ℕ, ◌+◌, ◌<◌, ◌≤◌, ⊤, List, [], ◌++◌, take, length, Option, Some, None, IfSome}
use Rattle.wire_kit.specs.declared.wire.Got.{Got}
use Rattle.wire_kit.specs.declared.wire.Got.TheVariants as got
use Rattle.wire_kit.specs.declared.wire.Put.{Put}
use Rattle.wire_kit.specs.declared.wire.Put.TheVariants as put

-- the bytes read and taken so far; how often the wire answered that the other side has ended, Wait and Fault; and in how
-- many reads and writes the bytes went over
pub record Past : Type 0 where
  pub read : List ℕ
  pub taken : List ℕ
  pub ends : ℕ
  pub read_waits : ℕ
  pub write_waits : ℕ
  pub faults : ℕ
  pub reads : ℕ
  pub writes : ℕ

-- before the first call
abbrev pub nothing_yet : Past
nothing_yet = record { read = []; taken = []; ends = 0; read_waits = 0; write_waits = 0; faults = 0; reads = 0; writes = 0 }

-- what a read gave: from 1 to as many bytes as there is room for
abbrev pub FitsRoom : ℕ → Got → Type 0
FitsRoom room (got.Bytes n) = (1 ≤ n) × (n ≤ room)
FitsRoom room _ = ⊤

-- what a write took: from 1 to all bytes that were offered
abbrev pub FitsPut : ℕ → Put → Type 0
FitsPut len (put.Took n) = (1 ≤ n) × (n ≤ len)
FitsPut len _ = ⊤

-- after a read that left these bytes in its buffer
abbrev pub after_read : Past → List ℕ → Got → Past
after_read p buf (got.Bytes n) = record {
  read = p.read ++ take n buf;
  taken = p.taken;
  ends = p.ends;
  read_waits = p.read_waits;
  write_waits = p.write_waits;
  faults = p.faults;
  reads = p.reads + 1;
  writes = p.writes;
}
after_read p buf got.Ended = record {
  read = p.read;
  taken = p.taken;
  ends = p.ends + 1;
  read_waits = p.read_waits;
  write_waits = p.write_waits;
  faults = p.faults;
  reads = p.reads;
  writes = p.writes;
}
after_read p buf got.Wait = record {
  read = p.read;
  taken = p.taken;
  ends = p.ends;
  read_waits = p.read_waits + 1;
  write_waits = p.write_waits;
  faults = p.faults;
  reads = p.reads;
  writes = p.writes;
}
after_read p buf got.Fault = record {
  read = p.read;
  taken = p.taken;
  ends = p.ends;
  read_waits = p.read_waits;
  write_waits = p.write_waits;
  faults = p.faults + 1;
  reads = p.reads;
  writes = p.writes;
}

-- after these bytes were offered
abbrev pub after_write : Past → List ℕ → Put → Past
after_write p bytes (put.Took n) = record {
  read = p.read;
  taken = p.taken ++ take n bytes;
  ends = p.ends;
  read_waits = p.read_waits;
  write_waits = p.write_waits;
  faults = p.faults;
  reads = p.reads;
  writes = p.writes + 1;
}
after_write p bytes put.Wait = record {
  read = p.read;
  taken = p.taken;
  ends = p.ends;
  read_waits = p.read_waits;
  write_waits = p.write_waits + 1;
  faults = p.faults;
  reads = p.reads;
  writes = p.writes;
}
after_write p bytes put.Fault = record {
  read = p.read;
  taken = p.taken;
  ends = p.ends;
  read_waits = p.read_waits;
  write_waits = p.write_waits;
  faults = p.faults + 1;
  reads = p.reads;
  writes = p.writes;
}

-- the part of the offered bytes that was taken
abbrev pub part_taken : Put → List ℕ → List ℕ
part_taken (put.Took n) bytes = take n bytes
part_taken put.Wait bytes = []
part_taken put.Fault bytes = []

-- One write at most: after these bytes were offered, or after none were.
abbrev pub after_offer : Past → List ℕ → Option Put → Past
after_offer p bytes None = p
after_offer p bytes (Some answer) = after_write p bytes answer

-- what such a turn brought onto the wire
abbrev pub delta_of : List ℕ → Option Put → List ℕ
delta_of bytes None = []
delta_of bytes (Some answer) = part_taken answer bytes

-- a turn on a wire: it offered these bytes once, and this was the answer; or it offered nothing
pub record Offers (before after : Past → Type 0) (bytes : List ℕ) (answer : Option Put) : Type 0 where
  pub each : (p : Past) → before p → after (after_offer p bytes answer)
  pub fits : IfSome answer (FitsPut (length bytes))

-- after a read that gave these bytes, on a wire that may have had each of these pasts
abbrev pub Gave : (Past → Type 0) → (Past → Type 0) → List ℕ → Type 0
Gave before after given = (p : Past) → before p → after (record {
  read = p.read ++ given;
  taken = p.taken;
  ends = p.ends;
  read_waits = p.read_waits;
  write_waits = p.write_waits;
  faults = p.faults;
  reads = p.reads + 1;
  writes = p.writes;
})

-- One read at most: after an answer that gave these bytes, or after none.
abbrev pub after_ask : Past → List ℕ → Option Got → Past
after_ask p given None = p
after_ask p given (Some answer) = after_read p given answer

-- the bytes that such a read gave, at least one; or it gave none
abbrev pub IsGiven : List ℕ → Option Got → Type 0
IsGiven given (Some (got.Bytes n)) = (n ≡ length given) × (0 < n)
IsGiven given _ = given ≡ []

-- a turn on a wire: it read once, and this was the answer, with these bytes; or it didn't read
pub record ReadsAtMostOnce (before after : Past → Type 0) (given : List ℕ) (answer : Option Got) : Type 0 where
  pub each : (p : Past) → before p → after (after_ask p given answer)
  pub fits : IsGiven given answer

-- the wire after a call in which it gave and took these bytes; no count falls
pub record IsLater (p : Past) (given taken : List ℕ) (q : Past) : Type 0 where
  pub read : q.read ≡ p.read ++ given
  pub out : q.taken ≡ p.taken ++ taken
  pub ends : p.ends ≤ q.ends
  pub read_waits : p.read_waits ≤ q.read_waits
  pub write_waits : p.write_waits ≤ q.write_waits
  pub faults : p.faults ≤ q.faults

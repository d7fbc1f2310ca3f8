-- What an answer of the system's means to a wire.
use Rattle.std.specs.Prelude.{ℕ, ◌==◌, Bool, true, false, if◌then◌else◌, Option, None, Some, Result, Ok, Err}
use Rattle.std.specs.IoError.{error_kind}
use Rattle.std_io.specs.declared.io.error.Error.{Error}
use Rattle.std_io.specs.declared.io.kind.ErrorKind.{ErrorKind}
use Rattle.std_io.specs.declared.io.kind.ErrorKind.TheVariants.{WouldBlock, Interrupted}
use Rattle.wire_kit.specs.Past.{Past}
use Rattle.wire_kit.specs.declared.wire.Got.{Got}
use Rattle.wire_kit.specs.declared.wire.Got.TheVariants as got
use Rattle.wire_kit.specs.declared.wire.Put.{Put}
use Rattle.wire_kit.specs.declared.wire.Put.TheVariants as put

-- the call may be made again: nothing is there now, or a signal broke it off
abbrev pub is_for_later : ErrorKind → Bool
is_for_later WouldBlock = true
is_for_later Interrupted = true
is_for_later _ = false

-- what a read came to: no byte is the end of the other side's bytes, and an error is a fault, but for one that is for later
abbrev pub got_in : Result ℕ Error → Option Got
got_in (Ok n) = if n == 0 then Some got.Ended else Some (got.Bytes n)
got_in (Err error) = if is_for_later (error_kind error) then None else Some got.Fault

-- what a write came to: so many bytes were taken, and an error is a fault, but for one that is for later
abbrev pub put_in : Result ℕ Error → Option Put
put_in (Ok n) = if n == 0 then None else Some (put.Took n)
put_in (Err error) = if is_for_later (error_kind error) then None else Some put.Fault

-- what connecting came to: nothing yet, or a fault
abbrev pub put_by : Bool → Option Put
put_by true = None
put_by false = Some put.Fault

-- a past without the answers that the wire waits: the system isn't asked for all of these
abbrev pub but_waits : Past → Past
but_waits p = record {
  read = p.read;
  taken = p.taken;
  ends = p.ends;
  read_waits = 0;
  write_waits = 0;
  faults = p.faults;
  reads = p.reads;
  writes = p.writes;
}

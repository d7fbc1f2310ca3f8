-- The texts and the statuses with which the program ends without an answer.
use Rattle.std.specs.Prelude.{ℕ, List, ◌++◌, codes}
use Rattle.adapt_bytes.specs.Numeral.{numeral}
use Rattle.proxy_commands.specs.declared.error.Error.{Error}
use Rattle.proxy_commands.specs.declared.error.Error.TheVariants.{Usage, ReadFailed, WriteFailed, InputTooLong, Line, NoMemory}

abbrev pub reason : Error → List ℕ
reason Usage = codes "usage"
reason ReadFailed = codes "read failed"
reason WriteFailed = codes "write failed"
reason InputTooLong = codes "input too long"
reason (Line number) = codes "line " ++ numeral 10 number
reason NoMemory = codes "out of memory"

-- the line on standard error
abbrev pub error_text : Error → List ℕ
error_text error = codes "adaptproxy: " ++ reason error ++ codes "\n"

-- 1 where the system failed, 2 where the arguments or the input are at fault
abbrev pub status_of : Error → ℕ
status_of ReadFailed = 1
status_of WriteFailed = 1
status_of NoMemory = 1
status_of Usage = 2
status_of InputTooLong = 2
status_of (Line number) = 2

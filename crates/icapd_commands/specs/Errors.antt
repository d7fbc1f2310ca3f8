-- What the program says where it ends without an answer, and its exit status.
use Rattle.std.specs.Prelude.{ℕ, ◌++◌, List, [], codes, string_bytes}
use Rattle.icapd_commands.specs.declared.error.IcapdError.{IcapdError}
use Rattle.icapd_commands.specs.declared.error.IcapdError.TheVariants.{Usage, ReadFailed, WriteFailed, InputTooLong, Config, CannotListen}
use Rattle.icapd_commands.specs.declared.error.IcapdError.TheVariants.{NoMemory, Key as OfKey}
use Rattle.icapd_commands.specs.declared.error.Key.{Key}
use Rattle.icapd_commands.specs.declared.error.Key.TheVariants.{Listen, Istag, Max, Ttl, Preview, Deadline, Unknown}

-- a key of the configuration
abbrev pub key_text : Key → List ℕ
key_text Listen = codes "listen"
key_text Istag = codes "istag"
key_text Max = codes "max"
key_text Ttl = codes "ttl"
key_text Preview = codes "preview"
key_text Deadline = codes "deadline"
key_text (Unknown key) = string_bytes key

-- the reason, without the key
abbrev pub reason_text : IcapdError → List ℕ
reason_text Usage = codes "usage"
reason_text ReadFailed = codes "read failed"
reason_text WriteFailed = codes "write failed"
reason_text InputTooLong = codes "input too long"
reason_text Config = codes "config"
reason_text (OfKey key) = codes "config "
reason_text CannotListen = codes "cannot listen"
reason_text NoMemory = codes "out of memory"

-- the key that the configuration is refused for
abbrev pub named : IcapdError → List ℕ
named (OfKey key) = key_text key
named other = []

-- the line on standard error
abbrev pub error_text : IcapdError → List ℕ
error_text error = ((codes "icapd: " ++ reason_text error) ++ named error) ++ codes "\n"

-- 1 where the system failed, 2 where the arguments or the input are at fault
abbrev pub status_of : IcapdError → ℕ
status_of ReadFailed = 1
status_of WriteFailed = 1
status_of NoMemory = 1
status_of CannotListen = 1
status_of Usage = 2
status_of InputTooLong = 2
status_of Config = 2
status_of (OfKey key) = 2

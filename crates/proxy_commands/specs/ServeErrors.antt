-- What `serve` says if it ends though nobody stopped it, or if its audit is missing, and its exit status.
use Rattle.std.specs.Prelude.{ℕ, List, ◌++◌, codes, string_bytes}
use Rattle.adapt_bytes.specs.Numeral.{numeral}
use Rattle.proxy_commands.specs.declared.serve_error.ServeError.{ServeError}
use Rattle.proxy_commands.specs.declared.serve_error.ServeError.TheVariants.{Ended, CannotRead, Config, Key, KeyLine, CannotListen}
use Rattle.proxy_commands.specs.declared.serve_error.ServeError.TheVariants.{CannotListenOn, NoAnswer, AuditMissing}
use Rattle.proxy_commands.specs.Errors.{error_text, status_of}

-- the end of a line that names another one
abbrev pub line_end : ℕ → List ℕ
line_end number = codes " line " ++ numeral 10 number ++ codes "\n"

-- the line on standard error
abbrev pub serve_error_text : ServeError → List ℕ
serve_error_text (Ended error) = error_text error
serve_error_text (CannotRead path) = (codes "adaptproxy: cannot read: " ++ string_bytes path) ++ codes "\n"
serve_error_text Config = codes "adaptproxy: config\n"
serve_error_text (Key key) = (codes "adaptproxy: config " ++ string_bytes key) ++ codes "\n"
serve_error_text (KeyLine key number) = (codes "adaptproxy: config " ++ string_bytes key) ++ line_end number
serve_error_text CannotListen = codes "adaptproxy: cannot listen\n"
serve_error_text (CannotListenOn address) = (codes "adaptproxy: cannot listen: " ++ string_bytes address) ++ codes "\n"
serve_error_text NoAnswer = codes "adaptproxy: no answer\n"
serve_error_text AuditMissing = codes "adaptproxy: audit missing\n"

-- 1 where the system failed, 2 where the configuration is at fault
abbrev pub serve_status_of : ServeError → ℕ
serve_status_of (Ended error) = status_of error
serve_status_of (CannotRead path) = 1
serve_status_of Config = 2
serve_status_of (Key key) = 2
serve_status_of (KeyLine key number) = 2
serve_status_of CannotListen = 1
serve_status_of (CannotListenOn address) = 1
serve_status_of NoAnswer = 1
serve_status_of AuditMissing = 1

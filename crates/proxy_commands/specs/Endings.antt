-- What `serve` says at its end, and what it ends with if it failed.
use Rattle.std.specs.Prelude.{ℕ, List, ◌++◌, codes}
use Rattle.adapt_bytes.specs.Numeral.{numeral}
use Rattle.shard_report.specs.declared.audit.StopAudit.{StopAudit}
use Rattle.shard_report.specs.declared.audit.ProxyFault.{ProxyFault}
use Rattle.shard_report.specs.declared.audit.ProxyFault.TheVariants.{System, Loop, Missing, NoMemory, Unheard}
use Rattle.proxy_commands.specs.declared.error.Error.TheVariants.{NoMemory as WithoutMemory, WriteFailed}
use Rattle.proxy_commands.specs.declared.serve_error.ServeError.{ServeError}
use Rattle.proxy_commands.specs.declared.serve_error.ServeError.TheVariants.{Ended, CannotListen, AuditMissing}

-- the line that is printed at the end
abbrev pub audit_text : StopAudit → List ℕ
audit_text a = (((((codes "audit rows " ++ numeral 10 a.rows) ++ codes " held ") ++ numeral 10 a.held) ++ codes " leased ")
    ++ numeral 10 a.leased) ++ codes "\n"

-- the error that a fault of the proxy's ends the program with
abbrev pub serve_error_of : ProxyFault → ServeError
serve_error_of System = CannotListen
serve_error_of Loop = CannotListen
serve_error_of Missing = AuditMissing
serve_error_of NoMemory = Ended WithoutMemory
serve_error_of Unheard = Ended WriteFailed

-- The faults of an audit by their numbers.
use Rattle.std.specs.Prelude.{ℕ}
use Rattle.service_pool.specs.declared.step.AuditFault.{AuditFault}
use Rattle.service_pool.specs.declared.step.AuditFault.TheVariants.{Missing}

abbrev pub audit_fault_number : AuditFault → ℕ
audit_fault_number Missing = 1

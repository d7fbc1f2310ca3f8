-- The faults by their numbers: of a reservation, of a capacity and of an audit.
use Rattle.std.specs.Prelude.{ℕ}
use Rattle.span_bank.specs.declared.step.OpenFault.{OpenFault}
use Rattle.span_bank.specs.declared.step.OpenFault.TheVariants as opens
use Rattle.span_bank.specs.declared.step.CapacityFault.{CapacityFault}
use Rattle.span_bank.specs.declared.step.CapacityFault.TheVariants as capacities
use Rattle.span_bank.specs.declared.step.AuditFault.{AuditFault}
use Rattle.span_bank.specs.declared.step.AuditFault.TheVariants as audits

abbrev pub open_fault_number : OpenFault → ℕ
open_fault_number (opens.Full claimed) = 1
open_fault_number opens.NoRow = 2

abbrev pub capacity_fault_number : CapacityFault → ℕ
capacity_fault_number (capacities.TooLow claimed) = 1
capacity_fault_number capacities.NoMemory = 2

abbrev pub audit_fault_number : AuditFault → ℕ
audit_fault_number audits.Missing = 1

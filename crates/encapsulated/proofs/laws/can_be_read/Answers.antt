-- A layout whose offsets have 64 bits can be read exactly where the message may have it: from its written text.
use Rattle.encapsulated.specs.Layouts.{written}
use Rattle.encapsulated.proofs.WriteBack.{reads_back}
use Rattle.encapsulated.proofs.laws.can_be_read.Goals as goal

pub returns : goal.returns
returns c = λ method direction layout fits. (
  λ read. read.1.may,
  λ may. (written layout, record { parts = reads_back layout fits.req_hdr fits.res_hdr fits.body; may = may }),
)

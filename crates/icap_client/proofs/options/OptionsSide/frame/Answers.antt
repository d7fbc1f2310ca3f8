-- A side that stays as it is frames nothing more.
use Rattle.std.proofs.Common.{refl}
use Rattle.icap_client.proofs.Skipping.{frames_same}
use Rattle.icap_client.proofs.options.OptionsSide.frame.Goals as goal

pub returns-in-Over-clause-frames : goal.returns-in-Over-clause-frames
returns-in-Over-clause-frames c = frames_same _ _ refl

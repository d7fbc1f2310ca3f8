-- A history that is sent as a script is read again, its events follow once more, and it answers alike.
use Rattle.std.proofs.Common.{refl}
use Rattle.proxy_commands.proofs.Printed.{printed_read}
use Rattle.proxy_commands.proofs.Rerun.{runs_again, answers_alike}
use Rattle.proxy_commands.proofs.laws.a_printed_history_runs_again.Goals as goal

pub returns : goal.returns
returns c = record { read = printed_read; runs = runs_again; same = λ plan events. refl; alike = answers_alike }

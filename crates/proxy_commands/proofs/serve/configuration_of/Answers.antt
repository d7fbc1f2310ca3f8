-- The fault of the text is why it is refused.
use Rattle.std.proofs.Common.{arith}
use Rattle.proxy_commands.proofs.ServeForms.{refused_so}
use Rattle.proxy_commands.proofs.serve.configuration_of.Goals as goal

pub returns-in-Err-clause-err : goal.returns-in-Err-clause-err
returns-in-Err-clause-err c =
    refused_so c.args.text.now c.in-Err.fault c.refused_as.result (omega arith) c.in-Err.ensures.err c.refused_as.ensures

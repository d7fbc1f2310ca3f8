-- A text has one output at most as a script, and one at most as a chunked body.
use Rattle.proxy_commands.proofs.Once.{output_once, chunks_once}
use Rattle.proxy_commands.proofs.laws.one_text_one_output.Goals as goal

pub returns : goal.returns
returns c = record { script = output_once; chunks = chunks_once }

-- A request that is read again has the bytes of its head and those left over.
use Rattle.shard_message.proofs.AgainLemmas.{again_of}
use Rattle.shard_message.proofs.withdrawal.request_of.Goals as goal

-- the request again has the bytes of its head and those left over, and so has what was read of it
pub returns : goal.returns
returns c =
    let side = c.in_ok-again.field-0.side in
    let same = c.in_ok-again.ensures in
    again_of c.args.request c.in_ok-again.field-0 c.read_again.result same.user same.same c.read_again.ensures.user
    (c.read_again.ensures.came side.raw.items same.begins)

-- The request that a response was to answer, read again, has the bytes of its head and those left over.
use Rattle.shard_message.proofs.AgainLemmas.{answered_of}
use Rattle.shard_message.proofs.withdrawal.request_answered.Goals as goal

-- the request again has the bytes of its head and those left over, and so has what was read of it
pub returns : goal.returns
returns c =
    let again = c.in_ok-into_request.field-0 in
    let same = c.in_ok-into_request.ensures in
    answered_of c.args.response.user again c.read_again.result same.user same.same c.read_again.ensures.user
    (c.read_again.ensures.came again.side.raw.items same.begins)

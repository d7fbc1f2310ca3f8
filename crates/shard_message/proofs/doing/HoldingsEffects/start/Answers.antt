-- What begins to move is the message that was held, by its plan, over the connections that were held.
use Rattle.std.proofs.Common.{rules}
use Rattle.shard_message.proofs.doing.HoldingsEffects.start.Goals as goal

pub returns-in-Ok-clause-begins : goal.returns-in-Ok-clause-begins
returns-in-Ok-clause-begins g c = λ moves. (
  search rules,
  record {
    arrival = c.in-Some.message;
    message_is = search rules;
    reserved = c.take_out-room.result;
    room_is = search rules;
    source = c.in-Some-take_connections.connections.user;
    user_is = search rules;
    hop = c.in-Some-take_connections.connections.origin;
    origin_is = search rules;
    manner = c.manner_of-manner.result;
    manner_is = c.manner_of-manner.ensures;
    tx = c.in-Ok.tx;
    moves = search rules;
    line = c.in-Some-take_connections.connections.service;
    line_is = search rules;
    begins_so = (c.in-Ok.ensures.begins, c.in-Ok.ensures.since);
  },
)

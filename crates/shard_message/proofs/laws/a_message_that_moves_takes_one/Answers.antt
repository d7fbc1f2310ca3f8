-- What a request's or a response's transaction says of its wires holds of the message's connections.
use Rattle.std.proofs.Math.Logic.{∥∥₁_map}
use Rattle.shard_message.specs.Outset.{of_request, of_response}
use Rattle.shard_message.proofs.laws.a_message_that_moves_takes_one.Goals as goal

pub returns-in-Request-clause-took : goal.returns-in-Request-clause-took
returns-in-Request-clause-took g c = λ s h. rw c.in-Request.is (rw c.deref.ensures at
    (c.a_running_transaction_takes_one_message.ensures.took (of_request s) (rw c.deref.ensures (rw c.in-Request.is at h))))

pub returns-in-Request-clause-some : goal.returns-in-Request-clause-some
returns-in-Request-clause-some g c =
    ∥∥₁_map c.a_running_transaction_takes_one_message.ensures.some (λ r. (
      record {
        request = r.0.request;
        ahead = r.0.ahead;
        beside = r.0.beside;
        user = r.0.source;
        origin = r.0.next;
        line = r.0.line;
        given = r.0.given;
      },
      rw c.in-Request.is (rw c.deref.ensures at r.1),
    ))

pub returns-in-Response-clause-took : goal.returns-in-Response-clause-took
returns-in-Response-clause-took g c = λ s h.
    rw c.in-Response.is (rw c.deref-in-Response.ensures at (c.a_running_transaction_takes_one_message-in-Response.ensures.took
    (of_response s) (rw c.deref-in-Response.ensures (rw c.in-Response.is at h))))

pub returns-in-Response-clause-some : goal.returns-in-Response-clause-some
returns-in-Response-clause-some g c =
    ∥∥₁_map c.a_running_transaction_takes_one_message-in-Response.ensures.some (λ r. (
      record {
        request = r.0.request;
        ahead = r.0.ahead;
        beside = r.0.beside;
        user = r.0.next;
        origin = r.0.source;
        line = r.0.line;
        given = r.0.given;
      },
      rw c.in-Response.is (rw c.deref-in-Response.ensures at r.1),
    ))

-- A message that begins to move.
use Rattle.std.specs.Prelude.{◌≡◌, Bool, Option, Some, Box}
use Rattle.std.specs.declared.alloc.Global.{Global}
use Rattle.proxy_rules.specs.Arrivals.{Arrival}
use Rattle.shard_message.specs.declared.planning.Planned.{Planned}
use Rattle.shard_message.specs.Begun.{Beginning, beginning}
use Rattle.shard_message.specs.Lines.{line_for}
use Rattle.shard_message.specs.declared.start.Manner.{Manner}

-- What is held sets out as one message, in the manner that its course asks for: the message that was read, by its plan, over the user's,
-- the service's and the origin's connection that were held.
pub record Starts {U S O C R M : Type 0} (planned : R → Option (Box Planned Global)) (wire : C → Option S) (is_manner : Manner → Type 0)
    (begins : Beginning → U → Option S → O → M → Type 0) (message : Option (Box Arrival Global)) (room : Option R) (user : Option U)
    (connection : Option C)
    (origin : Option O) (offered : Bool) (moving : Option M) : Type 0 where
  pub arrival : Box Arrival Global
  pub message_is : message ≡ Some arrival
  pub reserved : R
  pub room_is : room ≡ Some reserved
  pub source : U
  pub user_is : user ≡ Some source
  pub hop : O
  pub origin_is : origin ≡ Some hop
  pub manner : Manner
  pub manner_is : is_manner manner
  pub tx : M
  pub moves : moving ≡ Some tx
  pub line : Option S
  pub line_is : line ≡ line_for wire offered connection
  pub begins_so : begins (beginning (planned reserved) arrival.value manner) source line hop tx

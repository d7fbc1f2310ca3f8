-- The number of a peer in the tokens of connections.
use Rattle.std.specs.Prelude.{ℕ}
use Rattle.socket_wire.specs.declared.token.Peer.{Peer}
use Rattle.socket_wire.specs.declared.token.Peer.TheVariants.{User, Origin, Service}

abbrev pub peer_number : Peer → ℕ
peer_number User = 0
peer_number Origin = 1
peer_number Service = 2

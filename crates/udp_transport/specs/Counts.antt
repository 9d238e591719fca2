-- How many sockets there are.
use Rattle.std.specs.Prelude.{ℕ, vec_len}
use Rattle.udp_transport.specs.declared.sockets.Sockets.{Sockets}

abbrev pub socket_count : Sockets → ℕ
socket_count s = vec_len s.ends

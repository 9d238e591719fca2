-- What a process is seen as.
use Rattle.life.specs.Seen.{life_of}
use Rattle.serving.specs.declared.server.Server.{Server}
use Rattle.serving.specs.Processes.{ProcessState}
use Rattle.serving.specs.Serving.{ServerState}

abbrev pub server_of : {S : Type 0} → Server S → ServerState S
server_of server = record { life = life_of server.life; waiting = server.waiting; requests = server.requests }

abbrev pub process_of : {S : Type 0} → Server S → ProcessState S
process_of server = record {
  own = server.own;
  nodes = server.nodes;
  life = life_of server.life;
  waiting = server.waiting;
  requests = server.requests;
  timing = server.timing;
}

-- What a fake records, as what passes between a process, the other nodes and its clients.
use Rattle.serving.specs.Tapes.{Carried, Sent, Arrived, NothingCame, NothingHeard, Talk, Heard, Went, Told}
use Rattle.server_tests.specs.declared.fakes.Packet.{Packet}
use Rattle.server_tests.specs.declared.fakes.Packet.TheVariants as packet
use Rattle.server_tests.specs.declared.fakes.Said.{Said}
use Rattle.server_tests.specs.declared.fakes.Said.TheVariants as said

abbrev pub carried_by : Packet → Carried
carried_by (packet.Sent to bytes) = Sent to bytes.items
carried_by (packet.Came bytes) = Arrived bytes.items
carried_by packet.Nothing = NothingCame

abbrev pub talked_by : Said → Talk
talked_by (said.Heard connection text) = Heard connection text.items
talked_by (said.Went connection) = Went connection
talked_by (said.Told connection text) = Told connection text.items
talked_by (said.Nothing lines) = NothingHeard lines.items

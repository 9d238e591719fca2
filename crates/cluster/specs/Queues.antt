-- What queues in memory tell of what passed through them.
use Rattle.std.specs.Prelude.{List, map, option_map}
use Rattle.cluster.specs.Passages.{Passage, Sent as SentPassage, Polled as PolledPassage}
use Rattle.cluster.specs.declared.queues.Passed.{Passed}
use Rattle.cluster.specs.declared.queues.Passed.TheVariants.{Sent, Polled}

abbrev pub passage_of : Passed → Passage
passage_of (Sent from to bytes) = SentPassage from to bytes.items
passage_of (Polled node datagram) = PolledPassage node (option_map (λ v. v.items) datagram)

abbrev pub passages : List Passed → List Passage
passages tape = map passage_of tape

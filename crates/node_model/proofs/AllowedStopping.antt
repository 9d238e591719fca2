-- A node that goes down has done at most the write of its input, and that was allowed.
use Rattle.std.proofs.Common.{◌≡◌, ℕ, ◌<◌, Bool, true, false, refl, sym, ◌∙◌, subst, arith}
use Rattle.synod.specs.Records.{with_round}
use Rattle.synod.specs.Acts as act
use Rattle.synod.specs.Acts.{Local, Does}
use Rattle.synod.proofs.Doing.{does_one, does_then}
use Rattle.sessions.specs.declared.command.Command.{Command}
use Rattle.acceptor.specs.Accepting.{Accepting}
use Rattle.acceptor.specs.Protocol.{MayWrite}
use Rattle.acceptor.proofs.AllowedLemmas.{prepare_writes, accept_writes}
use Rattle.proposer.specs.Proposing.{next_round}
use Rattle.proposer.proofs.AllowedMoves.{stop_lem, stop_written_lem}
use Rattle.wire.specs.declared.frames.envelope.Envelope.{Envelope}
use Rattle.wire.specs.declared.frames.message.Message.{Message}
use Rattle.wire.specs.declared.frames.message.Message.TheVariants.{Prepare, Accept}
use Rattle.node_model.specs.declared.input.Input.{Input}
use Rattle.node_model.specs.declared.input.Input.TheVariants as input
use Rattle.node_model.specs.Inputs.{is_for_this_run}
use Rattle.node_model.specs.Loading.{IsReplicaOf}
use Rattle.node_model.specs.Replicas.{ReplicaState}
use Rattle.node_model.specs.Protocol.{membership, coming, input_of, message_of, ReplicaStands, MayStop}
use Rattle.node_model.specs.Protocol.{accepting_on, accepting_if, accepting_after, round_after}
use Rattle.node_model.proofs.AllowedGoing.{checkpoint_written, trim_written}

module _ (m : ReplicaState) (x : Local Command) (stands : ReplicaStands m x) where
  abbrev May : act.Input Command → Accepting → ℕ → Type 0
  May in' a round = MayStop m.nodes m.id in' x a round

  -- nothing was written
  pub stops_at_once : (in' : act.Input Command) → May in' m.acceptor m.proposer.round
  stops_at_once in' = record {
    records = x.records;
    does = (stop_lem (membership m.nodes) m.id in' x m.proposer stands.proposer).does;
    stands = stands.records;
  }

  -- the acceptor's write was made
  stops_written : (in' : act.Input Command) (a : Accepting) → MayWrite (membership m.nodes) m.id in' x a m.proposer.round
      → May in' a m.proposer.round
  stops_written in' a w = record {
    records = w.after;
    does = does_then (membership m.nodes) m.id in' w.does (does_one (membership m.nodes) m.id in' (record x { records = w.after }) act.Forgets tt);
    stands = w.stands;
  }

  -- the round was written
  stops_begun : m.proposer.id ≡ m.id → m.id < 7 → May act.Nothing m.acceptor (next_round m.proposer)
  stops_begun own a_node = record {
    records = with_round x.records (next_round m.proposer);
    does = (stop_written_lem (membership m.nodes) m.id act.Nothing x m.proposer own (omega (arith, own, a_node)) stands.proposer).does;
    stands = record {
      promise = stands.records.promise;
      vote = stands.records.vote;
      round_ = refl;
      floor_ = stands.records.floor_;
    };
  }

  message_stops : (from : ℕ) (message : Message) → May (act.Came from (message_of message)) (accepting_on m message) m.proposer.round
  message_stops from (Prepare ballot first) =
      let in' : act.Input Command = act.Came from (message_of (Prepare ballot first)) in
      stops_written in' _ (prepare_writes (membership m.nodes) m.id in' x m.acceptor m.proposer.round stands.records ballot first)
  message_stops from (Accept v) =
      let in' : act.Input Command = act.Came from (message_of (Accept v)) in
      stops_written in' _ (accept_writes (membership m.nodes) m.id in' x m.acceptor m.proposer.round stands.records v refl)
  message_stops from other = stops_at_once _

  envelope_stops : (e : Envelope) (b : Bool) → May (coming e b) (accepting_if m e b) m.proposer.round
  envelope_stops e false = stops_at_once act.Nothing
  envelope_stops e true = message_stops e.from e.message

  stops : (i : Input) → m.proposer.id ≡ m.id → m.id < 7 → May (input_of m.id m.nodes i) (accepting_after m i) (round_after m i)
  stops (input.Message e) own a_node = envelope_stops e (is_for_this_run m.id m.nodes e)
  stops input.Timeout own a_node = stops_begun own a_node
  stops input.Checkpoint own a_node = stops_written act.Nothing _ (checkpoint_written m.nodes m.id act.Nothing x m stands)
  stops input.Trim own a_node = stops_written act.Nothing _ (trim_written m.nodes m.id act.Nothing x m stands)
  stops other own a_node = stops_at_once act.Nothing

-- the number of the node and that of all nodes are its own
pub unwritten_allowed : (nodes id : ℕ) (m : ReplicaState) (in' : act.Input Command) (x : Local Command) → IsReplicaOf id nodes m → ReplicaStands m x
    → MayStop nodes id in' x m.acceptor m.proposer.round
unwritten_allowed nodes id m in' x own stands =
    subst (λ (n : ℕ). MayStop n id in' x m.acceptor m.proposer.round) own.of_all
    (subst (λ (i : ℕ). MayStop m.nodes i in' x m.acceptor m.proposer.round) own.number (stops_at_once m x stands in'))

pub written_allowed : (nodes id : ℕ) (m : ReplicaState) (i : Input) (x : Local Command) → id < 7 → IsReplicaOf id nodes m → ReplicaStands m x
    → MayStop nodes id (input_of id nodes i) x (accepting_after m i) (round_after m i)
written_allowed nodes id m i x a_node own stands =
    subst (λ (n : ℕ). MayStop n id (input_of id n i) x (accepting_after m i) (round_after m i)) own.of_all
    (subst (λ (k : ℕ). MayStop m.nodes k (input_of k m.nodes i) x (accepting_after m i) (round_after m i)) own.number
    (stops m x stands i (own.proposer.0 ∙ sym own.number) (omega (arith, a_node, own.number))))

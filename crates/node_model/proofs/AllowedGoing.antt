-- What stands for a node after some acts of it.
use Rattle.std.proofs.Common.{◌≡◌, ℕ, ◌≤◌, Option, List, [], ◌++◌, map, refl, sym, ap, ◌∙◌, subst, append_assoc, append-nil, arith}
use Rattle.synod.specs.Messages.{Frame}
use Rattle.synod.specs.Acts as act
use Rattle.synod.specs.Acts.{Local, Does}
use Rattle.synod.proofs.Doing.{sending, does_nothing, does_then}
use Rattle.sessions.specs.Machines.{MachineState}
use Rattle.sessions.specs.Snapshots.{snapshot_bytes}
use Rattle.sessions.specs.declared.command.Command.{Command}
use Rattle.acceptor.specs.Accepting.{Accepting, after_checkpoint, after_trim}
use Rattle.acceptor.specs.Protocol.{MayAnswer, MayWrite}
use Rattle.acceptor.proofs.AllowedLemmas.{checkpoint_writes, trim_stands}
use Rattle.proposer.specs.Proposing.{Proposing}
use Rattle.proposer.specs.Protocol.{ProposerStands, MayHold, MaySend}
use Rattle.wire.specs.declared.frames.envelope.Envelope.{Envelope}
use Rattle.node_model.specs.Fetching.{Fetching}
use Rattle.node_model.specs.Replicas.{ReplicaState, position}
use Rattle.node_model.specs.Outputs.{Response, sent}
use Rattle.node_model.specs.Protocol.{membership, frame_of, ReplicaStands, MayComeTo}

-- node i may come from x to what stands for the new replica, and sends these frames alone on the way
pub record MayGo (nodes i : ℕ) (input : act.Input Command) (x : Local Command) (new : ReplicaState) (frames : List (Frame Command)) : Type 0 where
  pub after : Local Command
  pub does : Does (membership nodes) i input x after
  pub stands : ReplicaStands new after
  pub sent_ : after.sent ≡ x.sent ++ frames
  pub learnt : after.learnt ≡ x.learnt
  pub submitted : after.submitted ≡ x.submitted

-- ---- what still stands
-- another proposer stands, and what it shares with the acceptor and the learner is as it was
pub proposer_changed : (m : ReplicaState) (x : Local Command) (p : Proposing) (y : Local Command) → ReplicaStands m x → ProposerStands p y
    → y.records.promise ≡ x.records.promise → y.records.vote ≡ x.records.vote → y.records.floor ≡ x.records.floor
    → y.replica.learnt ≡ x.replica.learnt → y.replica.heard ≡ x.replica.heard → y.replica.position ≡ x.replica.position
    → ReplicaStands (record m { proposer = p }) y
proposer_changed m x p y s h promise vote floor learnt heard at = record {
  records = record {
    promise = promise ∙ s.records.promise;
    vote = λ i from. ap (λ g. g i) vote ∙ s.records.vote i from;
    round_ = h.round;
    floor_ = floor ∙ s.records.floor_;
  };
  learner = record {
    learnt = λ i. ap (λ g. g i) learnt ∙ s.learner.learnt i;
    heard = λ i a b c within is. rw heard (s.learner.heard i a b c within is);
  };
  proposer = h;
  position_ = at ∙ s.position_;
  level = s.level;
}

-- the machine is nothing to the protocol
pub machine_changed : (m : ReplicaState) (x : Local Command) (machine : MachineState) → ReplicaStands m x
    → ReplicaStands (record m { machine = machine }) x
machine_changed m x machine s =
    record { records = s.records; learner = s.learner; proposer = s.proposer; position_ = s.position_; level = s.level }

-- nor is what is fetched
pub fetching_changed : (m : ReplicaState) (x : Local Command) (f : Option Fetching) → ReplicaStands m x → ReplicaStands (record m { fetching = f }) x
fetching_changed m x f s =
    record { records = s.records; learner = s.learner; proposer = s.proposer; position_ = s.position_; level = s.level }

module _ (nodes i : ℕ) (input : act.Input Command) where
  -- ---- ways
  -- it stays where it is
  pub stays : (x : Local Command) (m : ReplicaState) → ReplicaStands m x → MayGo nodes i input x m []
  stays x m s = record {
    after = x;
    does = does_nothing (membership nodes) i input x;
    stands = s;
    sent_ = sym (append-nil x.sent);
    learnt = refl;
    submitted = refl;
  }

  -- it goes on
  pub goes_then : (x : Local Command) (mid new : ReplicaState) (first next : List (Frame Command)) (g : MayGo nodes i input x mid first)
      → MayGo nodes i input g.after new next → MayGo nodes i input x new (first ++ next)
  goes_then x mid new first next g h = record {
    after = h.after;
    does = does_then (membership nodes) i input g.does h.does;
    stands = h.stands;
    sent_ = h.sent_ ∙ ap (λ l. l ++ next) g.sent_ ∙ append_assoc x.sent first next;
    learnt = h.learnt ∙ g.learnt;
    submitted = h.submitted ∙ g.submitted;
  }

  -- it sends what it may, and stays what it is
  pub goes_saying : (x : Local Command) (m : ReplicaState) (frames : List (Frame Command)) → ReplicaStands m x
      → Does (membership nodes) i input x (sending x frames) → MayGo nodes i input x m frames
  goes_saying x m frames s does = record {
    after = sending x frames;
    does = does;
    stands = proposer_changed m x m.proposer (sending x frames) s
        (record { round = s.proposer.round; campaign = s.proposer.campaign; waiting = s.proposer.waiting })
        refl refl refl refl refl refl;
    sent_ = refl;
    learnt = refl;
    submitted = refl;
  }

  -- it comes to fetch something else
  pub goes_fetching : (x : Local Command) (m : ReplicaState) (f : Option Fetching) (frames : List (Frame Command))
      → MayGo nodes i input x m frames → MayGo nodes i input x (record m { fetching = f }) frames
  goes_fetching x m f frames g = record {
    after = g.after;
    does = g.does;
    stands = fetching_changed m g.after f g.stands;
    sent_ = g.sent_;
    learnt = g.learnt;
    submitted = g.submitted;
  }

  -- its acceptor answers, and has the floor that it had
  pub goes_answering : (x : Local Command) (m : ReplicaState) (a : Accepting) (frames : List (Frame Command)) → ReplicaStands m x
      → a.floor ≡ m.acceptor.floor → MayAnswer (membership nodes) i input x a m.proposer.round frames
      → MayGo nodes i input x (record m { acceptor = a }) frames
  goes_answering x m a frames s same h = record {
    after = record x { records = h.after; sent = x.sent ++ frames };
    does = h.does;
    stands = record {
      records = h.stands;
      learner = s.learner;
      proposer = record { round = h.stands.round_; campaign = s.proposer.campaign; waiting = s.proposer.waiting };
      position_ = s.position_;
      level = omega (arith, s.level, same);
    };
    sent_ = refl;
    learnt = refl;
    submitted = refl;
  }

  -- its acceptor writes and nothing is said, and its floor is no further than the position
  pub goes_writing : (x : Local Command) (m : ReplicaState) (a : Accepting) → ReplicaStands m x → a.floor ≤ position m
      → MayWrite (membership nodes) i input x a m.proposer.round → MayGo nodes i input x (record m { acceptor = a }) []
  goes_writing x m a s low h = record {
    after = record x { records = h.after };
    does = h.does;
    stands = record {
      records = h.stands;
      learner = s.learner;
      proposer = record { round = h.stands.round_; campaign = s.proposer.campaign; waiting = s.proposer.waiting };
      position_ = s.position_;
      level = low;
    };
    sent_ = sym (append-nil x.sent);
    learnt = refl;
    submitted = refl;
  }

  -- it may write a checkpoint
  pub checkpoint_written : (x : Local Command) (m : ReplicaState) → ReplicaStands m x
      → MayWrite (membership nodes) i input x (after_checkpoint m.acceptor (position m) (snapshot_bytes m.machine)) m.proposer.round
  checkpoint_written x m s =
      checkpoint_writes (membership nodes) i input x m.acceptor m.proposer.round s.records (position m) (snapshot_bytes m.machine) s.level

  -- and trim its votes, which is nothing to the protocol
  pub trim_written : (x : Local Command) (m : ReplicaState) → ReplicaStands m x
      → MayWrite (membership nodes) i input x (after_trim m.acceptor) m.proposer.round
  trim_written x m s = record {
    after = x.records;
    does = does_nothing (membership nodes) i input x;
    stands = trim_stands m.acceptor m.proposer.round x.records s.records;
  }

  -- its proposer comes to another campaign
  pub goes_holding : (x : Local Command) (m : ReplicaState) (p : Proposing) → ReplicaStands m x → MayHold (membership nodes) i input x p
      → MayGo nodes i input x (record m { proposer = p }) []
  goes_holding x m p s h = record {
    after = record x { replica = record x.replica { campaign = h.campaign } };
    does = h.does;
    stands = proposer_changed m x p (record x { replica = record x.replica { campaign = h.campaign } }) s h.stands refl refl refl refl refl refl;
    sent_ = sym (append-nil x.sent);
    learnt = refl;
    submitted = refl;
  }

  -- and sends
  pub goes_sending : (x : Local Command) (m : ReplicaState) (p : Proposing) (frames : List (Frame Command)) → ReplicaStands m x
      → MaySend (membership nodes) i input x p frames → MayGo nodes i input x (record m { proposer = p }) frames
  goes_sending x m p frames s h =
      let y : Local Command = record x {
        records = h.records;
        replica = record x.replica { campaign = h.campaign };
        sent = x.sent ++ frames;
      } in
      record {
        after = y;
        does = h.does;
        stands = proposer_changed m x p y s h.stands h.keeps.0 h.keeps.1 h.keeps.2 refl refl refl;
        sent_ = refl;
        learnt = refl;
        submitted = refl;
      }

  -- ---- what it comes to
  -- so it may come to what it says then
  pub goes_to : (x : Local Command) (m new : ReplicaState) (said : Response) (sends : List Envelope) (frames : List (Frame Command))
      → new ≡ m → said ≡ sent sends → map frame_of sends ≡ frames → MayGo nodes i input x m frames
      → MayComeTo nodes i input [] x new said
  goes_to x m new said sends frames leaves says same g =
      subst (λ (n : ReplicaState). MayComeTo nodes i input [] x n said) (sym leaves)
      (subst (MayComeTo nodes i input [] x m) (sym says) (record {
        after = g.after;
        does = g.does;
        stands = g.stands;
        sent = g.sent_ ∙ ap (λ l. x.sent ++ l) (sym same);
        learnt = g.learnt ∙ sym (append-nil x.learnt);
        submitted = g.submitted ∙ sym (append-nil x.submitted);
      }))

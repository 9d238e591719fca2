-- How a process is from one turn to the next.
use Rattle.std.specs.Prelude.{◌≡◌, ◌+◌, ◌<◌, ℕ, Bool, true, false, List, [], ◌∷◌, ◌++◌, length, Option, Some, IfSome, All}
use Rattle.node_model.specs.Nodes.{NodeState}
use Rattle.node_model.specs.Replicas.{ReplicaState, is_full, position}
use Rattle.serving.specs.declared.checkpoints.TheConstants.{SLOTS_BETWEEN_CHECKPOINTS}
use Rattle.serving.specs.declared.server.TheConstants.{MOST_IN_A_TURN}
use Rattle.serving.specs.declared.waiting.Question.{Question}
use Rattle.serving.specs.Knowing.{IsPosition}
use Rattle.serving.specs.Serving.{ServerState}
use Rattle.serving.specs.Waitings.{IsHeldBack}

-- no query that is held back may be answered by now
pub record NoneIsRipe {S : Type 0} (n : NodeState S) (questions : List Question) : Type 0 where
  pub held_back : (position : ℕ) → IsPosition n position → All (IsHeldBack position) questions

-- no checkpoint is due at the node, while it is up
pub record IsCheckpointed {S : Type 0} (n : NodeState S) : Type 0 where
  pub near : IfSome n.up (λ m. position m < m.acceptor.floor + SLOTS_BETWEEN_CHECKPOINTS)

-- the node is up, and has executed the whole log
pub record IsFull {S : Type 0} (n : NodeState S) : Type 0 where
  pub replica : ReplicaState
  pub up : n.up ≡ Some replica
  pub full : is_full replica ≡ true

-- the same requests wait, and the same connections for their replies
abbrev pub KeepsRequests : {S : Type 0} → ServerState S → ServerState S → Type 0
KeepsRequests old new = (new.waiting.claims ≡ old.waiting.claims) × (new.requests ≡ old.requests)

pub record Rests {S : Type 0} (s : ServerState S) : Type 0 where
  pub ripe : NoneIsRipe s.life.node s.waiting.questions
  pub checkpointed : IsCheckpointed s.life.node
  -- nobody waits for what is executed never, and such a request is handed on to nobody
  pub full : IsFull s.life.node → (s.waiting.claims ≡ []) × (s.requests ≡ [])

-- ---- how much a turn takes
-- of what is read one after another, these came
abbrev pub AllCame : {A : Type 0} → (A → Option Bool) → List A → Type 0
AllCame came passed = All (λ x. came x ≡ Some true) passed

-- one reading: something came, or nothing had come
abbrev pub IsReading : {A : Type 0} → (A → Option Bool) → List A → Bool → Type 0
IsReading {A} came passed is = (x : A) × (passed ≡ x ∷ []) × (came x ≡ Some is)

-- readings one after another, up to the one by which nothing had come; or as many as a turn may make, and more may have come
pub data HasRead {A : Type 0} (came : A → Option Bool) : List A → Bool → Type 0 where
  up_to_the_last : (before : List A) (last : A) → AllCame came before → length before < MOST_IN_A_TURN → came last ≡ Some false
      → HasRead came (before ++ last ∷ []) false
  as_many_as_may_be : (passed : List A) → AllCame came passed → length passed ≡ MOST_IN_A_TURN → HasRead came passed true

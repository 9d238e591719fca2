-- A process that serves a node, over all that it did so far.
--
-- Nothing leaves it that its life didn't hand out, and that hands out only what steps of the node told, whose puts were answered.
use Rattle.std.specs.Prelude.{Bool, ◌||◌, List, [], ◌∷◌, All, Result}
use Rattle.stable.specs.declared.stable.Stable.{Ghosts}
use Rattle.node_model.specs.declared.fault.NodeFault.{NodeFault}
use Rattle.node_model.specs.Nodes.{NodeState}
use Rattle.world_model.specs.Lives.{Happening, Loaded}
use Rattle.life.specs.Lives.{IsLifeOf, LifeState}
use Rattle.life.specs.Telling.{ToldLists, nothing}
use Rattle.serving.specs.declared.waiting.Due.TheVariants as due
use Rattle.serving.specs.declared.waiting.Question.{Question}
use Rattle.serving.specs.Knowing.{WasSo}
use Rattle.serving.specs.Requesting.{RequestState}
use Rattle.serving.specs.Tapes.{Carried, Talk, HasPassed}
use Rattle.serving.specs.Turns.{Past, later, HasAsked, HasQueried, MayBeDue, MayBeHandedOn, MayBeSaid, MayHappen, MayPass}
use Rattle.serving.specs.Waitings.{WaitingState, has_any}

pub record ServerState (S : Type 0) : Type 0 where
  pub life : LifeState S
  -- what connections wait for
  pub waiting : WaitingState
  -- the requests of its clients that it hands on
  pub requests : List RequestState

-- a request waits: a connection for its reply, or it itself to be handed on, whose client may be gone
abbrev pub has_requests : {S : Type 0} → ServerState S → Bool
has_requests s = has_any s.waiting.claims || has_any s.requests

-- ---- a process so far
-- from the first state of its node it did this, and so it is
pub record IsServing {S : Type 0} (storages : Ghosts S) (first : NodeState S) (past : Past) (now : ServerState S) : Type 0 where
  pub life : IsLifeOf storages first past.history past.handed now.life
  -- its node took nothing but what came
  pub takes : All (MayHappen first.id past) past.history
  -- it sent nothing else, and told its clients nothing else
  pub sends : All (MayPass past) past.carried
  pub tells : All (MayBeSaid storages first past) past.talk
  -- each connection that waits asked for what it waits for
  pub claims : All (HasAsked past.talk) now.waiting.claims
  pub questions : All (HasQueried past.talk) now.waiting.questions
  pub due : All (MayBeDue (WasSo storages first past.history) past.talk) now.waiting.due
  pub requests : All (MayBeHandedOn past.talk) now.requests

-- a process that has only begun
abbrev pub begun : Result (Unit {0}) NodeFault → Past
begun loaded = record { history = Loaded loaded ∷ []; handed = nothing; carried = []; talk = [] }

-- ---- a part of a turn
-- it leads from any such process to another, which did more: this passed between it and the other nodes, and this between it and its
-- clients
pub record Serves {S : Type 0} (storages : Ghosts S) (old : ServerState S) (carried : List Carried) (talk : List Talk)
    (new : ServerState S) : Type 0 where
  pub leads : (first : NodeState S) (past : Past) → IsServing storages first past old → (happened : List Happening)
      × (handed : ToldLists) × IsServing storages first (later past happened handed carried talk) new

-- a query is the next that is due
abbrev pub asking : {S : Type 0} → ServerState S → Question → ServerState S
asking s question = record s { waiting = record s.waiting { due = due.Answer question ∷ s.waiting.due } }

-- ---- over its network and its desk
-- what passes, as far as the tapes tell
pub record ServesOver {S N D : Type 0} (storages : Ghosts S) (carried : N → List Carried) (Carries : N → Type 0)
    (talk : D → List Talk) (Talks : D → Type 0) (old : ServerState S) (network : N) (desk : D)
    (new : ServerState S) (network' : N) (desk' : D) : Type 0 where
  pub sent : List Carried
  pub said : List Talk
  pub serves : Serves storages old sent said new
  pub carries : HasPassed carried Carries network sent network'
  pub talks : HasPassed talk Talks desk said desk'

-- over its network alone
pub record ServesNodes {S N : Type 0} (storages : Ghosts S) (carried : N → List Carried) (Carries : N → Type 0)
    (old : ServerState S) (network : N) (new : ServerState S) (network' : N) : Type 0 where
  pub sent : List Carried
  pub serves : Serves storages old sent [] new
  pub carries : HasPassed carried Carries network sent network'

-- over its desk alone
pub record ServesClients {S D : Type 0} (storages : Ghosts S) (talk : D → List Talk) (Talks : D → Type 0)
    (old : ServerState S) (desk : D) (new : ServerState S) (desk' : D) : Type 0 where
  pub said : List Talk
  pub serves : Serves storages old [] said new
  pub talks : HasPassed talk Talks desk said desk'

-- all that passes, taken together, is so
pub record Passes {T A : Type 0} (tape : T → List A) (Tells : T → Type 0) (AreSo : List A → Type 0) (old new : T) : Type 0 where
  pub passed : List A
  pub are : AreSo passed
  pub passes : HasPassed tape Tells old passed new

-- between it and both
pub record PassesBoth {N D : Type 0} (carried : N → List Carried) (Carries : N → Type 0) (talk : D → List Talk) (Talks : D → Type 0)
    (AreSo : List Carried → List Talk → Type 0) (network : N) (desk : D) (network' : N) (desk' : D) : Type 0 where
  pub sent : List Carried
  pub said : List Talk
  pub are : AreSo sent said
  pub carries : HasPassed carried Carries network sent network'
  pub talks : HasPassed talk Talks desk said desk'

-- nothing passes but what is so
pub record PassesOnly {T A : Type 0} (tape : T → List A) (Tells : T → Type 0) (IsSo : A → Type 0) (old new : T) : Type 0 where
  pub passed : List A
  pub each : All IsSo passed
  pub passes : HasPassed tape Tells old passed new

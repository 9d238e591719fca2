-- A process that runs a node: what it makes of what comes to it, and what its life so far tells.
use Rattle.std.specs.Prelude.{◌≡◌, ℕ, List, [], ◌∷◌, ◌++◌, Bool, Result, Ok, Err, All, Contains, MatchBool}
use Rattle.std.specs.List.{flat_map}
use Rattle.stable.specs.declared.stable.Stable.{Ghosts}
use Rattle.wire.specs.FrameSpelling.{Fits}
use Rattle.wire.specs.declared.frames.envelope.Envelope.{Envelope}
use Rattle.node_model.specs.declared.fault.NodeFault.{NodeFault}
use Rattle.node_model.specs.declared.input.Input.TheVariants as input
use Rattle.node_model.specs.Nodes.{NodeState}
use Rattle.node_model.specs.Outputs.{Response}
use Rattle.world_model.specs.Lives.{Happening, Happens, HasBegun, IsLife, Moment, Took, happenings_of, told_by}
use Rattle.world_model.specs.Lives.{answered_at, learnt_at, replied_at, sent_at}
use Rattle.life.specs.Telling.{ToldLists, joined, nothing, told_at, told_of, to_itself, to_others}
use Rattle.life.specs.declared.fault.LifeFault.{LifeFault}
use Rattle.life.specs.declared.fault.LifeFault.TheVariants.{Memory, Node}

-- a process that runs a node
pub record LifeState (S : Type 0) : Type 0 where
  -- the node's number
  pub id : ℕ
  pub node : NodeState S
  -- the frames to itself that wait, the oldest first
  pub own : List Envelope
  -- what the node has told and is not handed out yet
  pub held : ToldLists

-- ---- its beginning
-- it has begun over a storage, and has told nothing
pub record IsBorn {S : Type 0} (storages : Ghosts S) (id nodes : ℕ) (storage : S) (l : LifeState S) : Type 0 where
  pub begun : HasBegun storages id nodes storage l.node
  pub silent : l ≡ record { id = id; node = l.node; own = []; held = nothing }

-- ---- what it makes of what comes to it
-- what its node says is held, and the frames to itself wait
abbrev pub with_said : {S : Type 0} → LifeState S → Response → LifeState S
with_said l said = record l { own = l.own ++ to_itself l.id said.sends; held = joined l.held (told_of l.id said) }

-- something happens to its node, and all that this tells is held or waits, behind what did before
pub record GoesOn {S : Type 0} (storages : Ghosts S) (old : LifeState S) (what : Happening) (new : LifeState S) : Type 0 where
  pub happens : Happens storages old.node what new.node
  pub number : new.id ≡ old.id
  pub own : new.own ≡ old.own ++ to_itself old.id (sent_at old.id what)
  pub held : new.held ≡ joined old.held (told_at old.id what)

-- its node does something, and by its answer that happens; where memory is wanting nothing does
abbrev pub Does : {A S : Type 0} → Ghosts S → LifeState S → (Result A NodeFault → Happening) → Result (Unit {0}) LifeFault
    → LifeState S → Type 0
Does {A} storages old happening (Ok done) new = (answer : A) × GoesOn storages old (happening (Ok answer)) new
Does storages old happening (Err (Node fault)) new = GoesOn storages old (happening (Err fault)) new
Does storages old happening (Err Memory) new = new ≡ old

-- its node takes the frame to itself that has waited longest
pub record TakesFirst {S : Type 0} (storages : Ghosts S) (old : LifeState S) (answer : Result Response NodeFault) (new : LifeState S)
    : Type 0 where
  pub first : Envelope
  pub rest : List Envelope
  pub waits : old.own ≡ first ∷ rest
  pub fits : Fits 7 first
  pub goes_on : GoesOn storages (record old { own = rest }) (Took (input.Message first) answer) new

-- it does so if any waits
abbrev pub TakesBack : {S : Type 0} → Ghosts S → LifeState S → Result Bool LifeFault → LifeState S → Type 0
TakesBack storages old (Ok taken) new =
    MatchBool taken ((said : Response) × TakesFirst storages old (Ok said) new) ((old.own ≡ []) × (new ≡ old))
TakesBack storages old (Err (Node fault)) new = TakesFirst storages old (Err fault) new
TakesBack storages old (Err Memory) new = new ≡ old

-- ---- its life so far
-- what the node of this number tells by all that happened, of each kind in the order in which it happened
abbrev pub told_in : ℕ → List Happening → ToldLists
told_in id history = record {
  frames = flat_map (λ what. to_others id (sent_at id what)) history;
  learnt = flat_map (learnt_at id) history;
  replies = flat_map (replied_at id) history;
  answers = flat_map (answered_at id) history;
}

-- from the first state of its node this happened. What was handed out, and then what is held, is what that told, and nothing else; and
-- each frame that waits for itself was sent by it
pub record IsLifeOf {S : Type 0} (storages : Ghosts S) (first : NodeState S) (history : List Happening) (handed : ToldLists)
    (now : LifeState S) : Type 0 where
  pub number : now.id ≡ first.id
  pub life : IsLife storages first history now.node
  pub told : joined handed now.held ≡ told_in now.id history
  pub own : All (Contains (flat_map (sent_at now.id) history)) now.own

-- ---- of the lives of all nodes
-- a process handed this out, whose life is part of its node's in these moments
pub record IsHandedOut {S : Type 0} (storages : Ghosts S) (moments : List Moment) (handed : ToldLists) : Type 0 where
  pub first : NodeState S
  pub history : List Happening
  pub now : LifeState S
  pub life : IsLifeOf storages first history handed now
  pub before : List Happening
  pub after : List Happening
  pub part : happenings_of first.id moments ≡ before ++ history ++ after

-- all of it was told in these moments
pub record WasTold (moments : List Moment) (handed : ToldLists) : Type 0 where
  pub frames : All (Contains (told_by sent_at moments)) handed.frames
  pub learnt : All (Contains (told_by learnt_at moments)) handed.learnt
  pub replies : All (Contains (told_by replied_at moments)) handed.replies
  pub answers : All (Contains (told_by answered_at moments)) handed.answers

-- What a pump comes to: passes of polls of all nodes, and what becomes of each datagram.
use Rattle.std.specs.Prelude.{◌≡◌, ℕ, zero, suc, ◌+◌, ◌-◌, ◌<◌, ◌^◌, min, List, [], ◌∷◌, ◌++◌, length, Option, Some, None, Result, Ok, Err}
use Rattle.stable.specs.Script.{Script}
use Rattle.stable.specs.declared.stable.Stable.{Ghosts}
use Rattle.events.specs.declared.fault.WorldFault.{WorldFault}
use Rattle.events.specs.declared.fault.WorldFault.TheVariants as fault
use Rattle.world_model.specs.Worlds.{WorldState, DeliversFrame}
use Rattle.cluster.specs.Clusters.{Pumped, sendings}
use Rattle.cluster.specs.Lowest.{IsLowestFrame, IsStranger}
use Rattle.cluster.specs.Passages.{Passage, Polled}

module _ {S : Type 0} (storages : Ghosts (Script S)) where
  -- ---- one poll
  -- one stranger more, as far as a u64 goes
  abbrev pub with_stranger : Pumped S → Pumped S
  with_stranger p = record p { strangers = min (p.strangers + 1) (2 ^ 64 - 1) }

  -- A node is polled: nothing has come; or a datagram that this run has not sent to the node, which is a stranger; or one that it has,
  -- and the lowest such frame is delivered. So many Delivers come of it, one or none.
  pub data Polls (old : Pumped S) (node : ℕ) : Option (List ℕ) → ℕ → Pumped S → Type 0 where
    nothing_came : Polls old node None 0 old
    stranger_came : (bytes : List ℕ) → IsStranger old.world.frames node bytes → Polls old node (Some bytes) 0 (with_stranger old)
    frame_came : (bytes : List ℕ) (k : ℕ) (world : WorldState S) → IsLowestFrame old.world.frames node bytes k
        → DeliversFrame storages old.world k world → Polls old node (Some bytes) 1 (record old { world = world })

  -- what passes through the transport then: the poll, and the frames that its Deliver sent
  abbrev pub poll_passed : ℕ → Option (List ℕ) → WorldState S → WorldState S → List Passage
  poll_passed node datagram old new = Polled node datagram ∷ sendings old new

  -- ---- a pass
  -- the nodes below this one are polled once each, in order: what passed, and how many Delivers came of it
  pub data PollsBelow (old : Pumped S) : ℕ → List Passage → ℕ → Pumped S → Type 0 where
    no_poll : PollsBelow old zero [] 0 old
    one_poll : (node made more : ℕ) (passed : List Passage) (datagram : Option (List ℕ)) (between new : Pumped S)
        → PollsBelow old node passed made between → Polls between node datagram more new
        → PollsBelow old (suc node) (passed ++ poll_passed node datagram between.world new.world) (made + more) new

  -- all nodes are
  abbrev pub IsPass : Pumped S → List Passage → ℕ → Pumped S → Type 0
  IsPass old passed made new = PollsBelow old (length old.world.nodes) passed made new

  -- ---- passes
  -- Passes one after the other, of which the last so many in a row made no Deliver. None was begun after as many as end a pump, or
  -- after as many Delivers as a pump may make.
  pub data Passes (old : Pumped S) : ℕ → List Passage → ℕ → Pumped S → Type 0 where
    no_pass : Passes old zero [] 0 old
    idle_pass : (idle made : ℕ) (passed more : List Passage) (between new : Pumped S) → Passes old idle passed made between
        → idle < 100 → IsPass between more 0 new → Passes old (suc idle) (passed ++ more) made new
    busy_pass : (idle made more : ℕ) (passed further : List Passage) (between new : Pumped S) → Passes old idle passed made between
        → idle < 100 → IsPass between further more new → 0 < more → made + more < 10000
        → Passes old zero (passed ++ further) (made + more) new

  -- ---- ends
  -- a pass that breaks off: the nodes below this one were polled, with so many Delivers, when it did
  pub record IsPartOfPass (old : Pumped S) (node : ℕ) (passed : List Passage) (made : ℕ) (new : Pumped S) : Type 0 where
    pub begun : node < length old.world.nodes
    pub polls : PollsBelow old node passed made new

  -- with the last Deliver of so many that are left
  pub record HitsLimit (left : ℕ) (old : Pumped S) (passed : List Passage) (new : Pumped S) : Type 0 where
    pub node : ℕ
    pub before : List Passage
    pub made : ℕ
    pub between : Pumped S
    pub part : IsPartOfPass old node before made between
    pub datagram : Option (List ℕ)
    pub last : Polls between node datagram 1 new
    pub all_made : made + 1 ≡ left
    pub passed_ : passed ≡ before ++ poll_passed node datagram between.world new.world

  -- with a datagram of which nothing comes, as memory is wanting
  pub record WantsMemory (left : ℕ) (old : Pumped S) (passed : List Passage) (new : Pumped S) : Type 0 where
    pub node : ℕ
    pub before : List Passage
    pub made : ℕ
    pub part : IsPartOfPass old node before made new
    pub some_left : made < left
    pub bytes : List ℕ
    pub passed_ : passed ≡ before ++ Polled node (Some bytes) ∷ []

  -- why, with so many Delivers left
  abbrev pub PumpBreaksOff : ℕ → Pumped S → List Passage → WorldFault → Pumped S → Type 0
  PumpBreaksOff left old passed fault.FlushLimit new = HitsLimit left old passed new
  PumpBreaksOff left old passed fault.Memory new = WantsMemory left old passed new
  PumpBreaksOff left old passed fault.NoSuchFrame new = ⊥
  PumpBreaksOff left old passed fault.NoSuchNode new = ⊥
  PumpBreaksOff left old passed fault.NotEmpty new = ⊥

  -- a pass that follows others breaks off
  pub record BreaksPump (old : Pumped S) (passed : List Passage) (why : WorldFault) (new : Pumped S) : Type 0 where
    pub idle : ℕ
    pub before : List Passage
    pub made : ℕ
    pub between : Pumped S
    pub passes : Passes old idle before made between
    pub goes_on : idle < 100
    pub last : List Passage
    pub breaks : PumpBreaksOff (10000 - made) between last why new
    pub passed_ : passed ≡ before ++ last

  -- a pump ends with the first so many passes in a row that made no Deliver, and tells how many it made; or it breaks off
  abbrev pub Pumps : Pumped S → List Passage → Result ℕ WorldFault → Pumped S → Type 0
  Pumps old passed (Ok made) new = Passes old 100 passed made new
  Pumps old passed (Err why) new = BreaksPump old passed why new

  -- ---- the world alone
  -- frames are delivered, one after the other, and nothing else
  pub data OnlyDelivers (old : WorldState S) : WorldState S → Type 0 where
    no_deliver : OnlyDelivers old old
    one_deliver : (k : ℕ) (between new : WorldState S) → OnlyDelivers old between → DeliversFrame storages between k new
        → OnlyDelivers old new

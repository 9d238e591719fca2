-- What a frame says, for people.
use Rattle.std.specs.Prelude.{ℕ, List, [], ◌++◌, Option, Some, None, codes, decimal}
use Rattle.synod.specs.declared.ballot.Ballot.{Ballot}
use Rattle.wire.specs.Kinds.{kind_of}
use Rattle.wire.specs.declared.frames.kind.Kind.{Kind}
use Rattle.wire.specs.declared.frames.kind.Kind.TheVariants as kind
use Rattle.wire.specs.declared.frames.message.Message.{Message}
use Rattle.wire.specs.declared.frames.message.Message.TheVariants.{Prepare, Promise, Nack, Accept, Accepted, Ask, Decided, SnapAsk, SnapPart, Behind}
use Rattle.diagram.specs.declared.facts.Facts.{Facts}

-- the slot of which a message speaks: the first one of a prepare and of a promise, and the position of a checkpoint
abbrev pub slot_of : Message → Option ℕ
slot_of (Prepare ballot first) = Some first
slot_of (Promise p) = Some p.first
slot_of (Nack n) = None
slot_of (Accept v) = Some v.slot
slot_of (Accepted v) = Some v.slot
slot_of (Ask slot) = Some slot
slot_of (Decided slot command) = Some slot
slot_of (SnapAsk position number) = Some position
slot_of (SnapPart p) = Some p.position
slot_of (Behind floor) = Some floor

-- the ballot of which it speaks: that of a refusal is the promised one
abbrev pub ballot_of : Message → Option Ballot
ballot_of (Prepare ballot first) = Some ballot
ballot_of (Promise p) = Some p.ballot
ballot_of (Nack n) = Some n.promised
ballot_of (Accept v) = Some v.ballot
ballot_of (Accepted v) = Some v.ballot
ballot_of _ = None

abbrev pub facts_of : Message → Facts
facts_of m = record { kind = kind_of m; slot = slot_of m; ballot = ballot_of m }

-- ---- in words
abbrev pub kind_text : Kind → List ℕ
kind_text kind.Prepare = codes "prepare"
kind_text kind.Promise = codes "promise"
kind_text kind.Nack = codes "nack"
kind_text kind.Accept = codes "accept"
kind_text kind.Accepted = codes "accepted"
kind_text kind.Ask = codes "ask"
kind_text kind.Decided = codes "decided"
kind_text kind.SnapAsk = codes "snapask"
kind_text kind.SnapPart = codes "snappart"
kind_text kind.Behind = codes "behind"

abbrev pub slot_text : Option ℕ → List ℕ
slot_text None = []
slot_text (Some slot) = codes " slot " ++ decimal slot

abbrev pub ballot_text : Option Ballot → List ℕ
ballot_text None = []
ballot_text (Some b) = codes " ballot " ++ (decimal b.round ++ (codes "." ++ decimal b.node))

-- a frame by its number, its kind and its way: `frame 4 accept 0 -> 1`
abbrev pub way_text : ℕ → Kind → ℕ → ℕ → List ℕ
way_text number kind from to = codes "frame " ++ (decimal number ++ (codes " " ++ (kind_text kind ++ (codes " "
    ++ (decimal from ++ (codes " -> " ++ decimal to))))))

-- and what it says: `frame 4 accept 0 -> 1 slot 0 ballot 1.0`
abbrev pub frame_text : ℕ → ℕ → ℕ → Facts → List ℕ
frame_text number from to facts = way_text number facts.kind from to ++ slot_text facts.slot ++ ballot_text facts.ballot

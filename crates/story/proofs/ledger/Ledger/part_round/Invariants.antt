use Rattle.std.proofs.Common.{length}
use Rattle.world.specs.Seen.{world_of}
use Rattle.story.specs.Ledgers.{IsKept, StandsStill}
use Rattle.story.specs.Noting.{NotesRound}
use Rattle.story.specs.Passing.{MadeFrom}
use Rattle.story.proofs.ledger.Ledger.part_round.Given as goal

-- the frames so far are noted
abbrev pub invariant-loop-index : goal.invariant-loop-index
invariant-loop-index l = record {
  kept : IsKept l.self;
  still : StandsStill l.fn.self l.self;
  made : MadeFrom l.self.steps.items l.first (length (world_of l.fn.self.world).frames);
  noted : NotesRound (world_of l.fn.self.world) l.first l.index l.fn.self.steps.items l.self.steps.items;
}

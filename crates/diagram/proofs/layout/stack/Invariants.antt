use Rattle.std.proofs.Common.{◌≡◌, ◌<◌, length, take}
use Rattle.diagram.specs.Places.{HaveRoom}
use Rattle.diagram.specs.Shown.{StandWhereSet}
use Rattle.diagram.proofs.layout.stack.Given as goal

-- the steps so far stand where they are shown, and no lower than this
abbrev pub invariant-loop-index : goal.invariant-loop-index
invariant-loop-index l = record {
  high : 0 < l.height;
  long : length l.ends.items ≡ l.index;
  stand : StandWhereSet (take l.index l.shown.items) l.ends.items l.height;
  room : HaveRoom l.texts.items l.ends.items;
}

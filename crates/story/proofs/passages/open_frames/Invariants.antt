use Rattle.std.proofs.Common.{◌≡◌, ◌++◌, drop}
use Rattle.story.proofs.passages.open_frames.Given as goal

-- the frames so far are opened
abbrev pub invariant-loop-index : goal.invariant-loop-index
invariant-loop-index l = l.opened.items ++ drop l.index l.frames ≡ drop l.first l.frames

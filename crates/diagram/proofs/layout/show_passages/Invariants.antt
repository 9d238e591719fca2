use Rattle.diagram.specs.Shown.{IsStepOfFrames, Sets}
use Rattle.diagram.proofs.layout.show_passages.Given as goal

-- the frames so far have their flags
abbrev pub invariant-loop-number : goal.invariant-loop-number
invariant-loop-number l =
    Sets (IsStepOfFrames l.scene.passages.now l.fn.window.first l.number) l.initial.shown.items l.shown.items

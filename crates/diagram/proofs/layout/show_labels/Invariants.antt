use Rattle.std.proofs.Common.{◌≡◌, length, take}
use Rattle.diagram.specs.Shown.{IsStepOf, Sets, label_step}
use Rattle.diagram.proofs.layout.show_labels.Given as goal

-- the lines so far have their flags
abbrev pub invariant-loop-label : goal.invariant-loop-label
invariant-loop-label l = record {
  shown : Sets (IsStepOf label_step (take l.label-index l.scene.labels.now) l.first l.last) l.initial.shown.items l.shown.items;
  texts : length l.texts.items ≡ length l.initial.texts.items;
}

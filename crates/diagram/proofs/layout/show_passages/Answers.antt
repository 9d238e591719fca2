use Rattle.std.proofs.Common.{◌≡◌, ℕ, subst, arith}
use Rattle.diagram.specs.Shown.{IsStepOfFrames, Sets}
use Rattle.diagram.proofs.FlagLemmas.{no_frames, one_more_frame}
use Rattle.diagram.proofs.layout.show_passages.Goals as goal

pub loop-number-init : goal.loop-number-init
loop-number-init c = no_frames c.args.scene.now.passages.now c.args.window.first c.args.shown.now.items

pub loop-number-preserved : goal.loop-number-preserved
loop-number-preserved c =
    one_more_frame c.args.scene.now.passages.now c.args.window.first c.loop-number.number _ _ _ (omega arith) c.loop-number.invariant
    c.show_frame.ensures

pub returns : goal.returns
returns c =
    let all : c.loop-number.number ≡ c.args.window.end = omega arith in
    subst
    (λ (n : ℕ).
    Sets (IsStepOfFrames c.args.scene.now.passages.now c.args.window.first n) c.args.shown.now.items c.loop-number.shown.items)
    all c.loop-number.invariant

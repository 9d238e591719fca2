use Rattle.std.proofs.Common.{refl}
use Rattle.mfjson.proofs.Objects.{feature_told}
use Rattle.mfjson.proofs.tokens.feature_in.Goals as goal

pub returns : goal.returns
returns c =
    let kind = c.if-not-is_of_type.ensures in
    let seq = c.in_ok-seq.ensures in
    record {
      told = λ j begins. feature_told j _ c.in_ok-course.course.interp _ _ _ c.in_ok-course.course ((kind.members refl).counted j begins)
          ((kind.kind refl).told j begins) (c.in_ok-id.ensures.told j begins) (c.in_ok-course.ensures.told j begins) seq.0 seq.2 seq.1;
    }

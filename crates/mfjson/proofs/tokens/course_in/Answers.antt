use Rattle.std.proofs.Common.{refl}
use Rattle.mfjson.proofs.Objects.{course_told}
use Rattle.mfjson.proofs.tokens.course_in.Goals as goal

pub returns : goal.returns
returns c =
    let kind = c.if-not-is_of_type.ensures in
    record {
      told = λ j begins.
          let at = c.in_ok-geometry.ensures j begins in
          record {
            value = at.0;
            here = at.1;
            told = course_told at.0 _ _ _ _ ((kind.members refl).counted at.0 at.2) ((kind.kind refl).told at.0 at.2)
                (c.in_ok-interp.ensures.told at.0 at.2) (c.in_ok-instants.ensures.told at.0 at.2) (c.in_ok-places.ensures.told at.0 at.2);
          };
    }

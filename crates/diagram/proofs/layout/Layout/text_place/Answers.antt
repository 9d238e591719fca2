use Rattle.std.proofs.Common.{arith}
use Rattle.diagram.proofs.layout.Layout.text_place.Goals as goal

-- the lines below it have less room than all lines of the step
pub returns-clause-below : goal.returns-clause-below
returns-clause-below c = λ i ordered above stands free.
    omega (
      arith,
      c.args.self.now.room.each i c.args.step ordered above stands,
      c.texts_of.ensures,
      c.saturating_add.ensures,
      c.saturating_sub-below.ensures,
      c.place_of.ensures,
      c.saturating_mul.ensures,
      c.saturating_sub.ensures,
      free,
    )

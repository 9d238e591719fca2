use Rattle.std.proofs.Common.{refl, arith}
use Rattle.diagram.proofs.layout.fit_page.Goals as goal

-- so many eighths are left out that it fits
pub returns-then-layout-le-PAGE : goal.returns-then-layout-le-PAGE
returns-then-layout-le-PAGE c = record {
  first = refl;
  in_order = omega arith;
  there = omega (arith, c.requires.there);
  eighths = c.loop-eighths.eighths;
  not_all = omega (arith, c.loop-eighths-test.true);
  is = refl;
}

pub returns : goal.returns
returns c = record {
  first = refl;
  in_order = omega arith;
  there = omega (arith, c.requires.there);
  eighths = 7;
  not_all = omega arith;
  is = refl;
}

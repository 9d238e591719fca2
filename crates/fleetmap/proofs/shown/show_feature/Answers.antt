use Rattle.std.proofs.Common.{subst, Option}
use Rattle.tpoint.specs.Moving.{At, moment}
use Rattle.tpoint.specs.Reduced.{Finds, position}
use Rattle.tpoint.specs.declared.frac.Frac.{Frac}
use Rattle.fleetmap.proofs.shown.show_feature.Goals as goal

-- the value is on the chart
pub returns-in-Some-spot_of : goal.returns-in-Some-spot_of
returns-in-Some-spot_of c = record {
  v = position c.in-Some.value;
  value = subst (λ (found : Option (Frac × Frac)). Finds (At c.args.seq.now (moment c.args.t)) found) c.in-Some.is c.value_at-found.ensures.value;
  inside = c.in-Some-spot_of.ensures.0;
  drawn = c.in-Some-spot_of.ensures.1;
}

-- it isn't
pub returns-in-None : goal.returns-in-None
returns-in-None c = record {
  v = position c.in-Some.value;
  value = subst (λ (found : Option (Frac × Frac)). Finds (At c.args.seq.now (moment c.args.t)) found) c.in-Some.is c.value_at-found.ensures.value;
  elsewhere = c.in-None.ensures;
}

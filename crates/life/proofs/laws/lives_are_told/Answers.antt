use Rattle.life.proofs.TellingLemmas.{life_begins, told_goes_on, told_takes_back, told_hands_out}
use Rattle.life.proofs.laws.lives_are_told.Goals as goal

pub returns : goal.returns
returns g c = record {
  begins = life_begins g.S.Stable;
  goes_on = told_goes_on g.S.Stable;
  takes_back = told_takes_back g.S.Stable;
  hands_out = told_hands_out g.S.Stable;
}

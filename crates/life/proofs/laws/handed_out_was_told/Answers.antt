use Rattle.life.proofs.HandedLemmas.{handed_told}
use Rattle.life.proofs.laws.handed_out_was_told.Goals as goal

pub returns : goal.returns
returns g c = handed_told g.S.Stable

use Rattle.picture.proofs.Escapes.{all_harmless}
use Rattle.picture.proofs.escape.nothing_breaks_out.Goals as goal

pub returns : goal.returns
returns c = all_harmless

use Rattle.std.proofs.lemmas.Slice.Eq.{strip_suffix_is}
use Rattle.std.proofs.lemmas.Bool.Decides.{Decides-eqb}
use Rattle.schedule.proofs.forms.before.Goals as goal

pub returns : goal.returns
returns c = strip_suffix_is Decides-eqb c.args.word.now c.args.mark.now c.strip_suffix.result c.strip_suffix.ensures.cases

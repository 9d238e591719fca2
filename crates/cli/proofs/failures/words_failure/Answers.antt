use Rattle.std.proofs.Common.{ap, sym}
use Rattle.cli.specs.Words.{failure_of}
use Rattle.cli.proofs.failures.words_failure.Goals as goal

pub returns-in-NoForm : goal.returns-in-NoForm
returns-in-NoForm c = sym (ap failure_of c.in-NoForm.is)

use Rattle.std.proofs.Common.{inl, refl}
use Rattle.cli.proofs.failures.args_failure.Goals as goal

pub returns-in_default-clause-usage : goal.returns-in_default-clause-usage
returns-in_default-clause-usage c = λ other. refl

pub returns-in_default-clause-either : goal.returns-in_default-clause-either
returns-in_default-clause-either c = inl refl

use Rattle.std.proofs.Common.{inr, refl}
use Rattle.std.proofs.lemmas.Result.{IfErr-weaker}
use Rattle.cli.proofs.run.print_work.Goals as goal

-- what was made was not written, all of it
pub returns-in_ok-loopback-in-Loopback-default-clause-ends : goal.returns-in_ok-loopback-in-Loopback-default-clause-ends
returns-in_ok-loopback-in-Loopback-default-clause-ends g c =
    IfErr-weaker c.print_text-in-Loopback-default.result _ _ (λ failure failed. inr (
      failed.0,
      c.in_ok-loopback-in-Loopback-default.field-0.items,
      rw c.in-Loopback-default.is-0 (c.in_ok-loopback-in-Loopback-default.ensures.looped, refl),
      failed.1,
    )) c.print_text-in-Loopback-default.ensures.failed

pub returns-in_ok-check-in-Check-default-clause-ends : goal.returns-in_ok-check-in-Check-default-clause-ends
returns-in_ok-check-in-Check-default-clause-ends g c =
    IfErr-weaker c.print_text-in-Check-default.result _ _ (λ failure failed. inr (
      failed.0,
      c.in_ok-check-in-Check-default.field-0.items,
      rw c.in-Check-default.is-0 (c.in_ok-check-in-Check-default.ensures.checked, refl),
      failed.1,
    )) c.print_text-in-Check-default.ensures.failed

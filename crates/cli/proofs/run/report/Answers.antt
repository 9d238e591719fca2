use Rattle.cli.proofs.run.report.Goals as goal

pub returns : goal.returns
returns g c = record { status = c.status.ensures; line = c.tell.ensures }

use Rattle.proposer.proofs.AllowedClosing.{skipped_lem}
use Rattle.proposer.proofs.allowed.skipping_is_allowed.Goals as goal

pub returns : goal.returns
returns c = λ f i input x p position reached stands. skipped_lem f i input x p position reached stands

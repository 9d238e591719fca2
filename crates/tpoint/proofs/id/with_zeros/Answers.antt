use Rattle.std.proofs.Common.{◌≡◌, ℕ, ◌-◌, List, ◌++◌, length, drop, replicate}
use Rattle.std.proofs.lemmas.List.{drop-replicate}
use Rattle.tpoint.proofs.id.with_zeros.Goals as goal

zeros_after : (text copy : List ℕ) → copy ≡ text → copy ++ drop (length text) (replicate 64 0) ≡ text ++ replicate (64 - length text) 0
zeros_after text copy e = rw (e, drop-replicate)

pub returns : goal.returns
returns c = zeros_after c.args.text.now c.copy_from_slice.new.self c.copy_from_slice.ensures.after

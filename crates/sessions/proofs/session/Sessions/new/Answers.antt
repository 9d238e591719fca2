use Rattle.std.proofs.Common.{◌≡◌, ℕ, zero, suc, None, replicate, slice_index_or, refl}
use Rattle.sessions.proofs.session.Sessions.new.Goals as goal

-- copies of one element, and beyond them the same element in its place
same_everywhere : {X : Type 0} (n i : ℕ) (x : X) → slice_index_or (replicate n x) i x ≡ x
same_everywhere zero i x = refl
same_everywhere (suc n) zero x = refl
same_everywhere (suc n) (suc i) x = same_everywhere n i x

pub returns-clause-none : goal.returns-clause-none
returns-clause-none c client = same_everywhere 256 client None

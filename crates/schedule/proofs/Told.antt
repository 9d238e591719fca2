-- What a `?` tells is what the call before it told.
use Rattle.std.proofs.Common.{◌≡◌, Result, Ok, Err, MatchResult, sym, subst}
use Rattle.std.specs.Prelude.{IsErrAnd}

pub err_told : {A E : Type 0} (result : Result A E) (fault : E) (IsRead : A → Type 0) (IsTold : E → Type 0)
    → IsErrAnd result (λ told. told ≡ fault) → IsTold fault → MatchResult result IsRead IsTold
err_told (Ok read) fault IsRead IsTold left is = absurd left
err_told (Err told) fault IsRead IsTold left is = subst IsTold (sym left) is

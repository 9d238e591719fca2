use Rattle.std.proofs.Common.{◌≡◌, ◌++◌, map, take}
use Rattle.serving.specs.declared.claims.Claim.{Claim}
use Rattle.serving.proofs.waiting.Waiting.list_claims.Given as goal

abbrev pub invariant-claims : goal.invariant-claims
invariant-claims l = l.lines.items ≡ l.initial.lines.items ++ map (λ (claim : Claim). claim.connection) (take l.claim-index l.self.claims)

use Rattle.std.proofs.Common.{ℕ, List, ◌++◌, length, drop, ap, ◌∙◌, replicate}
use Rattle.std.proofs.lemmas.List.{drop-replicate}
use Rattle.peers.proofs.key.padded.Goals as goal

pub returns : goal.returns
returns c =
    let n = length c.args.bytes.now in
    ap (λ (xs : List ℕ). xs ++ drop n (replicate 64 0)) c.copy_from_slice.ensures.after
    ∙ ap (λ (xs : List ℕ). c.args.bytes.now ++ xs) (drop-replicate n 64 0)

-- Queues: what passes goes on their tape.
use Rattle.std.proofs.Common.{◌≡◌, List, [], ◌∷◌, ◌++◌, Result, Ok, Err, IsOk, IfOk, ap, ◌∙◌}
use Rattle.std.proofs.lemmas.List.{map-append}
use Rattle.cluster.specs.Passages.{Passage}
use Rattle.cluster.specs.Queues.{passage_of, passages}
use Rattle.cluster.specs.declared.queues.Passed.{Passed}

-- what was told stands at the end of the tape
pub on_tape : {E : Type 0} (told : Result Passed E) (old new : List Passed) (passage : Passage)
    → IfOk told (λ p. passage_of p ≡ passage) → IsOk told → IfOk told (λ p. new ≡ old ++ p ∷ [])
    → passages new ≡ passages old ++ passage ∷ []
on_tape (Ok p) old new passage is ok tape =
    ap passages tape ∙ map-append passage_of old (p ∷ []) ∙ ap (λ (q : Passage). passages old ++ q ∷ []) is
on_tape (Err e) old new passage is ok tape = absurd (cc)

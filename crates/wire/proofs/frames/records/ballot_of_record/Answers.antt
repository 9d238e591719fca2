use Rattle.std.proofs.Common.{◌≡◌, List, ℕ, ap, ◌∙◌, ◌∷◌, [], slice_index_or, Some, arith}
use Rattle.std.proofs.lemmas.Grind.{elements}
use Rattle.byteorder.specs.Endian.{big_number}
use Rattle.byteorder.specs.Numbers.{big_number-reads_back}
use Rattle.wire.specs.Spelling.{ballot_bytes}
use Rattle.wire.specs.OneBallot.{same_ballot}
use Rattle.wire.proofs.frames.records.ballot_of_record.Goals as goal

-- the number that was written is read again, and the node stands behind it
pub returns-then-node-lt-MOST_NODES-clause-read : goal.returns-then-node-lt-MOST_NODES-clause-read
returns-then-node-lt-MOST_NODES-clause-read c = λ b is.
    let again : big_number 8 (ballot_bytes b) ≡ b.round = big_number-reads_back 8 b.round (b.node ∷ []) is.fits.round in
    let round = c.read_u64-round.ensures ∙ ap (big_number 8) is.spelled ∙ again in
    ap Some (same_ballot _ b round (ap (λ (xs : List ℕ). slice_index_or xs 8 0) is.spelled))

pub returns-then-node-lt-MOST_NODES-clause-spelled : goal.returns-then-node-lt-MOST_NODES-clause-spelled
returns-then-node-lt-MOST_NODES-clause-spelled c = grind (arith, elements)

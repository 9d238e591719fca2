use Rattle.std.proofs.Common.{◌+◌, ◌*◌, length, sym, ap, ◌∙◌}
use Rattle.sessions.proofs.SpellingLemmas.{feature_len}
use Rattle.sessions.proofs.snapshot.feature_len.Goals as goal

pub returns-clause-value : goal.returns-clause-value
returns-clause-value c =
    let whole = feature_len (record { id = c.args.id.now; seq = c.args.seq.now }) in
    let id = ap length c.bytes.ensures.value in
    let points = ap length c.points.ensures.value in
    (λ i. 4 + id i + 24 * points i) ∙ sym whole

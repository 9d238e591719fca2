use Rattle.std.proofs.Common.{◌≡◌, true, false}
use Rattle.world_model.proofs.Progress.RoundMembers.{no_more}
use Rattle.world.proofs.rounds.+has_repeats.Goals as goal

pub returns-else-is_among : goal.returns-else-is_among
returns-else-is_among t c =
    no_more c.args.nodes.now c.first-item.result c.has_repeats.result c.in-len1-up.len_at_least c.first-item.is
    (λ again. let e : false ≡ true = c.if-is_among.ensures.1 again in absurd (cc)) c.has_repeats.ensures

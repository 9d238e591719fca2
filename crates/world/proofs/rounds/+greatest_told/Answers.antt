use Rattle.std.proofs.Common.{sym, ap, subst, ◌∙◌, MatchOption}
use Rattle.world_model.proofs.Progress.RoundMembers.{told_first}
use Rattle.world_model.specs.Rounds.{refusal_in, NoneRefuses, IsGreatestTold}
use Rattle.world.proofs.rounds.+greatest_told.Goals as goal

pub returns-in_ok-envelope-in-len1-up-clause-greatest : goal.returns-in_ok-envelope-in-len1-up-clause-greatest
returns-in_ok-envelope-in-len1-up-clause-greatest t c =
    subst (λ o. MatchOption o (NoneRefuses c.args.frames.now) (IsGreatestTold c.args.frames.now)) (sym c.greater.ensures)
    (told_first c.args.frames.now c.first-item.result c.refusal_in.result c.in_ok-later-in-len1-up.later c.in-len1-up.len_at_least
    c.first-item.is (c.refusal_in.ensures ∙ ap (λ e. refusal_in e.message) c.in_ok-envelope-in-len1-up.ensures.envelope)
    c.in_ok-later-in-len1-up.ensures.greatest)

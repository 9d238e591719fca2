use Rattle.std.proofs.lemmas.Result.{on_ok_weaker}
use Rattle.picture.proofs.Growth.{grows_by, has_last, has_still}
use Rattle.fleetmap.specs.Pages.{title_text}
use Rattle.fleetmap.proofs.page.draw_title.Goals as goal

pub returns-clause-titled : goal.returns-clause-titled
unfolding title_text
returns-clause-titled c =
    on_ok_weaker c.text-2.result (λ e. has_still _ _ _ (has_last _ _ _ c.in_ok-text.ensures) (grows_by _ _ _ e)) c.text-2.ensures

use Rattle.std.proofs.lemmas.Result.{on_ok_weaker}
use Rattle.picture.proofs.Growth.{grows_by, grows_on}
use Rattle.fleetmap.proofs.legend.draw_query.Goals as goal

pub returns : goal.returns
returns c =
    on_ok_weaker c.draw_fact-2.result
    (λ last. grows_on _ _ _ (grows_by _ _ _ c.in_ok-open.ensures) (grows_on _ _ _ (grows_by _ _ _ c.in_ok-text.ensures)
    (grows_on _ _ _ (grows_by _ _ _ c.in_ok-close.ensures) (grows_on _ _ _ c.in_ok-draw_fact.ensures last))))
    c.draw_fact-2.ensures

-- A question's row, after the word that was met.
use Rattle.std.proofs.Common.{refl}
use Rattle.schedule.proofs.Told.{err_told}
use Rattle.schedule.proofs.queries.query_of.Goals as goal

pub returns-in_err-id-in-Ever : goal.returns-in_err-id-in-Ever
returns-in_err-id-in-Ever c =
    err_told _ _ _ _ c.from_residual.ensures.1
    (rw c.in-Ever.is c.in_err-id-in-Ever.ensures)

pub returns-in_ok-id-in-Ever : goal.returns-in_ok-id-in-Ever
returns-in_ok-id-in-Ever c =
    let visit = c.in_ok-id-in-Ever in
    rw c.in-Ever.is (λ n. ((visit.id, (visit.period, (visit.rect, tt))), visit.ensures n, refl))

pub returns-in_err-id-in-Always : goal.returns-in_err-id-in-Always
returns-in_err-id-in-Always c =
    err_told _ _ _ _ c.from_residual-in_err-id-in-Always.ensures.1
    (rw c.in-Always.is c.in_err-id-in-Always.ensures)

pub returns-in_ok-id-in-Always : goal.returns-in_ok-id-in-Always
returns-in_ok-id-in-Always c =
    let visit = c.in_ok-id-in-Always in
    rw c.in-Always.is (λ n. ((visit.id, (visit.period, (visit.rect, tt))), visit.ensures n, refl))

pub returns-in_err-period-in-Within : goal.returns-in_err-period-in-Within
returns-in_err-period-in-Within c =
    err_told _ _ _ _ c.from_residual-in_err-period-in-Within.ensures.1
    (rw c.in-Within.is c.in_err-period-in-Within.ensures)

pub returns-in_ok-period-in-Within : goal.returns-in_ok-period-in-Within
returns-in_ok-period-in-Within c =
    let visit = c.in_ok-period-in-Within in
    rw c.in-Within.is (λ n. ((visit.period, (visit.rect, tt)), visit.ensures n, refl))

pub returns-in_err-get_row-in-Get : goal.returns-in_err-get_row-in-Get
returns-in_err-get_row-in-Get c =
    err_told _ _ _ _ c.from_residual-in_err-get_row-in-Get.ensures.1
    (rw c.in-Get.is c.in_err-get_row-in-Get.ensures)

pub returns-in_ok-get_row-in-Get : goal.returns-in_ok-get_row-in-Get
returns-in_ok-get_row-in-Get c =
    rw c.in-Get.is (λ n. ((c.in_ok-get_row-in-Get.field-0, tt), c.in_ok-get_row-in-Get.ensures n, refl))

pub returns-in-At : goal.returns-in-At
returns-in-At c = rw c.in-At.is c.at_row.ensures

pub returns-in-Cut : goal.returns-in-Cut
returns-in-Cut c = rw c.in-Cut.is c.cut_row.ensures

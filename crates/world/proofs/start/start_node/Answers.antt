use Rattle.std.proofs.lemmas.Result.{err_from_is_err_and}
use Rattle.world.proofs.start.start_node.Goals as goal

-- the storage was found used, or memory is wanting
pub returns-in_err-see_empty : goal.returns-in_err-see_empty
returns-in_err-see_empty g c =
    let exit = err_from_is_err_and c.from_residual.result c.from_residual.ensures.1 in
    rw (exit.1, exit.2) (record {
      started = tt;
      over = tt;
      used = c.in_err-see_empty.ensures.used;
      faults = c.in_err-see_empty.ensures.faults;
    })

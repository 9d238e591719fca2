use Rattle.std.proofs.Common.{sym, ◌∙◌}
use Rattle.sqlite.specs.Held.{state}
use Rattle.sqlstable.proofs.FoundLemmas.{blank_found}
use Rattle.sqlstable.proofs.constructors.prepare.Goals as goal

pub returns-then-is_blank-clause-found : goal.returns-then-is_blank-clause-found
returns-then-is_blank-clause-found g c usable =
    blank_found (state g.S.Store c.args.connection.now) (state g.S.Store c.begin.new.connection) c.begin.result
    (sym c.schema.ensures.value ∙ c.is_blank.ensures.0 c.if-is_blank.true) c.schema.ensures.live (c.begin.ensures.was_usable usable)
    (c.begin.ensures.empty usable)

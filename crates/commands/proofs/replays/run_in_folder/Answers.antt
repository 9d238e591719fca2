use Rattle.std.proofs.Common.{inr, sym, ◌∙◌}
use Rattle.std.proofs.lemmas.Result.{IfErr-weaker, IfOk-weaker}
use Rattle.commands.proofs.replays.run_in_folder.Goals as goal

-- the run is one over what was handed out, as many as there are nodes
pub returns-clause-made : goal.returns-clause-made
returns-clause-made g c =
    IfOk-weaker c.run_over.result _ _ (λ text runs. (
      c.in_ok-stores.stores.items,
      record {
        one_each = sym c.in_ok-stores.stores.ok.0 ∙ c.in_ok-stores.ensures.one_each ∙ c.nodes.ensures;
        opens = rw (← c.nodes.ensures) c.in_ok-stores.ensures.opened;
      },
      runs,
    )) c.run_over.ensures.makes

-- and so is one that ends without a text
pub returns-clause-ends : goal.returns-clause-ends
returns-clause-ends g c =
    IfErr-weaker c.run_over.result _ _ (λ failure ends. inr (
      c.in_ok-stores.stores.items,
      record {
        one_each = sym c.in_ok-stores.stores.ok.0 ∙ c.in_ok-stores.ensures.one_each ∙ c.nodes.ensures;
        opens = rw (← c.nodes.ensures) c.in_ok-stores.ensures.opened;
      },
      ends,
    )) c.run_over.ensures.ends

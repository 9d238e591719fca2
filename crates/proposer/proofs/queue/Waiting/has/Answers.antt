use Rattle.std.proofs.Common.{◌∙◌, is_some, ap}
use Rattle.std.specs.Map.{lookup}
use Rattle.proposer.specs.declared.name.Name.{Name}
use Rattle.proposer.proofs.RequestLemmas.{is_named, found_by_name}
use Rattle.proposer.proofs.queue.Waiting.has.Goals as goal

pub returns : goal.returns
returns c =
    let es = c.self.inside.requests.entries in
    rw (← c.self.view_is) (c.contains_key.ensures
    ∙ ap (λ (n : Name). is_some (lookup (is_named n.client n.number) es)) c.new.ensures
    ∙ found_by_name c.args.client c.args.number es c.self.invariant.0)

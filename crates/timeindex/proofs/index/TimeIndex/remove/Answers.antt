use Rattle.std.proofs.Common.{◌∙◌, sym, ap, is_some}
use Rattle.std.specs.List.{remove}
use Rattle.timeindex.specs.Entries.{id_of}
use Rattle.timeindex.proofs.PlaceLemmas.{element_of-at, element_of-gap, without-gap}
use Rattle.timeindex.proofs.EditLemmas.{remove-at}
use Rattle.timeindex.proofs.index.TimeIndex.remove.Goals as goal

-- the id is unknown
pub returns-in_default-clause-told : goal.returns-in_default-clause-told
returns-in_default-clause-told c = sym (ap is_some (element_of-gap id_of _ _ _ c.in_default.ensures.absent))

pub returns-in_default-clause-value : goal.returns-in_default-clause-value
returns-in_default-clause-value c = sym (without-gap id_of _ _ _ c.in_default.ensures.absent)

-- the id is known, and its entry is taken out
pub returns-clause-told : goal.returns-clause-told
returns-clause-told c = sym (ap is_some (element_of-at id_of _ _ _ c.in-Ok.ensures.found c.remove.result))

pub returns-clause-value : goal.returns-clause-value
returns-clause-value c =
    c.remove.ensures.items
    ∙ ap (λ es. remove es c.in-Ok.at) c.self.view_is
    ∙ remove-at id_of _ _ _ c.in-Ok.ensures.found

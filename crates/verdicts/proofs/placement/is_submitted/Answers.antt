use Rattle.std.proofs.Common.{refl, sym, ◌∙◌, subst}
use Rattle.sessions.specs.declared.command.Command.TheVariants as command
use Rattle.verdicts.specs.RequestIndex.{IsFound}
use Rattle.verdicts.proofs.NameLemmas.{submitted_found}
use Rattle.verdicts.proofs.placement.is_submitted.Goals as goal

pub returns-in-NoOp : goal.returns-in-NoOp
returns-in-NoOp c = λ requests indexed. (
  λ t. rw c.in-NoOp.is (record { command = command.NoOp; among = tt; named = refl }),
  λ s. refl,
)

pub returns-in-Request : goal.returns-in-Request
returns-in-Request c = λ requests indexed.
    let found = subst (IsFound requests c.in-Request.client c.in-Request.number) (sym (c.copied-found.ensures ∙ c.get.ensures.value))
    (indexed.each c.in-Request.client c.in-Request.number) in
    let both = submitted_found requests c.in-Request.client c.in-Request.number c.copied-found.result found in
    rw c.in-Request.is (rw c.is_some.ensures both)

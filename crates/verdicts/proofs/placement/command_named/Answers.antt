use Rattle.std.proofs.Common.{sym, ◌∙◌, subst}
use Rattle.verdicts.specs.RequestIndex.{IsFound}
use Rattle.verdicts.proofs.NameLemmas.{no_op_named}
use Rattle.verdicts.proofs.placement.command_named.Goals as goal

pub returns-in-NoOp : goal.returns-in-NoOp
returns-in-NoOp c = rw c.in-NoOp.is (no_op_named c.args.requests.now)

pub request_named-requires : goal.request_named-requires
request_named-requires c =
    subst (IsFound c.args.requests.now c.in-Request.client c.in-Request.number) (sym (c.copied-found.ensures ∙ c.get.ensures.value))
    (c.requires.each c.in-Request.client c.in-Request.number)

pub returns-in-Request : goal.returns-in-Request
returns-in-Request c = rw c.in-Request.is c.request_named.ensures

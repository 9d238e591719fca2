-- Naming member by member.
use Rattle.std.proofs.Common.{refl}
use Rattle.schedule.specs.Words.{words_of}
use Rattle.schedule.proofs.Naming.{one_named, stranger}
use Rattle.schedule.proofs.pending_line.members_of.Goals as goal

-- a word names no node, so the words name no members
pub returns-in_default-node : goal.returns-in_default-node
returns-in_default-node c = (
  refl,
  stranger c.args.nodes (words_of c.args.list.now) _ _ c.in-Some.word.now _ c.loop-word.invariant c.in-Some.ensures
      c.in_default-node.ensures,
)

pub loop-word-preserved : goal.loop-word-preserved
loop-word-preserved c =
    one_named c.args.nodes (words_of c.args.list.now) _ _ c.in-Some.word.now _ _ c.in-Some-node.member
    c.loop-word.invariant c.in-Some.ensures c.in-Some-node.ensures c.in_ok-push.ensures.items

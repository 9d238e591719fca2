use Rattle.story.specs.Happenings.{slot_learnt}
use Rattle.story.specs.Members.{members_of}
use Rattle.story.proofs.LineLemmas.{in_parts}
use Rattle.story.proofs.objects.push_learnt.Goals as goal

pub returns : goal.returns
returns c =
    in_parts c.push_named.result (members_of (slot_learnt c.args.entry.now)) _ _ _ _ _ c.in_ok-write.ensures.bytes c.push_named.ensures
    (rw (c.value-node.ensures.value, c.value-slot.ensures.value, c.command.ensures))

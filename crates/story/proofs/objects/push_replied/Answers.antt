use Rattle.story.specs.Happenings.{reply_given}
use Rattle.story.specs.Members.{members_of}
use Rattle.story.proofs.LineLemmas.{in_parts}
use Rattle.story.proofs.objects.push_replied.Goals as goal

pub returns : goal.returns
returns c =
    in_parts c.push_reply.result (members_of (reply_given c.args.entry.now)) _ _ _ _ _ c.in_ok-write.ensures.bytes c.push_reply.ensures
    (rw (c.value-node.ensures.value))

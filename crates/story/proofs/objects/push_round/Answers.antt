use Rattle.story.specs.Happenings.{round_ended}
use Rattle.story.specs.Members.{members_of}
use Rattle.story.proofs.LineLemmas.{in_parts}
use Rattle.story.proofs.objects.push_round.Goals as goal

pub returns : goal.returns
returns c =
    in_parts c.push_round_end.result (members_of (round_ended c.args.node c.args.end)) _ _ _ _ _ c.in_ok-write.ensures.bytes c.push_round_end.ensures
    (rw (c.value-node.ensures.value))

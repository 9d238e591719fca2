use Rattle.std.proofs.Common.{◌++◌, codes}
use Rattle.replay.specs.Transcripts.{request_text}
use Rattle.story.specs.Members.{reply_members}
use Rattle.story.proofs.LineLemmas.{in_parts, two_parts}
use Rattle.story.proofs.objects.push_reply.Goals as goal

pub returns : goal.returns
returns c =
    in_parts c.write.result (reply_members c.args.entry.now)
    (codes ",\"request\":\"" ++ request_text c.args.entry.now.client c.value.result) _ _ _ _
    (two_parts _ _ _ _ _ c.in_ok-extend_from_slice.ensures.items c.in_ok-push_request.ensures) c.write.ensures.bytes
    (rw (c.value.ensures.value, c.code-code.ensures, c.reply_meaning-meaning.ensures))

use Rattle.story.specs.Saying.{ending_members}
use Rattle.story.proofs.LineLemmas.{said_so}
use Rattle.story.proofs.objects.push_fault.Goals as goal

pub returns : goal.returns
returns c = said_so c.write.result (ending_members c.args.fault c.args.frames) _ _ _ c.write.ensures.bytes (rw (c.code-code.ensures))

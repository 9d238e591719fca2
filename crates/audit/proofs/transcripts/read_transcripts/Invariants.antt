use Rattle.std.proofs.Common.{map, take}
use Rattle.audit.specs.Files.{AreRead, texts_from}
use Rattle.audit.proofs.transcripts.read_transcripts.Given as goal

-- the transcripts so far were read
abbrev pub invariant-loop-file : goal.invariant-loop-file
invariant-loop-file l = AreRead l.nodes (texts_from 0 (map (λ t. t.items) (take l.file l.transcripts))) l.read.learns.items l.read.told.items

use Rattle.std.proofs.Common.{List, sym, ap, ◌∙◌, subst, take, length, ◌<◌, ◌∷◌, ◌++◌, []}
use Rattle.std.proofs.lemmas.List.{take_more}
use Rattle.audit.specs.Files.{AreRead, PlacedText, nothing}
use Rattle.audit.proofs.FileLemmas.{texts_at}
use Rattle.audit.proofs.transcripts.read_transcripts.Goals as goal

pub loop-file-init : goal.loop-file-init
loop-file-init c = rw (c.new.ensures.items, c.new-2.ensures.items) nothing

pub loop-file-preserved : goal.loop-file-preserved
loop-file-preserved c =
    let within : c.loop-file.file < length c.args.transcripts.now = c.loop-file-test.true in
    let more = take_more c.args.transcripts.now c.loop-file.file c.index-transcripts-file.result within
    ∙ ap (λ x. take c.loop-file.file c.args.transcripts.now ++ x ∷ []) (sym c.index-transcripts-file.is) in
    let texts = texts_at (λ t. t.items) c.args.transcripts.now c.loop-file.file c.index-transcripts-file.result c.deref.result.now within more
    c.deref.ensures.value in
    subst (λ (ts : List PlacedText). AreRead c.args.nodes ts c.read_transcript.new.read.learns.items c.read_transcript.new.read.told.items)
    (sym texts) (c.in_ok-read_transcript.ensures _ c.loop-file.invariant)

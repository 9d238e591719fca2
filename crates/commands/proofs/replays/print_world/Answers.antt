use Rattle.commands.proofs.Printing.{takes_text}
use Rattle.commands.proofs.replays.print_world.Goals as goal

-- nothing waited before the transcript
pub returns-in-Ok-clause-printed : goal.returns-in-Ok-clause-printed
returns-in-Ok-clause-printed g c =
    takes_text g.O.Write.contents c.args.out.now c.print_transcript.new.sink c.in_ok-part.part.items _ c.in_ok-part.ensures.items
    c.in-Ok.ensures.handed

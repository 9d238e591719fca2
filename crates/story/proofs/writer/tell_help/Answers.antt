use Rattle.std.proofs.Common.{sym, subst}
use Rattle.schedule.specs.declared.replay_fault.ReplayCause.{ReplayCause}
use Rattle.story.specs.Lines.{AddsLines, none}
use Rattle.story.specs.Saying.{help}
use Rattle.story.proofs.writer.tell_help.Goals as goal

pub returns-in-Schedule : goal.returns-in-Schedule
returns-in-Schedule c =
    subst (λ (x : ReplayCause). AddsLines c.args.text.now.items (help x c.args.frames c.args.waiting.now) c.args.text.now.items) (sym c.in-Schedule.is) none

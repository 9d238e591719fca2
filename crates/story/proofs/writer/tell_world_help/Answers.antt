use Rattle.std.proofs.Common.{sym, subst}
use Rattle.events.specs.declared.fault.WorldFault.{WorldFault}
use Rattle.story.specs.Lines.{AddsLines, none}
use Rattle.story.specs.Saying.{world_help}
use Rattle.story.proofs.writer.tell_world_help.Goals as goal

pub returns-in-NoSuchNode : goal.returns-in-NoSuchNode
returns-in-NoSuchNode c =
    subst (λ (x : WorldFault). AddsLines c.args.text.now.items (world_help x c.args.frames c.args.waiting.now) c.args.text.now.items) (sym c.in-NoSuchNode.is) none

pub returns-in-Memory : goal.returns-in-Memory
returns-in-Memory c =
    subst (λ (x : WorldFault). AddsLines c.args.text.now.items (world_help x c.args.frames c.args.waiting.now) c.args.text.now.items) (sym c.in-Memory.is) none

pub returns-in-NotEmpty : goal.returns-in-NotEmpty
returns-in-NotEmpty c =
    subst (λ (x : WorldFault). AddsLines c.args.text.now.items (world_help x c.args.frames c.args.waiting.now) c.args.text.now.items) (sym c.in-NotEmpty.is) none

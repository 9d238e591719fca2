use Rattle.std.proofs.Common.{OnOk, sym, subst}
use Rattle.std.proofs.lemmas.Result.{on_ok_weaker}
use Rattle.story.proofs.LineLemmas.{adds_line}
use Rattle.story.specs.Lines.{AddsLines}
use Rattle.story.specs.Saying.{fault_said}
use Rattle.story.specs.declared.writer.Form.{Form}
use Rattle.story.proofs.writer.tell_fault.Goals as goal

pub returns-in_ok-line-in-Json : goal.returns-in_ok-line-in-Json
returns-in_ok-line-in-Json c =
    subst (λ (f : Form). OnOk c.push_line.result (AddsLines c.args.text.now.items (fault_said f c.args.fault c.args.frames c.args.waiting.now) c.push_line.new.text.items))
    (sym c.in-Json.is)
    (on_ok_weaker c.push_line.result (adds_line _ _ _ _ _ c.in_ok-line-in-Json.ensures c.as_slice.ensures.value) c.push_line.ensures)

use Rattle.std.proofs.Common.{◌≡◌, ◌++◌, take}
use Rattle.std.specs.List.{flat_map}
use Rattle.store.specs.Answers.{fix_text}
use Rattle.store.proofs.answers.push_fixes.Given as goal

abbrev pub invariant-loop-fix : goal.invariant-loop-fix
invariant-loop-fix l = l.text.items ≡ l.initial.text.items ++ flat_map fix_text (take l.fix-index l.fixes)

use Rattle.std.proofs.Common.{◌≡◌, ◌<◌, List, [], ℕ, length, get_or, map, sym, subst, rules}
use Rattle.diagram.specs.declared.scene.Mark.{Mark}
use Rattle.story.specs.Marking.{AreMarked, marking, none}
use Rattle.story.proofs.MarkLemmas.{next_marked}
use Rattle.story.proofs.marks.mark_run.Goals as goal

-- no entry has no mark
pub loop-index-init : goal.loop-index-init
loop-index-init c =
    subst (λ (n : ℕ). AreMarked c.args.ledger.now [] n (map marking c.begin-marker.result.marks.items)) (sym c.begin-marker.ensures.step)
    (subst (λ (ms : List Mark). AreMarked c.args.ledger.now [] 0 (map marking ms)) (sym c.begin-marker.ensures.marks) none)

pub loop-index-preserved : goal.loop-index-preserved
loop-index-preserved c =
    let es = c.in_ok-entries.entries.items in
    let e = c.index-entry.result.now in
    let below : c.loop-index.index < length es = search rules in
    let read : e ≡ get_or es c.loop-index.index e = search rules in
    next_marked c.args.ledger.now es c.loop-index.index e c.loop-index.marker c.mark_next.new.self below read c.loop-index.invariant
    c.in_ok-mark_next.ensures.step c.in_ok-mark_next.ensures.marks

use Rattle.std.proofs.Common.{rules}
use Rattle.story.proofs.RangeLemmas.{flag_clear, flag_set, flags_done}
use Rattle.story.proofs.ranges.list_ranges.Goals.{then-waiting-number, else-waiting-number+in_ok-push_some}
use Rattle.story.proofs.ranges.list_ranges.Goals as goal

pub loop-number-preserved : goal.loop-number-preserved
loop-number-preserved c =
    let flags = c.args.waiting.now in
    let i = c.loop-number.number in elim c.if-waiting-number.branch [
      | then-waiting-number w ↦ rw (w.ranges-is, w.before-is) (flag_set flags i _ _ _ _ _ (search rules) w.if-waiting-number.true
          (search rules) c.loop-number.invariant)
      | else-waiting-number+in_ok-push_some w ↦ rw (w.ranges-is, w.before-is) (flag_clear flags i _ _ _ _ _ (search rules)
          w.if-waiting-number.false w.in_ok-push_some.ensures c.loop-number.invariant)
    ]

pub returns : goal.returns
returns c =
    flags_done c.args.waiting.now c.loop-number.number _ _ _ _ (search rules) c.in_ok-push_some-2.ensures c.loop-number.invariant

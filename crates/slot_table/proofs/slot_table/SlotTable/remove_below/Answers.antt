use Rattle.std.proofs.Common.{arith, ◌≡◌, ◌≤◌, ◌+◌, ◌∙◌, sym, subst}
use Rattle.slot_table.specs.Values.{value_at, without_below}
use Rattle.slot_table.proofs.ValueLemmas.{one_more_out, all_out, none_left}
use Rattle.slot_table.proofs.slot_table.SlotTable.remove_below.Goals as goal

-- one more value is taken out
pub loop-slot-preserved : goal.loop-slot-preserved
loop-slot-preserved g c =
    let first = c.in-Some.ensures in
    subst (λ n. (value_at c.remove.new.self ≡ without_below (value_at c.args.self.now) (n + 1)) × (n + 1 ≤ c.args.below))
    (sym c.value-next.ensures.value) (
      one_more_out (value_at c.args.self.now) (value_at c.loop-slot.self) (value_at c.remove.new.self) c.loop-slot.next c.in-Some.slot
          c.loop-slot.invariant.0 first.from first.none_before c.remove.ensures.gone,
      omega (arith, first.below),
    )

-- all are
pub returns : goal.returns
returns g c = record {
  gone = c.pass_over.ensures ∙ all_out (value_at c.args.self.now) (value_at c.loop-slot.self) c.loop-slot.next c.args.below
      c.loop-slot.invariant.0 c.loop-slot.invariant.1 c.in_default.ensures;
}

-- so nothing stands there
pub pass_over-requires : goal.pass_over-requires
pass_over-requires g c = none_left (value_at c.args.self.now) (value_at c.loop-slot.self) c.args.below
    (all_out (value_at c.args.self.now) (value_at c.loop-slot.self) c.loop-slot.next c.args.below c.loop-slot.invariant.0
    c.loop-slot.invariant.1 c.in_default.ensures)

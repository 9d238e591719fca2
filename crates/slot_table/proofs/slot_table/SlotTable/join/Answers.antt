use Rattle.std.proofs.Common.{rules, ◌≡◌, ◌+◌, ◌++◌, ◌∷◌, [], length, arith}
use Rattle.std.specs.BTreeMap.{get}
use Rattle.std.specs.Ordering.{nat_cmp}
use Rattle.slot_table.proofs.ValueLemmas.{row_longer, apart_longer, still_empty, get-updated}
use Rattle.slot_table.proofs.slot_table.SlotTable.join.Goals as goal

-- what stands at the next slot of the row joins it
pub returns-clause-same : goal.returns-clause-same
returns-clause-same g c =
    let self = c.args.self.now in
    let next : c.args.next ≡ self.from + length self.row.items = omega (arith, c.if-value-end.false, c.value.ensures.value, c.end.ensures) in
    let longer : c.push.new.self.items ≡ self.row.items ++ c.remove-found.result ∷ [] = search rules in
    row_longer self.from self.row.items c.push.new.self.items c.remove-found.result (get nat_cmp self.others)
    (get nat_cmp c.remove-found.new.self) c.args.next
    longer next c.remove-found.ensures.value (get-updated self.others c.remove-found.new.self c.args.next _ c.remove-found.ensures.updates)

-- and goes from the tree
pub invariant_of-self-2 : goal.invariant_of-self-2
invariant_of-self-2 g c =
    let self = c.args.self.now in
    let next : c.args.next ≡ self.from + length self.row.items = omega (arith, c.if-value-end.false, c.value.ensures.value, c.end.ensures) in
    let longer : c.push.new.self.items ≡ self.row.items ++ c.remove-found.result ∷ [] = search rules in record {
      vacant = still_empty self.row.items c.push.new.self.items c.remove-found.result self.empty longer self.vacant;
      apart = apart_longer self.from self.row.items self.others c.remove-found.new.self self.apart c.push.new.self.items c.remove-found.result
          c.args.next longer next (get-updated self.others c.remove-found.new.self c.args.next _ c.remove-found.ensures.updates);
    }

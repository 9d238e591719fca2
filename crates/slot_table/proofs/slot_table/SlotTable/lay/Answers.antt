use Rattle.std.proofs.Common.{rules, ◌≡◌, ◌<◌, ◌+◌, ◌++◌, ◌∷◌, [], length, Some, sym, ◌∙◌}
use Rattle.std.specs.BTreeMap.{get}
use Rattle.std.specs.Ordering.{nat_cmp}
use Rattle.slot_table.proofs.ValueLemmas.{row_next, apart_longer, still_empty, other_reads, next_is_free, get-updated}
use Rattle.slot_table.proofs.slot_table.SlotTable.lay.Goals as goal

pub returns-clause-stands : goal.returns-clause-stands
returns-clause-stands g c =
    let self = c.args.self.now in
    let next : c.args.slot ≡ self.from + length self.row.items = search rules in
    let in_log : c.args.slot < 65536 = search rules in
    let longer : c.push.new.self.items ≡ self.row.items ++ Some c.args.value ∷ [] = search rules in
    row_next self.from self.row.items c.push.new.self.items (get nat_cmp self.others) (get nat_cmp c.remove-before.new.self) c.args.slot
    (Some c.args.value) in_log longer next (get-updated self.others c.remove-before.new.self c.args.slot _ c.remove-before.ensures.updates)

pub returns-clause-before : goal.returns-clause-before
returns-clause-before g c =
    let self = c.args.self.now in
    let next : c.args.slot ≡ self.from + length self.row.items = search rules in
    let in_log : c.args.slot < 65536 = search rules in
    c.remove-before.ensures.value ∙ sym (other_reads self.from self.row.items (get nat_cmp self.others) c.args.slot in_log
    (next_is_free self.from self.row.items c.args.slot next))

pub invariant_of-self : goal.invariant_of-self
invariant_of-self g c =
    let self = c.args.self.now in
    let next : c.args.slot ≡ self.from + length self.row.items = search rules in
    let longer : c.push.new.self.items ≡ self.row.items ++ Some c.args.value ∷ [] = search rules in record {
      vacant = still_empty self.row.items c.push.new.self.items (Some c.args.value) self.empty longer self.vacant;
      apart = apart_longer self.from self.row.items self.others c.remove-before.new.self self.apart c.push.new.self.items (Some c.args.value)
          c.args.slot longer next (get-updated self.others c.remove-before.new.self c.args.slot _ c.remove-before.ensures.updates);
    }

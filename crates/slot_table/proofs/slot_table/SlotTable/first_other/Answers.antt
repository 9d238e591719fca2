use Rattle.std.proofs.Common.{rules, ◌≡◌, ◌∷◌, [], All}
use Rattle.std.specs.BTreeMap.Range.{entries_between, IsEntryInRange}
use Rattle.std.specs.Ordering.{nat_cmp}
use Rattle.std.specs.declared.ops.Bound.TheVariants.{Included, Unbounded}
use Rattle.slot_table.proofs.ValueLemmas.{first_listed, none_listed}
use Rattle.slot_table.proofs.slot_table.SlotTable.first_other.Goals as goal

-- the first that the map lists from the slot on
pub returns-in-Some : goal.returns-in-Some
returns-in-Some g c =
    let m = c.args.self.now.others in
    let between : c.range.result ≡ entries_between nat_cmp (Included c.args.from) Unbounded m.entries = search rules in
    let each : All (IsEntryInRange nat_cmp (Included c.args.from) Unbounded m) c.range.result = search rules in
    let steps : c.range.result ≡ (c.in-Some.slot.now, c.in-Some.found.now) ∷ c.next.new.self = search rules in
    first_listed m c.args.from c.range.result c.range.ensures.ordered between each (c.in-Some.slot.now, c.in-Some.found.now)
    c.next.new.self steps

-- it lists none
pub returns-in-None : goal.returns-in-None
returns-in-None g c =
    let m = c.args.self.now.others in
    let between : c.range.result ≡ entries_between nat_cmp (Included c.args.from) Unbounded m.entries = search rules in
    let each : All (IsEntryInRange nat_cmp (Included c.args.from) Unbounded m) c.range.result = search rules in
    let steps : c.range.result ≡ [] = search rules in
    none_listed m c.args.from c.range.result c.range.ensures.ordered between each steps

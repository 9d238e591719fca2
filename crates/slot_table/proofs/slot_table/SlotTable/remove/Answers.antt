use Rattle.std.proofs.Common.{arith, rules, ◌≡◌, ◌<◌, ◌≤◌, ◌∙◌, None, Some, length, slice_set, ap, sym}
use Rattle.std.specs.BTreeMap.{get}
use Rattle.std.specs.Ordering.{nat_cmp}
use Rattle.slot_table.specs.Values.{row_from}
use Rattle.slot_table.proofs.ValueLemmas.{row_put, row_set, row_reads, other_reads, place_there, none_behind, apart_put, get-updated}
use Rattle.slot_table.proofs.slot_table.SlotTable.remove.Goals as goal

-- the slot is of the row
pub returns-in-Some-clause-before : goal.returns-in-Some-clause-before
returns-in-Some-clause-before g c =
    let self = c.args.self.now in
    let lt : c.args.slot < 65536 = search rules in
    let within : c.place-place.result < length self.row.items = grind arith in
    let is : row_from self.from self.row.items c.args.slot ≡ Some c.in-Some.place.now =
    sym c.place-place.ensures.reads
    ∙ place_there self.row.items c.place-place.result c.in-Some.place.now within c.in-Some.ensures.value in
    c.take.ensures.value ∙ sym (row_reads self.from self.row.items (get nat_cmp self.others) c.args.slot c.in-Some.place.now lt is)

pub returns-in-Some-clause-gone : goal.returns-in-Some-clause-gone
returns-in-Some-clause-gone g c =
    let self = c.args.self.now in
    let lt : c.args.slot < 65536 = search rules in
    let within : c.place-place.result < length self.row.items = grind arith in
    row_set self.from self.row.items (slice_set self.row.items c.place-place.result c.take.new.self) (get nat_cmp self.others) c.args.slot
    c.place-place.result None (ap (slice_set self.row.items c.place-place.result) c.take.ensures.after) lt
    (c.place-place.ensures.within within) within

-- it isn't
pub returns-in-None-clause-before : goal.returns-in-None-clause-before
returns-in-None-clause-before g c =
    let self = c.args.self.now in
    let lt : c.args.slot < 65536 = search rules in
    let behind : length self.row.items ≤ c.place-place.result = grind arith in
    let none : row_from self.from self.row.items c.args.slot ≡ None =
    sym c.place-place.ensures.reads ∙ none_behind self.row.items c.place-place.result behind in
    c.remove.ensures.value ∙ sym (other_reads self.from self.row.items (get nat_cmp self.others) c.args.slot lt none)

pub returns-in-None-clause-gone : goal.returns-in-None-clause-gone
returns-in-None-clause-gone g c =
    let self = c.args.self.now in
    let lt : c.args.slot < 65536 = search rules in
    let behind : length self.row.items ≤ c.place-place.result = grind arith in
    let none : row_from self.from self.row.items c.args.slot ≡ None =
    sym c.place-place.ensures.reads ∙ none_behind self.row.items c.place-place.result behind in
    row_put self.from self.row.items (get nat_cmp self.others) (get nat_cmp c.remove.new.self) c.args.slot None lt none
    (get-updated self.others c.remove.new.self c.args.slot _ c.remove.ensures.updates)

pub invariant_of-self-in-None : goal.invariant_of-self-in-None
invariant_of-self-in-None g c =
    let self = c.args.self.now in
    let behind : length self.row.items ≤ c.place-place.result = grind arith in
    let none : row_from self.from self.row.items c.args.slot ≡ None =
    sym c.place-place.ensures.reads ∙ none_behind self.row.items c.place-place.result behind in record {
      vacant = self.vacant;
      apart = apart_put self.from self.row.items self.others c.remove.new.self self.apart c.args.slot None none
          (get-updated self.others c.remove.new.self c.args.slot _ c.remove.ensures.updates);
    }

use Rattle.std.proofs.Common.{arith, rules, ◌≡◌, ◌<◌, ◌≤◌, None, Some, length, slice_set, sym, ap, ◌∙◌}
use Rattle.std.specs.BTreeMap.{get, is_at}
use Rattle.std.specs.Map.{lookup}
use Rattle.std.specs.Ordering.{nat_cmp}
use Rattle.synod.specs.Records.{put}
use Rattle.slot_table.specs.Values.{row_from, in_row, in_log}
use Rattle.slot_table.proofs.ValueLemmas.{row_put, row_set, row_reads, other_reads, place_there, none_behind, apart_tried, get-updated, where_refused}
use Rattle.slot_table.proofs.slot_table.SlotTable.insert.Goals as goal

-- the slot is of the row
pub returns-in-Some-clause-before : goal.returns-in-Some-clause-before
returns-in-Some-clause-before g c =
    let mid = c.lengthen.new.self in
    let slot = c.args.slot in
    let lt : slot < 65536 = search rules in
    let within : c.place-place.result < length mid.row.items = grind arith in
    let is : row_from mid.from mid.row.items slot ≡ Some c.in-Some.place.now =
    sym c.place-place.ensures.reads ∙ place_there mid.row.items c.place-place.result c.in-Some.place.now within c.in-Some.ensures.value in
    c.replace.ensures.value ∙ sym (row_reads mid.from mid.row.items (get nat_cmp mid.others) slot c.in-Some.place.now lt is)
    ∙ ap (λ f. f slot) c.lengthen.ensures.same

pub returns-in-Some-clause-stands : goal.returns-in-Some-clause-stands
returns-in-Some-clause-stands g c =
    let mid = c.lengthen.new.self in
    let slot = c.args.slot in
    let lt : slot < 65536 = search rules in
    let within : c.place-place.result < length mid.row.items = grind arith in
    row_set mid.from mid.row.items (slice_set mid.row.items c.place-place.result c.replace.new.self) (get nat_cmp mid.others) slot
    c.place-place.result (Some c.args.value) (ap (slice_set mid.row.items c.place-place.result) c.replace.ensures.after) lt
    (c.place-place.ensures.within within) within
    ∙ ap (λ f. put f slot (Some c.args.value)) c.lengthen.ensures.same

-- it isn't
pub returns-in_ok-insert-in-None-clause-before : goal.returns-in_ok-insert-in-None-clause-before
returns-in_ok-insert-in-None-clause-before g c =
    let mid = c.lengthen.new.self in
    let slot = c.args.slot in
    let lt : slot < 65536 = search rules in
    let behind : length mid.row.items ≤ c.place-place.result = grind arith in
    let none : row_from mid.from mid.row.items slot ≡ None =
    sym c.place-place.ensures.reads ∙ none_behind mid.row.items c.place-place.result behind in
    c.in_ok-insert-in-None.ensures.old ∙ sym (other_reads mid.from mid.row.items (get nat_cmp mid.others) slot lt none)
    ∙ ap (λ f. f slot) c.lengthen.ensures.same

pub returns-in_ok-insert-in-None-clause-stands : goal.returns-in_ok-insert-in-None-clause-stands
returns-in_ok-insert-in-None-clause-stands g c =
    let mid = c.lengthen.new.self in
    let slot = c.args.slot in
    let lt : slot < 65536 = search rules in
    let behind : length mid.row.items ≤ c.place-place.result = grind arith in
    let none : row_from mid.from mid.row.items slot ≡ None =
    sym c.place-place.ensures.reads ∙ none_behind mid.row.items c.place-place.result behind in
    row_put mid.from mid.row.items (get nat_cmp mid.others) (get nat_cmp c.insert.new.self) slot (Some c.args.value) lt none
    (get-updated mid.others c.insert.new.self slot _ c.in_ok-insert-in-None.ensures.updates)
    ∙ ap (λ f. put f slot (Some c.args.value)) c.lengthen.ensures.same

pub invariant_of-self-in-None : goal.invariant_of-self-in-None
invariant_of-self-in-None g c =
    let mid = c.lengthen.new.self in
    let slot = c.args.slot in
    let behind : length mid.row.items ≤ c.place-place.result = grind arith in
    let none : row_from mid.from mid.row.items slot ≡ None =
    sym c.place-place.ensures.reads ∙ none_behind mid.row.items c.place-place.result behind in record {
      vacant = λ s lt. mid.vacant s (grind (arith, lt, c.min-self.ensures));
      apart = apart_tried mid.from mid.row.items mid.others c.insert.new.self mid.apart c.insert.result slot (Some c.args.value) none
          c.insert.ensures.updates c.insert.ensures.err;
    }

-- memory was wanting
pub returns-in_err-insert-in-None-clause-absent : goal.returns-in_err-insert-in-None-clause-absent
returns-in_err-insert-in-None-clause-absent g c =
    let mid = c.lengthen.new.self in
    let slot = c.args.slot in
    let lt : slot < 65536 = search rules in
    let behind : length mid.row.items ≤ c.place-place.result = grind arith in
    let none : row_from mid.from mid.row.items slot ≡ None =
    sym c.place-place.ensures.reads ∙ none_behind mid.row.items c.place-place.result behind in
    where_refused c.from_residual.result (ap (λ f. f slot) (sym c.lengthen.ensures.same)
    ∙ other_reads mid.from mid.row.items (get nat_cmp mid.others) slot lt none ∙ c.in_err-insert-in-None.ensures.absent)

pub returns-in_err-insert-in-None-clause-unchanged : goal.returns-in_err-insert-in-None-clause-unchanged
returns-in_err-insert-in-None-clause-unchanged g c =
    let mid = c.lengthen.new.self in
    let slot = c.args.slot in
    where_refused c.from_residual.result
    (ap (λ es. in_log (in_row mid.from mid.row.items (λ s. lookup (is_at (nat_cmp s)) es))) c.in_err-insert-in-None.ensures.err
    ∙ c.lengthen.ensures.same)

pub returns-in_err-insert-in-None-clause-behind : goal.returns-in_err-insert-in-None-clause-behind
returns-in_err-insert-in-None-clause-behind g c =
    let mid = c.lengthen.new.self in
    let slot = c.args.slot in
    let behind : length mid.row.items ≤ c.place-place.result = grind arith in
    let none : row_from mid.from mid.row.items slot ≡ None =
    sym c.place-place.ensures.reads ∙ none_behind mid.row.items c.place-place.result behind in
    where_refused c.from_residual.result none

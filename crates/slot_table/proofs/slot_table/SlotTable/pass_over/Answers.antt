use Rattle.std.proofs.Common.{rules, ◌≡◌, ◌-◌, ◌∙◌, ap, subst, length, min, max}
use Rattle.std.specs.BTreeMap.{get}
use Rattle.std.specs.Ordering.{nat_cmp}
use Rattle.slot_table.specs.Places.{AreEmptyTo}
use Rattle.slot_table.specs.Values.{in_log, in_row}
use Rattle.slot_table.proofs.ValueLemmas.{emptied, cleared}
use Rattle.slot_table.proofs.slot_table.SlotTable.pass_over.Goals as goal

-- the row has no other places
pub returns-then-self-len : goal.returns-then-self-len
returns-then-self-len g c =
    let self = c.args.self.now in
    let end : c.max-self.result ≡ max self.empty (min (length self.row.items) (min c.args.below 65536 - self.from)) = search rules in
    let vacant = emptied self.from self.row.items (get nat_cmp self.others) self.empty c.args.below c.max-self.result self.vacant
    c.requires end in
    let all : c.max-self.result ≡ length self.row.items = search rules in
    ap (λ l. in_log (in_row self.from l (get nat_cmp self.others))) c.clear.ensures.items
    ∙ cleared self.from self.row.items self.others (subst (λ n. AreEmptyTo n self.row.items) all vacant) self.apart

-- it has
pub invariant_of-self-else-self-len : goal.invariant_of-self-else-self-len
invariant_of-self-else-self-len g c =
    let self = c.args.self.now in
    let end : c.max-self.result ≡ max self.empty (min (length self.row.items) (min c.args.below 65536 - self.from)) = search rules in record {
      vacant = emptied self.from self.row.items (get nat_cmp self.others) self.empty c.args.below c.max-self.result self.vacant
          c.requires end;
      apart = self.apart;
    }

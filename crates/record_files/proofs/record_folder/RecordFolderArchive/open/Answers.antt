use Rattle.std.proofs.Common.{◌≡◌, length, sym, subst, ◌∙◌, arith}
use Rattle.record_files.specs.Opening.{path_in}
use Rattle.record_files.proofs.OpenedLemmas.{none_opened, one_more_opened}
use Rattle.record_files.proofs.record_folder.RecordFolderArchive.open.Goals as goal

pub loop-number-init : goal.loop-number-init
loop-number-init g c = record {
  counted = c.in_ok-stores.ensures.len;
  opened = none_opened g.A.FileAccess c.args.folder.now c.in_ok-stores.stores.items c.in_ok-stores.ensures.items;
}

-- the file of the next number joins those that were opened
pub loop-number-preserved : goal.loop-number-preserved
loop-number-preserved g c =
    let at = c.loop-number in
    let many : length at.stores.items ≡ at.number = sym at.stores.ok.0 ∙ at.invariant.counted in
    record {
      counted = omega (arith, c.in_ok-push.ensures.len, at.invariant.counted);
      opened = one_more_opened g.A.FileAccess c.args.folder.now at.stores.items c.push.new.self.items c.in_ok-store.store
          c.in_ok-push.ensures.items at.invariant.opened (record {
            before = at.self.access;
            after = c.open_file.new.access;
            opens = subst (λ k. g.A.FileAccess.opens at.self.access (path_in c.args.folder.now k) c.in_ok-store.store c.open_file.new.access)
                (sym many) c.in_ok-store.ensures.opened;
          });
    }

pub returns-clause-opened : goal.returns-clause-opened
returns-clause-opened g c = c.loop-number.invariant.opened

pub returns-clause-one_each : goal.returns-clause-one_each
returns-clause-one_each g c = omega (arith, c.loop-number.invariant.counted, c.count-number-end.ensures.value, c.loop-number.auto.number-end)

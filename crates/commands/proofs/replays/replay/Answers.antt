use Rattle.std.proofs.Common.{inl, inr}
use Rattle.commands.specs.Archives.{IsSeen}
use Rattle.commands.proofs.replays.replay.Goals as goal

-- the text is that of a run over what was handed out for the schedule that the bytes spell
pub returns-in-Ok-clause-kept : goal.returns-in-Ok-clause-kept
returns-in-Ok-clause-kept g c =
    let made = c.in-Ok.ensures.made in
    let seen : IsSeen g.A.Archive c.args.folder.now c.args.bytes.now c.args.archive.now = record {
      plan = c.in_ok-schedule.schedule;
      spelled = c.in_ok-schedule.ensures.spelled;
      was_left_open = c.in_ok-was_left_open.was_left_open;
      looked = c.has_unmerged_log.new.self;
      looks = rw (← c.nodes-count.ensures) c.in_ok-was_left_open.ensures.looked;
    } in
    record {
      seen = seen;
      stores = made.0;
      opened = c.run_in_folder.new.archive;
      hands_out = made.1;
      runs = made.2;
      settles = rw (← c.nodes-count.ensures) c.merge_logs.ensures;
    }

-- one that ends without a text is over that too, where anything was handed out
pub returns-in-Err-clause-ends : goal.returns-in-Err-clause-ends
returns-in-Err-clause-ends g c =
    let seen : IsSeen g.A.Archive c.args.folder.now c.args.bytes.now c.args.archive.now = record {
      plan = c.in_ok-schedule.schedule;
      spelled = c.in_ok-schedule.ensures.spelled;
      was_left_open = c.in_ok-was_left_open.was_left_open;
      looked = c.has_unmerged_log.new.self;
      looks = rw (← c.nodes-count.ensures) c.in_ok-was_left_open.ensures.looked;
    } in
    elim c.in-Err.ensures.ends [
      | inl none ↦ inr (inr (inl (record {
        seen = seen;
        refused = c.run_in_folder.new.archive;
        hands_none = none;
        settled = rw (← c.nodes-count.ensures) c.settle_after.ensures;
      })))
      | inr made ↦ inr (inr (inr (record {
        seen = seen;
        stores = made.0;
        opened = c.run_in_folder.new.archive;
        hands_out = made.1;
        stops = made.2;
        settled = rw (← c.nodes-count.ensures) c.settle_after.ensures;
      })))
    ]

use Rattle.world.proofs.Missing.{no_frame_named, no_node_named, node_faults, frame_faults}
use Rattle.world.proofs.inner.Inner.step.Goals as goal

pub returns-in-Submit : goal.returns-in-Submit
returns-in-Submit g c = rw c.in-Submit.is (record {
  steps = c.submit.ensures.submits;
  err = c.submit.ensures.err;
  no_frame = no_frame_named _ c.submit.ensures.faults;
  no_node = c.submit.ensures.no_node;
  faults = node_faults _ c.submit.ensures.faults;
})

pub returns-in-Deliver : goal.returns-in-Deliver
returns-in-Deliver g c = rw c.in-Deliver.is (record {
  steps = c.deliver.ensures.delivers;
  err = c.deliver.ensures.err;
  no_frame = c.deliver.ensures.no_frame;
  no_node = no_node_named _ c.deliver.ensures.faults;
  faults = frame_faults _ c.deliver.ensures.faults;
})

pub returns-in-Drop : goal.returns-in-Drop
returns-in-Drop g c = rw c.in-Drop.is (record {
  steps = c.drop_frame.ensures.drops;
  err = c.drop_frame.ensures.err;
  no_frame = c.drop_frame.ensures.no_frame;
  no_node = no_node_named _ c.drop_frame.ensures.faults;
  faults = frame_faults _ c.drop_frame.ensures.faults;
})

pub returns-in-Timeout : goal.returns-in-Timeout
returns-in-Timeout g c = rw c.in-Timeout.is (record {
  steps = c.input.ensures.takes;
  err = c.input.ensures.err;
  no_frame = no_frame_named _ c.input.ensures.faults;
  no_node = c.input.ensures.no_node;
  faults = node_faults _ c.input.ensures.faults;
})

pub returns-in-Tick : goal.returns-in-Tick
returns-in-Tick g c = rw c.in-Tick.is (record {
  steps = c.input-in-Tick.ensures.takes;
  err = c.input-in-Tick.ensures.err;
  no_frame = no_frame_named _ c.input-in-Tick.ensures.faults;
  no_node = c.input-in-Tick.ensures.no_node;
  faults = node_faults _ c.input-in-Tick.ensures.faults;
})

pub returns-in-Checkpoint : goal.returns-in-Checkpoint
returns-in-Checkpoint g c = rw c.in-Checkpoint.is (record {
  steps = c.input-in-Checkpoint.ensures.takes;
  err = c.input-in-Checkpoint.ensures.err;
  no_frame = no_frame_named _ c.input-in-Checkpoint.ensures.faults;
  no_node = c.input-in-Checkpoint.ensures.no_node;
  faults = node_faults _ c.input-in-Checkpoint.ensures.faults;
})

pub returns-in-Trim : goal.returns-in-Trim
returns-in-Trim g c = rw c.in-Trim.is (record {
  steps = c.input-in-Trim.ensures.takes;
  err = c.input-in-Trim.ensures.err;
  no_frame = no_frame_named _ c.input-in-Trim.ensures.faults;
  no_node = c.input-in-Trim.ensures.no_node;
  faults = node_faults _ c.input-in-Trim.ensures.faults;
})

pub returns-in-Restart : goal.returns-in-Restart
returns-in-Restart g c = rw c.in-Restart.is (record {
  steps = c.restart.ensures.restarts;
  err = c.restart.ensures.err;
  no_frame = no_frame_named _ c.restart.ensures.faults;
  no_node = c.restart.ensures.no_node;
  faults = node_faults _ c.restart.ensures.faults;
})

pub returns-in-Fault : goal.returns-in-Fault
returns-in-Fault g c = rw c.in-Fault.is (record {
  steps = c.arm.ensures.arms;
  err = c.arm.ensures.err;
  no_frame = no_frame_named _ c.arm.ensures.faults;
  no_node = c.arm.ensures.no_node;
  faults = node_faults _ c.arm.ensures.faults;
})

pub returns-in-Query : goal.returns-in-Query
returns-in-Query g c = rw c.in-Query.is (record {
  steps = c.query.ensures.asks;
  err = c.query.ensures.err;
  no_frame = no_frame_named _ c.query.ensures.faults;
  no_node = c.query.ensures.no_node;
  faults = node_faults _ c.query.ensures.faults;
})

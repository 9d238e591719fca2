-- A row's own words, after the keyword that was met.
use Rattle.std.proofs.Common.{◌∷◌, ap}
use Rattle.schedule.specs.Keywords.{text_of}
use Rattle.schedule.specs.declared.keyword.Keyword.{Keyword}
use Rattle.schedule.specs.declared.keyword.Keyword.TheVariants.{Deliver, Drop, Flush, Timeout, Tick, Checkpoint, Trim, Restart, Fault}
use Rattle.schedule.proofs.RowLemmas.{refused_row}
use Rattle.schedule.proofs.one_line.row.Goals as goal

pub returns-in-Nodes : goal.returns-in-Nodes
returns-in-Nodes c = (c.args.words, ap (λ (k : Keyword). text_of k ∷ c.args.words) c.in-Nodes.is)

pub returns-in_ok-frame_row-in-Deliver : goal.returns-in_ok-frame_row-in-Deliver
returns-in_ok-frame_row-in-Deliver c =
    (c.args.words, ap (λ (k : Keyword). text_of k ∷ c.args.words) c.in-Deliver.is, c.in_ok-frame_row-in-Deliver.ensures)

pub returns-in_ok-frame_row-in-Drop : goal.returns-in_ok-frame_row-in-Drop
returns-in_ok-frame_row-in-Drop c =
    (c.args.words, ap (λ (k : Keyword). text_of k ∷ c.args.words) c.in-Drop.is, c.in_ok-frame_row-in-Drop.ensures)

pub returns-in_ok-node_row-in-Timeout : goal.returns-in_ok-node_row-in-Timeout
returns-in_ok-node_row-in-Timeout c =
    (c.args.words, ap (λ (k : Keyword). text_of k ∷ c.args.words) c.in-Timeout.is, c.in_ok-node_row-in-Timeout.ensures)

pub returns-in_ok-node_row-in-Tick : goal.returns-in_ok-node_row-in-Tick
returns-in_ok-node_row-in-Tick c =
    (c.args.words, ap (λ (k : Keyword). text_of k ∷ c.args.words) c.in-Tick.is, c.in_ok-node_row-in-Tick.ensures)

pub returns-in_ok-node_row-in-Checkpoint : goal.returns-in_ok-node_row-in-Checkpoint
returns-in_ok-node_row-in-Checkpoint c =
    (c.args.words, ap (λ (k : Keyword). text_of k ∷ c.args.words) c.in-Checkpoint.is, c.in_ok-node_row-in-Checkpoint.ensures)

pub returns-in_ok-node_row-in-Trim : goal.returns-in_ok-node_row-in-Trim
returns-in_ok-node_row-in-Trim c =
    (c.args.words, ap (λ (k : Keyword). text_of k ∷ c.args.words) c.in-Trim.is, c.in_ok-node_row-in-Trim.ensures)

pub returns-in_ok-node_row-in-Restart : goal.returns-in_ok-node_row-in-Restart
returns-in_ok-node_row-in-Restart c =
    (c.args.words, ap (λ (k : Keyword). text_of k ∷ c.args.words) c.in-Restart.is, c.in_ok-node_row-in-Restart.ensures)

pub returns-in_err-frame_row-in-Deliver : goal.returns-in_err-frame_row-in-Deliver
returns-in_err-frame_row-in-Deliver c =
    refused_row c.args.nodes Deliver _ c.args.words _ _ _ c.in-Deliver.is (λ e. cc) c.from_residual.ensures.1
    (c.in_err-frame_row-in-Deliver.ensures c.args.nodes)

pub returns-in_err-frame_row-in-Drop : goal.returns-in_err-frame_row-in-Drop
returns-in_err-frame_row-in-Drop c =
    refused_row c.args.nodes Drop _ c.args.words _ _ _ c.in-Drop.is (λ e. cc) c.from_residual-in_err-frame_row-in-Drop.ensures.1
    (c.in_err-frame_row-in-Drop.ensures c.args.nodes)

pub returns-in_err-node_row-in-Timeout : goal.returns-in_err-node_row-in-Timeout
returns-in_err-node_row-in-Timeout c =
    refused_row c.args.nodes Timeout _ c.args.words _ _ _ c.in-Timeout.is (λ e. cc)
    c.from_residual-in_err-node_row-in-Timeout.ensures.1
    c.in_err-node_row-in-Timeout.ensures

pub returns-in_err-node_row-in-Tick : goal.returns-in_err-node_row-in-Tick
returns-in_err-node_row-in-Tick c =
    refused_row c.args.nodes Tick _ c.args.words _ _ _ c.in-Tick.is (λ e. cc) c.from_residual-in_err-node_row-in-Tick.ensures.1
    c.in_err-node_row-in-Tick.ensures

pub returns-in_err-node_row-in-Checkpoint : goal.returns-in_err-node_row-in-Checkpoint
returns-in_err-node_row-in-Checkpoint c =
    refused_row c.args.nodes Checkpoint _ c.args.words _ _ _ c.in-Checkpoint.is (λ e. cc) c.from_residual-in_err-node_row-in-Checkpoint.ensures.1
    c.in_err-node_row-in-Checkpoint.ensures

pub returns-in_err-node_row-in-Trim : goal.returns-in_err-node_row-in-Trim
returns-in_err-node_row-in-Trim c =
    refused_row c.args.nodes Trim _ c.args.words _ _ _ c.in-Trim.is (λ e. cc) c.from_residual-in_err-node_row-in-Trim.ensures.1
    c.in_err-node_row-in-Trim.ensures

pub returns-in_err-node_row-in-Restart : goal.returns-in_err-node_row-in-Restart
returns-in_err-node_row-in-Restart c =
    refused_row c.args.nodes Restart _ c.args.words _ _ _ c.in-Restart.is (λ e. cc)
    c.from_residual-in_err-node_row-in-Restart.ensures.1
    c.in_err-node_row-in-Restart.ensures

pub returns-in_err-fault_row-in-Fault : goal.returns-in_err-fault_row-in-Fault
returns-in_err-fault_row-in-Fault c =
    refused_row c.args.nodes Fault _ c.args.words _ _ _ c.in-Fault.is (λ e. cc)
    c.from_residual-in_err-fault_row-in-Fault.ensures.1
    c.in_err-fault_row-in-Fault.ensures

pub returns-in_err-end-in-Flush : goal.returns-in_err-end-in-Flush
returns-in_err-end-in-Flush c =
    refused_row c.args.nodes Flush _ c.args.words _ _ _ c.in-Flush.is (λ e. cc) c.from_residual-in_err-end-in-Flush.ensures.1
    (rw c.in_err-end-in-Flush.ensures.0 c.in_err-end-in-Flush.ensures.1)

pub returns-in-Round : goal.returns-in-Round
returns-in-Round c = rw c.in-Round.is c.round_row.ensures

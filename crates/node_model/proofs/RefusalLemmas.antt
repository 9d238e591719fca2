-- A node isn't stopped by what it refuses.
use Rattle.std.proofs.Common.{◌≡◌, ◌^◌, length, Bool, false, not, nat_le, if◌then◌else◌, Option, Some, None, refl, subst}
use Rattle.std.proofs.lemmas.Bool.{cond_both}
use Rattle.sessions.specs.declared.submission.Submission.{Submission}
use Rattle.proposer.specs.Proposing.{next_round}
use Rattle.proposer.specs.declared.queue.TheConstants.{MOST_WAITING}
use Rattle.node_model.specs.declared.fault.NodeFault.{NodeFault}
use Rattle.node_model.specs.declared.fault.NodeFault.TheVariants as fault
use Rattle.node_model.specs.declared.input.Input.{Input}
use Rattle.node_model.specs.declared.input.Input.TheVariants as input
use Rattle.node_model.specs.Faults.{is_stop_fault}
use Rattle.node_model.specs.Inputs.{is_short}
use Rattle.node_model.specs.Replicas.{ReplicaState, position, is_full, waits, submission_of, refuses, refuses_submit, refuses_timeout, refuses_checkpoint}

-- a fault, if there is one, leaves the node up
abbrev GoesOn : Option NodeFault → Type 0
GoesOn o = (f : NodeFault) → o ≡ Some f → is_stop_fault f ≡ false

goes_on_without : GoesOn None
goes_on_without f e = absurd (cc)

goes_on_with : (g : NodeFault) → is_stop_fault g ≡ false → GoesOn (Some g)
goes_on_with g up f e = subst (λ (h : NodeFault). is_stop_fault h ≡ false) (let same : g ≡ f = cc in same) up

-- a test more
tested : (b : Bool) (g : NodeFault) (o : Option NodeFault) → is_stop_fault g ≡ false → GoesOn o → GoesOn (if b then Some g else o)
tested b g o up rest = cond_both b (Some g) o GoesOn (λ _. goes_on_with g up) (λ _. rest)

submit_goes_on : (m : ReplicaState) (r : Submission) → GoesOn (refuses_submit m r)
submit_goes_on m r =
    let full = nat_le MOST_WAITING (length m.proposer.waiting) in
    let queue : Option NodeFault = if full then Some fault.QueueFull else None in
    let waiting : Option NodeFault = if waits m r.client r.number then None else queue in
    tested (is_full m) fault.LogFull (if not (is_short r.op) then Some fault.TooLong else waiting) refl
    (tested (not (is_short r.op)) fault.TooLong waiting refl
    (cond_both (waits m r.client r.number) None queue GoesOn (λ _. goes_on_without)
    (λ _. tested full fault.QueueFull None refl goes_on_without)))

timeout_goes_on : (m : ReplicaState) → GoesOn (refuses_timeout m)
timeout_goes_on m =
    let used = nat_le (2 ^ 64) (next_round m.proposer) in
    tested (is_full m) fault.LogFull (if used then Some fault.RoundsUsedUp else None) refl
    (tested used fault.RoundsUsedUp None refl goes_on_without)

checkpoint_goes_on : (m : ReplicaState) → GoesOn (refuses_checkpoint m)
checkpoint_goes_on m = tested (nat_le (position m) m.acceptor.floor) fault.NothingNew None refl goes_on_without

pub refusal_goes_on : (m : ReplicaState) (i : Input) (f : NodeFault) → refuses m i ≡ Some f → is_stop_fault f ≡ false
refusal_goes_on m (input.Submit client number op) = submit_goes_on m (submission_of client number op)
refusal_goes_on m input.Timeout = timeout_goes_on m
refusal_goes_on m input.Checkpoint = checkpoint_goes_on m
refusal_goes_on m other = goes_on_without

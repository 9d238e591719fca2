use Rattle.std.proofs.Common.{◌≡◌, ◌∙◌, ℕ, ◌<◌, ◌≤◌, List, inl, inr, length, Bool, true, false, Some, None, Ok, refl, sym, ap}
use Rattle.std.proofs.Common.{arith, rules}
use Rattle.std.specs.List.{list_any}
use Rattle.std.proofs.lemmas.Bool.{le-leb, lt-leb}
use Rattle.std.proofs.lemmas.Result.{err_from_is_err_and}
use Rattle.sessions.specs.Requests.{IsShort}
use Rattle.sessions.specs.declared.submission.Submission.{Submission}
use Rattle.store.specs.declared.op.Op.{Op}
use Rattle.store.specs.declared.op.Op.TheVariants.{Put, Append, Remove}
use Rattle.synod.specs.declared.slot.TheConstants.{SLOTS}
use Rattle.proposer.specs.declared.queue.TheConstants.{MOST_WAITING}
use Rattle.node_model.specs.declared.fault.NodeFault.TheVariants.{LogFull, TooLong}
use Rattle.proposer.specs.Proposing.{Proposing}
use Rattle.proposer.specs.Requests.{is_of}
use Rattle.wire.specs.declared.frames.envelope.Envelope.{Envelope}
use Rattle.node_model.specs.Inputs.{is_short}
use Rattle.node_model.specs.Replicas.{ReplicaState, submission_of, position, waits, refuses_submit}
use Rattle.node_model.specs.Outputs.{Response, sent, silence}
use Rattle.node_model.specs.Taking.{with_proposer, with_request, after_submit, proposed, proposer_sends}
use Rattle.node_model.proofs.FaultLemmas.{no_fault}
use Rattle.node.specs.Replica.{replica_of}
use Rattle.node.proofs.replica.Replica.submit.Goals as goal

-- the test of an operation finds what a request may ask for
short_found : (op : Op) → IsShort op → is_short op ≡ true
short_found (Put id seq) short = le-leb _ _ short
short_found (Append addition) short = refl
short_found (Remove id) short = refl

long_found : (op : Op) → ¬ IsShort op → is_short op ≡ false
long_found (Put id seq) long = lt-leb _ _ (omega (arith, long))
long_found (Append addition) long = absurd (long tt)
long_found (Remove id) long = absurd (long tt)

-- what refuses a request, test by test, of a node at a position
module _ (m : ReplicaState) (r : Submission) (p : ℕ) (at : p ≡ position m) where
  full_refuses : SLOTS ≤ p → refuses_submit m r ≡ Some LogFull
  full_refuses full = rw (le-leb SLOTS (position m) (rw at at full)) refl

  long_refuses : p < SLOTS → (IsShort r.op → false ≡ true) → refuses_submit m r ≡ Some TooLong
  long_refuses room long =
      rw (lt-leb SLOTS (position m) (rw at at room), long_found r.op (λ short. absurd (let is = long short in cc))) refl

  repeated_taken : p < SLOTS → IsShort r.op → true ≡ waits m r.client r.number → refuses_submit m r ≡ None
  repeated_taken room short again = rw (lt-leb SLOTS (position m) (rw at at room), short_found r.op short, sym again) refl

  -- one that waits leaves all as it was
  repeated_takes : true ≡ waits m r.client r.number
      → (m ≡ with_proposer m (after_submit m r)) × (silence ≡ sent (proposer_sends m (after_submit m r)))
  repeated_takes again = rw (sym again) (refl, refl)

  -- a new one waits from now on
  module _ (new_one : false ≡ waits m r.client r.number) (q : Submission) (is : q ≡ r) where
    new_taken : p < SLOTS → IsShort r.op
        → (list_any (is_of q.client q.number) m.proposer.waiting ≡ false → ¬ MOST_WAITING ≤ length m.proposer.waiting)
        → refuses_submit m r ≡ None
    new_taken room short few = rw (
      lt-leb SLOTS (position m) (rw at at room),
      short_found r.op short,
      sym new_one,
      lt-leb MOST_WAITING (length m.proposer.waiting) (let few = rw is at few in omega (arith, few (sym new_one))),
    ) refl

    new_takes : (after : Proposing) (new : ReplicaState) (said : Response) (sends : List Envelope)
        → (list_any (is_of q.client q.number) m.proposer.waiting ≡ false → after ≡ with_request m.proposer q)
        → new ≡ with_proposer (record m { proposer = after }) (proposed after m.learner)
        → sends ≡ proposer_sends (record m { proposer = after }) (proposed after m.learner) → said ≡ sent sends
        → (new ≡ with_proposer m (after_submit m r)) × (said ≡ sent (proposer_sends m (after_submit m r)))
    new_takes after new said sends last state what sends_it =
        let now : after ≡ with_request m.proposer r = (rw is at last) (sym new_one) in
        rw (sym new_one) (rw now at state, sends_it ∙ ap sent (rw now at what))

refused_not_taken : {T A : Type 0} {x : T} → Some x ≡ None → A
refused_not_taken none = absurd (cc)

not_both : {A : Type 0} (b : Bool) → false ≡ b → b ≡ true → A
not_both b isnt is = absurd (cc)

-- whether it is refused, and with what, is told once at each way out
pub returns-then-position-ge-SLOTS : goal.returns-then-position-ge-SLOTS
returns-then-position-ge-SLOTS c =
    let refused = full_refuses (replica_of c.args.self.now) (submission_of c.args.client c.args.number c.args.op) _ c.position.ensures.value
    c.if-position-ge-SLOTS.true in
    rw refused (record { takes = tt; refuses = (refl, refl); repeats = λ none. refused_not_taken none; err = inr refl })

pub returns-in_err-request : goal.returns-in_err-request
returns-in_err-request c =
    let exit = err_from_is_err_and c.from_residual.result c.from_residual.ensures.1 in
    let refused = long_refuses (replica_of c.args.self.now) (submission_of c.args.client c.args.number c.args.op) _ c.position.ensures.value
    c.if-position-ge-SLOTS.false c.in_err-request.ensures.short.1 in
    rw (exit.1, exit.2, refused) (record { takes = tt; refuses = (refl, refl); repeats = λ none. refused_not_taken none; err = inr refl })

pub returns-then-waits : goal.returns-then-waits
returns-then-waits c =
    let taken = repeated_taken (replica_of c.args.self.now) (submission_of c.args.client c.args.number c.args.op) _ c.position.ensures.value
    c.if-position-ge-SLOTS.false (c.in_ok-request.ensures.short.0 refl) c.if-waits.ensures in
    let takes = repeated_takes (replica_of c.args.self.now) (submission_of c.args.client c.args.number c.args.op) _ c.position.ensures.value
    c.if-waits.ensures in
    record {
      takes = (takes.0, c.none.ensures ∙ takes.1);
      refuses = rw taken tt;
      repeats = λ _ _. (ap Ok c.none.ensures, refl);
      err = tt;
    }

pub returns-in_err-submit : goal.returns-in_err-submit
returns-in_err-submit c = search rules

pub returns-in_err-propose : goal.returns-in_err-propose
returns-in_err-propose c =
    let exit = err_from_is_err_and c.from_residual-in_err-propose.result c.from_residual-in_err-propose.ensures.1 in
    let taken = new_taken (replica_of c.args.self.now) (submission_of c.args.client c.args.number c.args.op) _ c.position.ensures.value
    c.if-waits.ensures _ c.in_ok-request.ensures.value c.if-position-ge-SLOTS.false (c.in_ok-request.ensures.short.0 refl)
    (λ new_one full. no_fault _ _ (c.in_ok-submit.ensures.full_refused new_one full)) in
    rw (exit.1, exit.2) (record {
      takes = tt;
      refuses = rw taken tt;
      repeats = λ _ again. not_both _ c.if-waits.ensures again;
      err = inl refl;
    })

pub returns : goal.returns
returns c =
    let taken = new_taken (replica_of c.args.self.now) (submission_of c.args.client c.args.number c.args.op) _ c.position.ensures.value
    c.if-waits.ensures _ c.in_ok-request.ensures.value c.if-position-ge-SLOTS.false (c.in_ok-request.ensures.short.0 refl)
    (λ new_one full. no_fault _ _ (c.in_ok-submit.ensures.full_refused new_one full)) in
    record {
      takes = new_takes (replica_of c.args.self.now) (submission_of c.args.client c.args.number c.args.op) _ c.position.ensures.value
          c.if-waits.ensures _ c.in_ok-request.ensures.value _ _ _ _ c.in_ok-submit.ensures.last c.in_ok-propose.ensures.state
          c.in_ok-propose.ensures.sends c.of_frames.ensures;
      refuses = rw taken tt;
      repeats = λ _ again. not_both _ c.if-waits.ensures again;
      err = tt;
    }

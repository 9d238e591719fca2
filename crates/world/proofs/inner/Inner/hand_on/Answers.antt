use Rattle.std.proofs.Common.{◌≡◌, ◌∙◌, ◌<◌, ◌≤◌, ℕ, List, refl, sym, ap, subst, arith, length, slice_get, Some, Contains}
use Rattle.std.proofs.lemmas.Bool.{false≢true}
use Rattle.std.proofs.lemmas.Option.{slice_get_read}
use Rattle.std.proofs.lemmas.Result.{err_from_is_err_and}
use Rattle.stable.specs.Storages.{scripted}
use Rattle.wire.specs.declared.frames.envelope.Envelope.{Envelope}
use Rattle.world_model.specs.Rounds.{DeliversTo, nothing}
use Rattle.world.specs.Inner.{inner_of}
use Rattle.world_model.proofs.Progress.RoundLemmas.{passed_by, came, delivered_frames}
use Rattle.world.proofs.Missing.{only_memory}
use Rattle.world.proofs.inner.Inner.hand_on.Goals.{then-is_among+in_ok-deliver+else-not-is_up, else-is_among}
use Rattle.world.proofs.inner.Inner.hand_on.Goals as goal

-- ---- how many frames there are: lent at the start, then, and now
sent_then : (lent then : List Envelope) (i : ℕ) → lent ≡ then → i < length lent → i < length then
sent_then lent then i e below = subst (λ (l : List Envelope). i < length l) e below

sent_now : (lent then now : List Envelope) (i : ℕ) → lent ≡ then → length then ≤ length now → i < length lent → i < length now
sent_now lent then now i e more below = let same = ap length e in omega (arith, same, more, below)

at_end : (lent then : List Envelope) (first i len : ℕ) → len ≡ length then → lent ≡ then → first ≤ len
    → (first ≤ length lent → i ≤ length lent) → length lent ≤ i → i ≡ len
at_end lent then first i len counted e sent within over =
    let same = ap length e in
    let here = within (omega (arith, counted, same, sent)) in
    omega (arith, counted, same, here, over)

no_fewer : (m n first then now : ℕ) → m ≡ first → n ≡ now → first ≤ then → then ≤ now → m ≤ n
no_fewer m n first then now counted also more later = omega (arith, counted, also, more, later)

same : (n : ℕ) → n ≤ n
same n = omega arith

below : (i n : ℕ) → i < n → i ≤ n
below i n h = omega (arith, h)

pub loop-index-init : goal.loop-index-init
loop-index-init g c = (nothing, same _)

-- memory is wanting, since the frame was sent
pub returns-in_err-deliver : goal.returns-in_err-deliver
returns-in_err-deliver g c =
    let at = c.loop-index in
    let exit = err_from_is_err_and c.from_residual.result c.from_residual.ensures.1 in
    let still = c.in_err-deliver.ensures.err in
    rw (exit.1, exit.2) (record {
      delivers = tt;
      part = record {
        end = at.index;
        within = below _ _ (sent_then _ _ _ c.frames-end.ensures c.loop-index-test.true);
        delivers = subst (λ w. DeliversTo (scripted g.S.Stable) c.args.receivers.now (inner_of c.args.self.now) c.args.first at.index w)
            (sym still) at.invariant.0;
      };
      memory = only_memory _ _ _ c.in_err-deliver.ensures.no_frame
          (sent_now _ _ _ _ c.frames-end.ensures at.invariant.1 c.loop-index-test.true) c.in_err-deliver.ensures.faults;
      more = no_fewer _ _ _ _ _ c.args.self.now.frames.ok.0 c.deliver.new.self.frames.ok.0 at.invariant.1
          (subst (λ w. length (inner_of at.self).frames ≤ length w.frames) (sym still) (same _));
    })

-- the receiver goes down
pub returns-then-not-is_up : goal.returns-then-not-is_up
returns-then-not-is_up g c =
    let at = c.loop-index in
    let st = scripted g.S.Stable in
    let now = sent_now _ _ _ _ c.frames-end.ensures at.invariant.1 c.loop-index-test.true in
    let read : slice_get (inner_of at.self).frames at.index ≡ Some c.index-frames-index.result =
    subst (λ fs. slice_get fs at.index ≡ Some c.index-frames-index.result) c.frames.ensures
    (slice_get_read c.frames.result.now (length c.frames.result.now) at.index c.index-frames-index.result refl
    (subst (λ (l : List Envelope). at.index < length l) (sym c.frames.ensures) now) c.index-frames-index.is) in
    record {
      delivers = record {
        frame = at.index;
        envelope = c.index-frames-index.result;
        between = inner_of at.self;
        before = at.invariant.0;
        sent = sent_then _ _ _ c.frames-end.ensures c.loop-index-test.true;
        is = read;
        receiver = subst (λ j. Contains c.args.receivers.now j) c.receiver-receiver.ensures.receiver
            (c.is_among.ensures.0 c.if-is_among.true);
        named = c.receiver-receiver.ensures.receiver;
        delivers = c.in_ok-deliver.ensures.delivers;
        down = sym c.is_up.ensures ∙ c.if-not-is_up.true;
      };
      part = tt;
      memory = tt;
      more = no_fewer _ _ _ _ _ c.args.self.now.frames.ok.0 c.deliver.new.self.frames.ok.0 at.invariant.1
          (delivered_frames st (inner_of at.self) at.index (inner_of c.deliver.new.self) c.in_ok-deliver.ensures.delivers);
    }

pub loop-index-preserved : goal.loop-index-preserved
loop-index-preserved g c =
    let at = c.loop-index in
    let now = sent_now _ _ _ _ c.frames-end.ensures at.invariant.1 c.loop-index-test.true in
    let here : slice_get (inner_of at.self).frames at.index ≡ Some c.index-frames-index.result =
    subst (λ fs. slice_get fs at.index ≡ Some c.index-frames-index.result) c.frames.ensures
    (slice_get_read c.frames.result.now (length c.frames.result.now) at.index c.index-frames-index.result refl
    (subst (λ (l : List Envelope). at.index < length l) (sym c.frames.ensures) now) c.index-frames-index.is) in
    elim c.if-is_among.branch [
      | then-is_among+in_ok-deliver+else-not-is_up w ↦
          came (scripted g.S.Stable) c.args.receivers.now (inner_of c.args.self.now) c.args.first at.index c.receiver-receiver.result
          c.index-frames-index.result (inner_of at.self) (inner_of w.deliver.new.self) (inner_of c.if-is_among.self)
          at.invariant.0 here c.receiver-receiver.ensures.receiver (c.is_among.ensures.0 w.if-is_among.true)
          w.in_ok-deliver.ensures.delivers (sym w.is_up.ensures ∙ w.if-not-is_up.false) (ap (λ r. inner_of r) w.self-is)
          at.invariant.1
      | else-is_among w ↦
          passed_by (scripted g.S.Stable) c.args.receivers.now (inner_of c.args.self.now) c.args.first at.index
          c.index-frames-index.result (inner_of at.self) (inner_of c.if-is_among.self) at.invariant.0 here
          (λ among. absurd (false≢true (w.if-is_among.ensures.1
          (subst (λ j. Contains c.args.receivers.now j) (sym c.receiver-receiver.ensures.receiver) among))))
          (ap (λ r. inner_of r) w.self-is) at.invariant.1
    ]

pub returns : goal.returns
returns g c =
    let at = c.loop-index in
    record {
      delivers = subst
          (λ k. DeliversTo (scripted g.S.Stable) c.args.receivers.now (inner_of c.args.self.now) c.args.first k (inner_of at.self))
          (at_end _ _ _ _ _ c.args.self.now.frames.ok.0 c.frames-end.ensures c.requires.sent at.auto.index-end c.loop-index-test.false)
          at.invariant.0;
      part = tt;
      memory = tt;
      more = no_fewer _ _ _ _ _ c.args.self.now.frames.ok.0 at.self.frames.ok.0 at.invariant.1 (same _);
    }

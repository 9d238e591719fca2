use Rattle.std.proofs.Common.{◌≡◌, refl, sym, ap, ◌∙◌, inl, inr, Err}
use Rattle.std.proofs.lemmas.Result.{err_from_is_err_and}
use Rattle.stable.specs.Records.{Trims}
use Rattle.stable.specs.Script.{ScriptFails}
use Rattle.stable.specs.declared.fault.StableFault.TheVariants.{Device}
use Rattle.stable.proofs.FaultLemmas.{same_fault, handed_on, device_not_memory, device_not_damaged, no_fault}
use Rattle.stable.proofs.ListLemmas.{reading_keeps_list, changes_keep_list, failed_change_keeps_list, fails_keep_list}
use Rattle.stable.proofs.PutLemmas.{ruled_out, put_made, put_made_and_failed, put_failed_inside}
use Rattle.stable.proofs.ReadLemmas.{then_read}
use Rattle.stable.proofs.scripted.ScriptedStable.trim_below.Goals as goal

-- an armed Old
pub returns-then-is_armed : goal.returns-then-is_armed
returns-then-is_armed g c =
    let h = g.met.S.Stable.laws in
    let s = g.S.Stable in
    let device : ScriptFails s.contents s.IsHonest s.reads s.read_fails s.changes s.fails c.args.self.now (Trims c.args.below)
    c.fire.new.self =
    inl (record {
      between = c.args.self.now;
      before = record { inner = h.reads_none _; armed = refl; fired = refl; trimmed = refl; list = inl (refl, refl) };
      armed = c.is_armed.ensures.armed.0 c.if-is_armed.true;
      after = c.fire.ensures.fired;
    }) in record {
      ok = tt;
      list = fails_keep_list s.contents s.IsHonest s.reads s.read_fails s.changes s.fails
          h.reads_contents h.read_fails_honest h.read_fails_contents h.changes_honest h.changes_contents h.fails_honest h.fails_contents
          _ _ (Trims c.args.below) device;
      armed_old = λ _. refl;
      device = λ _. device;
      memory = λ is. absurd (device_not_memory is);
      not_damaged = device_not_damaged;
    }

-- the older put could not be looked for
pub returns-in_err-settle : goal.returns-in_err-settle
returns-in_err-settle g c =
    let h = g.met.S.Stable.laws in
    let s = g.S.Stable in
    let exit = err_from_is_err_and c.from_residual.result c.from_residual.ensures.1 in
    let fails = c.in_err-settle.ensures in
    let unarmed = ruled_out _ c.is_armed.ensures.armed c.if-is_armed.false in
    let list = reading_keeps_list s.contents s.IsHonest s.reads s.read_fails s.changes s.fails
    h.reads_contents h.read_fails_honest h.read_fails_contents h.changes_honest h.changes_contents h.fails_honest h.fails_contents
    c.settle.result _ _ c.settle.ensures.ok (λ e. inr (c.settle.ensures.device e)) c.settle.ensures.memory
    (λ e. absurd (c.settle.ensures.not_damaged e)) in
    rw (exit.1, exit.2) (record {
      ok = tt;
      list = list;
      armed_old = λ armed. absurd (unarmed armed);
      device = λ is. inr (inr (inr (record { not_old = unarmed; inner = fails.device (handed_on _ _ is) })));
      memory = λ is. fails.memory (handed_on _ _ is);
      not_damaged = λ is. fails.not_damaged (handed_on _ _ is);
    })

-- the put could not be made
pub returns-in_err-trim : goal.returns-in_err-trim
returns-in_err-trim g c =
    let h = g.met.S.Stable.laws in
    let s = g.S.Stable in
    let exit = err_from_is_err_and c.from_residual-in_err-trim.result c.from_residual-in_err-trim.ensures.1 in
    let fails = c.in_err-trim.ensures in
    let before = c.in_ok-settle.ensures.ok in
    let unarmed = ruled_out _ c.is_armed.ensures.armed c.if-is_armed.false in
    let device : c.in_err-trim.field-0.0 ≡ Device
    → ScriptFails s.contents s.IsHonest s.reads s.read_fails s.changes s.fails c.args.self.now (Trims c.args.below) c.trim.new.self =
    λ is. inr (inr (inl (put_failed_inside _ _ _ s.changes _ _ _ _ (Trims c.args.below) before c.in_ok-settle.ensures.settled
    (λ old. unarmed (sym before.armed ∙ old)) (fails.device (ap Err is)) (fails.raised (ap Err is))))) in
    let list = failed_change_keeps_list s.contents s.IsHonest s.reads s.read_fails s.changes s.fails
    h.reads_contents h.read_fails_honest h.read_fails_contents h.changes_honest h.changes_contents h.fails_honest h.fails_contents
    h.reads_honest c.in_err-trim.field-0.0 c.args.self.now c.settle.new.self _ (Trims c.args.below) before device
    (λ is. fails.memory (ap Err is)) (λ is. fails.kept (ap Err is)) (λ is. fails.not_damaged (ap Err is)) in
    rw (exit.1, exit.2) (record {
      ok = tt;
      list = list;
      armed_old = λ armed. absurd (unarmed armed);
      device = λ is. device (same_fault _ _ is);
      memory = λ is. then_read s h _ _ _ before (fails.kept (handed_on _ _ is)) (fails.memory (handed_on _ _ is));
      not_damaged = λ is. fails.not_damaged (handed_on _ _ is);
    })

-- an armed New
pub returns-then-is_armed-2 : goal.returns-then-is_armed-2
returns-then-is_armed-2 g c =
    let h = g.met.S.Stable.laws in
    let s = g.S.Stable in
    let listed = c.in_ok-trim.ensures.done in
    let unarmed = ruled_out _ c.is_armed.ensures.armed c.if-is_armed.false in
    let device : ScriptFails s.contents s.IsHonest s.reads s.read_fails s.changes s.fails c.args.self.now (Trims c.args.below)
    c.fire-then-is_armed-2.new.self =
    inr (inl (put_made_and_failed _ _ _ _ s.fails _ _ _ (Trims c.args.below) c.in_ok-settle.ensures.ok c.in_ok-settle.ensures.settled
    c.trim.new.self
    (sym (ap (λ t. t.armed) listed) ∙ c.is_armed-2.ensures.armed.0 c.if-is_armed-2.true)
    c.in_ok-trim.ensures.inner listed c.fire-then-is_armed-2.ensures.fired)) in record {
      ok = tt;
      list = fails_keep_list s.contents s.IsHonest s.reads s.read_fails s.changes s.fails
          h.reads_contents h.read_fails_honest h.read_fails_contents h.changes_honest h.changes_contents h.fails_honest h.fails_contents
          _ _ (Trims c.args.below) device;
      armed_old = λ armed. absurd (unarmed armed);
      device = λ _. device;
      memory = λ is. absurd (device_not_memory is);
      not_damaged = device_not_damaged;
    }

-- nothing is armed
pub returns : goal.returns
returns g c =
    let h = g.met.S.Stable.laws in
    let s = g.S.Stable in
    let before = c.in_ok-settle.ensures.ok in
    let listed = c.in_ok-trim.ensures.done in
    let unarmed = ruled_out _ c.is_armed.ensures.armed c.if-is_armed.false in
    let made = put_made _ _ _ _ s.fails _ _ _ (Trims c.args.below) before c.in_ok-settle.ensures.settled (record {
      old = λ old. unarmed (sym before.armed ∙ old);
      new = λ new. ruled_out _ c.is_armed-2.ensures.armed c.if-is_armed-2.false (ap (λ t. t.armed) listed ∙ new);
    }) c.in_ok-trim.ensures.inner listed in record {
      ok = made;
      list = changes_keep_list s.contents s.IsHonest s.reads s.read_fails s.changes s.fails
          h.reads_contents h.read_fails_honest h.read_fails_contents h.changes_honest h.changes_contents h.fails_honest h.fails_contents
          _ _ (Trims c.args.below) made;
      armed_old = λ armed. absurd (unarmed armed);
      device = λ is. absurd (no_fault _ _ is);
      memory = λ is. absurd (no_fault _ _ is);
      not_damaged = no_fault _ _;
    }

use Rattle.std.proofs.Common.{◌≡◌, true, false, ap, sym, ◌∙◌, rules}
use Rattle.store.specs.Operations.{is_done}
use Rattle.store.proofs.EffectLemmas.{put_known-reply, put_new-reply, put_full-reply, put_full-effect}
use Rattle.store.proofs.db.Db.put.Goals as goal

-- the id is known, and the copy of the sequence takes memory
pub returns-in_ok-replace-in-Ok-clause-reply : goal.returns-in_ok-replace-in-Ok-clause-reply
returns-in_ok-replace-in-Ok-clause-reply c =
    sym (put_known-reply c.args.self.now c.args.id.now c.args.seq.now _ c.in-Ok.ensures.found)

pub returns-in_ok-replace-in-Ok-clause-effect : goal.returns-in_ok-replace-in-Ok-clause-effect
returns-in_ok-replace-in-Ok-clause-effect c = c.in_ok-replace-in-Ok.ensures.effect c.args.id.now c.in-Ok.ensures.found

pub returns-in_err-replace-in-Ok-clause-in_place : goal.returns-in_err-replace-in-Ok-clause-in_place
returns-in_err-replace-in-Ok-clause-in_place c = λ refused.
    let done : true ≡ false =
    sym (ap is_done (put_known-reply c.args.self.now c.args.id.now c.args.seq.now _ c.in-Ok.ensures.found)) ∙ refused in
    absurd (cc)

-- the id is unknown, and there is no room
pub returns-then-len-eq-MOST_FEATURES-clause-reply : goal.returns-then-len-eq-MOST_FEATURES-clause-reply
returns-then-len-eq-MOST_FEATURES-clause-reply c =
    sym (put_full-reply c.args.self.now c.args.id.now c.args.seq.now _ c.in-Err.ensures.absent (search rules))

pub returns-then-len-eq-MOST_FEATURES-clause-effect : goal.returns-then-len-eq-MOST_FEATURES-clause-effect
returns-then-len-eq-MOST_FEATURES-clause-effect c =
    sym (put_full-effect c.args.self.now c.args.id.now c.args.seq.now _ c.in-Err.ensures.absent (search rules))

-- the id is unknown, and there is room
pub returns-in_ok-add-in-Err-clause-reply : goal.returns-in_ok-add-in-Err-clause-reply
returns-in_ok-add-in-Err-clause-reply c =
    sym (put_new-reply c.args.self.now c.args.id.now c.args.seq.now _ c.in-Err.ensures.absent (search rules))

pub returns-in_err-add-in-Err-clause-in_place : goal.returns-in_err-add-in-Err-clause-in_place
returns-in_err-add-in-Err-clause-in_place c = λ refused.
    let done : true ≡ false =
    sym (ap is_done (put_new-reply c.args.self.now c.args.id.now c.args.seq.now _ c.in-Err.ensures.absent (search rules))) ∙ refused in
    absurd (cc)

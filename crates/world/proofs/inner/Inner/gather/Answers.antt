use Rattle.std.proofs.Common.{◌≡◌, ◌≤◌, ◌∙◌, ℕ, List, refl, sym, ap, subst, length, drop, vec_len, [], ◌∷◌}
use Rattle.std.proofs.lemmas.Option.{MatchOption-at_some}
use Rattle.std.proofs.lemmas.Result.{err_from_is_err_and}
use Rattle.stable.specs.Storages.{scripted}
use Rattle.wire.specs.declared.frames.envelope.Envelope.{Envelope}
use Rattle.world_model.specs.Rounds.{RoundBreaksOff, ComesThrough, NoneRefuses, IsGreatestTold}
use Rattle.world_model.specs.Rounds as rounds
use Rattle.world.specs.Inner.{inner_of}
use Rattle.world_model.proofs.Progress.RoundLemmas.{at_none, sliced, moved, asked_by, answered_by, down_by, broken_by}
use Rattle.world.proofs.inner.Inner.gather.Goals as goal

-- as many frames are lent as there are
from_here : (fs gs : List Envelope) (n : ℕ) → n ≡ length gs → fs ≡ gs → length fs ≡ n
from_here fs gs n counted shown = ap length shown ∙ sym counted

-- the prepares: memory is wanting
pub returns-in_err-down : goal.returns-in_err-down
returns-in_err-down g c =
    let off : RoundBreaksOff (scripted g.S.Stable) c.args.node c.args.members.now rounds.begun c.args.prepares (inner_of c.args.self.now)
    (inner_of c.hand_on.new.self) = λ old comes.
    broken_by (scripted g.S.Stable) old c.args.node c.args.members.now rounds.begun c.args.prepares c.args.prepares
    (inner_of c.args.self.now) (inner_of c.hand_on.new.self) comes refl c.in_err-down.ensures.part in
    let exit = err_from_is_err_and c.from_residual.result c.from_residual.ensures.1 in
    rw (exit.1, exit.2) (record {
      goes_on = tt;
      ends = tt;
      accepts_sent = tt;
      part = off;
      memory = c.in_err-down.ensures.memory;
    })

-- the prepares: a receiver goes down
pub returns-in-Some : goal.returns-in-Some
returns-in-Some g c = record {
  goes_on = tt;
  ends = λ old comes.
      down_by (scripted g.S.Stable) old c.args.node c.args.members.now rounds.begun c.args.prepares c.args.prepares c.in-Some.down
      (inner_of c.args.self.now) (inner_of c.hand_on.new.self) comes refl
      (MatchOption-at_some _ _ c.in-Some.down c.in-Some.is c.in_ok-down.ensures.delivers);
  accepts_sent = tt;
  part = tt;
  memory = tt;
}

-- what they refuse: memory is wanting
pub returns-in_err-refusal : goal.returns-in_err-refusal
returns-in_err-refusal g c =
    let off : RoundBreaksOff (scripted g.S.Stable) c.args.node c.args.members.now rounds.begun c.args.prepares (inner_of c.args.self.now)
    (inner_of c.hand_on.new.self) = λ old comes.
    let st = scripted g.S.Stable in
    let end = vec_len c.args.self.now.frames in
    let asked = asked_by st old c.args.node c.args.members.now c.args.prepares c.args.prepares end (inner_of c.args.self.now)
    (inner_of c.hand_on.new.self) comes refl (at_none _ _ c.in_ok-down.field-0 c.in_default.is c.in_ok-down.ensures.delivers)
    c.args.self.now.frames.ok.0 in
    broken_by st old c.args.node c.args.members.now rounds.asked end end (inner_of c.hand_on.new.self) (inner_of c.hand_on.new.self)
    asked refl (record { end = end; within = rw c.hand_on.new.self.frames.ok.0 at c.hand_on.ensures.more; delivers = rounds.nothing }) in
    let exit = err_from_is_err_and c.from_residual-in_err-refusal.result c.from_residual-in_err-refusal.ensures.1 in
    rw (exit.1, exit.2) (record {
      goes_on = tt;
      ends = tt;
      accepts_sent = tt;
      part = off;
      memory = c.in_err-refusal.ensures.memory;
    })

-- the answers: memory is wanting
pub returns-in_err-down-2 : goal.returns-in_err-down-2
returns-in_err-down-2 g c =
    let off : RoundBreaksOff (scripted g.S.Stable) c.args.node c.args.members.now rounds.begun c.args.prepares (inner_of c.args.self.now)
    (inner_of c.hand_on-2.new.self) = λ old comes.
    let st = scripted g.S.Stable in
    let end = vec_len c.args.self.now.frames in
    let asked = asked_by st old c.args.node c.args.members.now c.args.prepares c.args.prepares end (inner_of c.args.self.now)
    (inner_of c.hand_on.new.self) comes refl (at_none _ _ c.in_ok-down.field-0 c.in_default.is c.in_ok-down.ensures.delivers)
    c.args.self.now.frames.ok.0 in
    broken_by st old c.args.node c.args.members.now rounds.asked end (length c.frames-answers.result.now) (inner_of c.hand_on.new.self)
    (inner_of c.hand_on-2.new.self) asked (from_here _ _ _ c.args.self.now.frames.ok.0 c.frames-answers.ensures)
    c.in_err-down-2.ensures.part in
    let exit = err_from_is_err_and c.from_residual-in_err-down-2.result c.from_residual-in_err-down-2.ensures.1 in
    rw (exit.1, exit.2) (record {
      goes_on = tt;
      ends = tt;
      accepts_sent = tt;
      part = off;
      memory = c.in_err-down-2.ensures.memory;
    })

-- the answers: a receiver goes down
pub returns-in-Some-2 : goal.returns-in-Some-2
returns-in-Some-2 g c = record {
  goes_on = tt;
  ends = λ old comes.
      let st = scripted g.S.Stable in
      let end = vec_len c.args.self.now.frames in
      let asked = asked_by st old c.args.node c.args.members.now c.args.prepares c.args.prepares end (inner_of c.args.self.now)
      (inner_of c.hand_on.new.self) comes refl (at_none _ _ c.in_ok-down.field-0 c.in_default.is c.in_ok-down.ensures.delivers)
      c.args.self.now.frames.ok.0 in
      down_by st old c.args.node c.args.members.now rounds.asked end (length c.frames-answers.result.now) c.in-Some-2.down
      (inner_of c.hand_on.new.self) (inner_of c.hand_on-2.new.self) asked
      (from_here _ _ _ c.args.self.now.frames.ok.0 c.frames-answers.ensures)
      (MatchOption-at_some _ _ c.in-Some-2.down c.in-Some-2.is c.in_ok-down-2.ensures.delivers);
  accepts_sent = tt;
  part = tt;
  memory = tt;
}

-- some refuse
pub returns-in-Some-refusal : goal.returns-in-Some-refusal
returns-in-Some-refusal g c = rw c.of.ensures (record {
  goes_on = tt;
  ends = λ old comes.
      let st = scripted g.S.Stable in
      let end = vec_len c.args.self.now.frames in
      let asked = asked_by st old c.args.node c.args.members.now c.args.prepares c.args.prepares end (inner_of c.args.self.now)
      (inner_of c.hand_on.new.self) comes refl (at_none _ _ c.in_ok-down.field-0 c.in_default.is c.in_ok-down.ensures.delivers)
      c.args.self.now.frames.ok.0 in
      let from = from_here _ _ _ c.args.self.now.frames.ok.0 c.frames-answers.ensures in
      record {
        first = end;
        between = inner_of c.hand_on.new.self;
        comes = asked;
        greatest_ = subst (λ l. IsGreatestTold l c.in-Some-refusal.promised)
            (sliced c.frames.result.now (inner_of c.hand_on.new.self).frames (length c.frames-answers.result.now) end c.frames.ensures
            from)
            (MatchOption-at_some _ _ c.in-Some-refusal.promised c.in-Some-refusal.is c.in_ok-refusal.ensures.greatest);
        delivers = moved st (c.args.node ∷ []) (inner_of c.hand_on.new.self) (inner_of c.hand_on-2.new.self) end
            (length c.frames-answers.result.now) (vec_len c.hand_on.new.self.frames) from c.hand_on.new.self.frames.ok.0
            (at_none _ _ c.in_ok-down-2.field-0 c.in_default-2.is c.in_ok-down-2.ensures.delivers);
      };
  accepts_sent = tt;
  part = tt;
  memory = tt;
})

-- none refuses
pub returns-in-None : goal.returns-in-None
returns-in-None g c =
    let now = c.hand_on.new.self in
    let all = from_here _ _ _ now.frames.ok.0 c.frames-accepts.ensures in
    record {
      goes_on = λ old comes.
          let st = scripted g.S.Stable in
          let end = vec_len c.args.self.now.frames in
          let asked = asked_by st old c.args.node c.args.members.now c.args.prepares c.args.prepares end (inner_of c.args.self.now)
          (inner_of c.hand_on.new.self) comes refl (at_none _ _ c.in_ok-down.field-0 c.in_default.is c.in_ok-down.ensures.delivers)
          c.args.self.now.frames.ok.0 in
          let from = from_here _ _ _ c.args.self.now.frames.ok.0 c.frames-answers.ensures in
          let willing : NoneRefuses (drop end (inner_of now).frames) =
          subst (λ l. NoneRefuses l) (sliced c.frames.result.now (inner_of now).frames (length c.frames-answers.result.now)
          end c.frames.ensures from) (at_none _ _ c.in_ok-refusal.refusal c.in-None.is c.in_ok-refusal.ensures.greatest) in
          subst (λ (k : ℕ). ComesThrough st old c.args.node c.args.members.now rounds.answered k (inner_of c.hand_on-2.new.self)) (sym all)
          (answered_by st old c.args.node c.args.members.now end (length c.frames-answers.result.now) (vec_len now.frames)
          (inner_of now) (inner_of c.hand_on-2.new.self) asked willing from
          (at_none _ _ c.in_ok-down-2.field-0 c.in_default-2.is c.in_ok-down-2.ensures.delivers) now.frames.ok.0);
      ends = tt;
      accepts_sent = subst (λ (k : ℕ). k ≤ vec_len c.hand_on-2.new.self.frames) (sym all) c.hand_on-2.ensures.more;
      part = tt;
      memory = tt;
    }

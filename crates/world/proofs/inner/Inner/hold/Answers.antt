use Rattle.std.proofs.Common.{◌≡◌, ◌∙◌, ◌≤◌, ap, inl, inr, ℕ, List, length, true, arith}
use Rattle.std.proofs.lemmas.Option.{MatchOption-at_some}
use Rattle.std.proofs.lemmas.Result.{IfErr-at_err, IfOk-at_ok, err_from_is_err_and}
use Rattle.stable.specs.Storages.{scripted}
use Rattle.wire.specs.declared.frames.envelope.Envelope.{Envelope}
use Rattle.node_model.specs.declared.input.Input.TheVariants.{Timeout}
use Rattle.world_model.specs.Worlds.{WorldState}
use Rattle.world_model.specs.Rounds.{GoesOn, GoesToItsEnd}
use Rattle.world_model.specs.Rounds as rounds
use Rattle.world_model.specs.declared.round_end.RoundEnd.TheVariants.{Stopped}
use Rattle.world.specs.Inner.{inner_of}
use Rattle.world_model.proofs.Progress.RoundLemmas.{at_none, begun_by, taken_frames}
use Rattle.world_model.proofs.Progress.RoundBeginnings.{without}
use Rattle.world.proofs.inner.Inner.hold.Goals as goal

-- as many frames show as the world has that is the same
as_many : {S : Type 0} (v w : WorldState S) (fs : List Envelope) → fs ≡ v.frames → v ≡ w → length fs ≡ length w.frames
as_many v w fs shown same = ap length shown ∙ ap (λ u. length u.frames) same

no_fewer : (fs then now : List Envelope) (n : ℕ) → fs ≡ then → n ≡ length now → length then ≤ length now → length fs ≤ n
no_fewer fs then now n shown counted more = let same = ap length shown in omega (arith, same, counted, more)

-- there's no room for what it may send
pub returns-in_err-reserve : goal.returns-in_err-reserve
returns-in_err-reserve g c =
    let exit = err_from_is_err_and c.from_residual.result c.from_residual.ensures.1 in
    rw (exit.1, exit.2) (record {
      ends = tt;
      part = inl c.reserve.ensures.same;
      memory = c.in_err-reserve.ensures.memory;
    })

-- no campaign has begun
pub returns-in-Err : goal.returns-in-Err
returns-in-Err g c =
    record {
      ends = without (scripted g.S.Stable) (inner_of c.args.self.now) (inner_of c.reserve.new.self) c.args.node c.args.members.now
          c.in-Err.fault c.without_campaign.result (inner_of c.begin.new.self) c.reserve.ensures.same c.in-Err.ensures.fails
          c.without_campaign.ensures;
      part = tt;
      memory = tt;
    }

-- its first half: memory is wanting
pub returns-in_err-accepts : goal.returns-in_err-accepts
returns-in_err-accepts g c =
    let st = scripted g.S.Stable in
    let w0 = inner_of c.args.self.now in
    let begun = begun_by st w0 c.args.node c.args.members.now (inner_of c.reserve.new.self) (inner_of c.begin.new.self)
    (length c.frames-prepares.result.now) c.reserve.ensures.same
    (as_many _ _ _ c.frames-prepares.ensures c.reserve.ensures.same) c.in_default.ensures.begins in
    let exit = err_from_is_err_and c.from_residual-in_err-accepts.result c.from_residual-in_err-accepts.ensures.1 in
    rw (exit.1, exit.2) (record {
      ends = tt;
      part = inr (c.in_err-accepts.ensures.part w0 begun);
      memory = c.in_err-accepts.ensures.memory;
    })

-- it ends there
pub returns-in-Err-2 : goal.returns-in-Err-2
returns-in-Err-2 g c =
    let st = scripted g.S.Stable in
    let w0 = inner_of c.args.self.now in
    let begun = begun_by st w0 c.args.node c.args.members.now (inner_of c.reserve.new.self) (inner_of c.begin.new.self)
    (length c.frames-prepares.result.now) c.reserve.ensures.same
    (as_many _ _ _ c.frames-prepares.ensures c.reserve.ensures.same) c.in_default.ensures.begins in
    record {
      ends = IfErr-at_err (λ end. GoesToItsEnd st c.args.node c.args.members.now rounds.begun (length c.frames-prepares.result.now)
          (inner_of c.begin.new.self) end (inner_of c.gather.new.self)) c.in-Err-2.is c.in_ok-accepts.ensures.ends w0 begun;
      part = tt;
      memory = tt;
    }

-- its second half: memory is wanting
pub returns-in_err-down : goal.returns-in_err-down
returns-in_err-down g c =
    let st = scripted g.S.Stable in
    let w0 = inner_of c.args.self.now in
    let begun = begun_by st w0 c.args.node c.args.members.now (inner_of c.reserve.new.self) (inner_of c.begin.new.self)
    (length c.frames-prepares.result.now) c.reserve.ensures.same
    (as_many _ _ _ c.frames-prepares.ensures c.reserve.ensures.same) c.in_default.ensures.begins in
    let answered = IfOk-at_ok (λ accepts. GoesOn st c.args.node c.args.members.now rounds.begun (length c.frames-prepares.result.now)
    (inner_of c.begin.new.self) rounds.answered accepts (inner_of c.gather.new.self)) c.in-Ok.is c.in_ok-accepts.ensures.goes_on w0 begun in
    let exit = err_from_is_err_and c.from_residual-in_err-down.result c.from_residual-in_err-down.ensures.1 in
    rw (exit.1, exit.2) (record {
      ends = tt;
      part = inr (c.in_err-down.ensures.part w0 answered);
      memory = c.in_err-down.ensures.memory;
    })

-- a receiver goes down
pub returns-in-Some : goal.returns-in-Some
returns-in-Some g c =
    let st = scripted g.S.Stable in
    let w0 = inner_of c.args.self.now in
    let begun = begun_by st w0 c.args.node c.args.members.now (inner_of c.reserve.new.self) (inner_of c.begin.new.self)
    (length c.frames-prepares.result.now) c.reserve.ensures.same
    (as_many _ _ _ c.frames-prepares.ensures c.reserve.ensures.same) c.in_default.ensures.begins in
    let answered = IfOk-at_ok (λ accepts. GoesOn st c.args.node c.args.members.now rounds.begun (length c.frames-prepares.result.now)
    (inner_of c.begin.new.self) rounds.answered accepts (inner_of c.gather.new.self)) c.in-Ok.is c.in_ok-accepts.ensures.goes_on w0 begun in
    record {
      ends = MatchOption-at_some _ (λ down. GoesToItsEnd st c.args.node c.args.members.now rounds.answered c.in-Ok.accepts
          (inner_of c.gather.new.self) (Stopped down) (inner_of c.decide.new.self)) c.in-Some.down c.in-Some.is c.in_ok-down.ensures.decides
          w0 answered;
      part = tt;
      memory = tt;
    }

-- all of it has come
pub returns-in-None : goal.returns-in-None
returns-in-None g c =
    let st = scripted g.S.Stable in
    let w0 = inner_of c.args.self.now in
    let begun = begun_by st w0 c.args.node c.args.members.now (inner_of c.reserve.new.self) (inner_of c.begin.new.self)
    (length c.frames-prepares.result.now) c.reserve.ensures.same
    (as_many _ _ _ c.frames-prepares.ensures c.reserve.ensures.same) c.in_default.ensures.begins in
    let answered = IfOk-at_ok (λ accepts. GoesOn st c.args.node c.args.members.now rounds.begun (length c.frames-prepares.result.now)
    (inner_of c.begin.new.self) rounds.answered accepts (inner_of c.gather.new.self)) c.in-Ok.is c.in_ok-accepts.ensures.goes_on w0 begun in
    let decided = at_none _ _ c.in_ok-down.field-0 c.in-None.is c.in_ok-down.ensures.decides in
    record {
      ends = record { at = c.requires.at; first = decided.0; comes = decided.1 w0 answered };
      part = tt;
      memory = tt;
    }

-- the frames of the campaign come after those before it
pub gather-requires : goal.gather-requires
gather-requires g c = record {
  sent = no_fewer _ _ _ _ c.frames-prepares.ensures c.begin.new.self.frames.ok.0
      (taken_frames (scripted g.S.Stable) (inner_of c.reserve.new.self) c.args.node Timeout true (inner_of c.begin.new.self)
      c.in_default.ensures.begins);
}

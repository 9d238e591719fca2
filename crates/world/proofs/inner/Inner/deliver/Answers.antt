use Rattle.std.proofs.Common.{inl, inr, refl, ◌≡◌, rules, ap, ◌∙◌, vec_len, slice_get, Some}
use Rattle.std.proofs.lemmas.Option.{slice_get_read}
use Rattle.std.proofs.lemmas.Result.{err_from_is_err_and}
use Rattle.world_model.specs.Worlds.{without_wait}
use Rattle.world.specs.Inner.{inner_of}
use Rattle.world.proofs.Missing.{missing, frame_there, not_missing}
use Rattle.world.proofs.WorldLemmas.{delivers_same}
use Rattle.world.proofs.inner.Inner.deliver.Goals as goal

-- there is no such frame
pub returns-in_err-index : goal.returns-in_err-index
returns-in_err-index g c =
    let exit = err_from_is_err_and c.from_residual.result c.from_residual.ensures.1 in
    let past = c.in_err-index.ensures.no_frame in
    rw (exit.1, exit.2, past.0) (record {
      delivers = tt;
      err = refl;
      no_frame = missing _ _ _ _ c.args.self.now.frames.ok.0 past.1;
      faults = inl refl;
    })

-- memory is wanting
pub returns-in_err-reserve : goal.returns-in_err-reserve
returns-in_err-reserve g c =
    let exit = err_from_is_err_and c.from_residual-in_err-reserve.result c.from_residual-in_err-reserve.ensures.1 in
    let found = c.in_ok-index.ensures.found in
    rw (exit.1, exit.2, c.in_err-reserve.ensures.memory) (record {
      delivers = tt;
      err = c.reserve.ensures.same;
      no_frame = frame_there _ _ _ c.args.self.now.frames.ok.0 (rw found.0 at found.1);
      faults = inr refl;
    })

pub returns : goal.returns
returns g c =
    let named : c.in_ok-index.index ≡ c.args.frame = c.in_ok-index.ensures.found.0 in
    let there = c.in_ok-index.ensures.found.1 in
    let read : slice_get c.args.self.now.frames.items c.in_ok-index.index ≡ Some c.index.result.now =
    slice_get_read c.args.self.now.frames.items (vec_len c.args.self.now.frames) c.in_ok-index.index c.index.result.now
    c.args.self.now.frames.ok.0 there (search rules) in
    let waits : inner_of c.stop_waiting.new.self ≡ without_wait (inner_of c.args.self.now) c.args.frame =
    c.stop_waiting.ensures.stops ∙ (rw named (ap (λ w. without_wait w c.args.frame)
    (ap (λ r. inner_of r) (c.skip_stale_vote.ensures.stays c.if-skip_stale_vote.false) ∙ c.reserve.ensures.same))) in
    record {
      delivers = record {
        frame = c.in-Ok.envelope.now;
        sent = rw (← named) (read ∙ search rules);
        fits = c.in-Ok.ensures.fits;
        receives = rw waits at c.deliver_to.ensures;
      };
      err = tt;
      no_frame = not_missing _ _ _ _ _ c.args.self.now.frames.ok.0 (rw named at there);
      faults = tt;
    }

-- nothing comes of it
pub returns-then-skip_stale_vote : goal.returns-then-skip_stale_vote
returns-then-skip_stale_vote g c =
    let found = c.in_ok-index.ensures.found in
    record {
      delivers = delivers_same _ _ _ _ _ _ c.reserve.ensures.same found.0 (c.skip_stale_vote.ensures.passes c.if-skip_stale_vote.true);
      err = tt;
      no_frame = not_missing _ _ _ _ _ c.args.self.now.frames.ok.0 (rw found.0 at found.1);
      faults = tt;
    }

-- what was sent can't be opened for want of memory
pub returns-in_default : goal.returns-in_default
returns-in_default g c =
    let found = c.in_ok-index.ensures.found in
    record {
      delivers = tt;
      err = ap (λ r. inner_of r) (c.skip_stale_vote.ensures.stays c.if-skip_stale_vote.false) ∙ c.reserve.ensures.same;
      no_frame = frame_there _ _ _ c.args.self.now.frames.ok.0 (rw found.0 at found.1);
      faults = inr refl;
    }

use Rattle.std.proofs.Common.{◌≡◌, ◌∙◌, Result, Ok, Err, OnErr, IfErr, inl, inr, refl, sym, ap}
use Rattle.std.proofs.lemmas.Result.{IfErr-weaker, err_from_is_err_and}
use Rattle.wire.specs.declared.frames.message.Message.TheVariants.{Promise, Accept, Decided}
use Rattle.node_model.proofs.FaultLemmas.{memory_not_device, memory_of_two, made_nothing}
use Rattle.node.proofs.replica.Replica.dispatch.Goals as goal

-- what holds of each error
on_err : {T E : Type 0} (r : Result T E) (P : Type 0) → OnErr r P → IfErr r (λ _. P)
on_err (Ok x) P h = tt
on_err (Err e) P h = h

-- a prepare
pub returns-in-Prepare : goal.returns-in-Prepare
returns-in-Prepare g c = rw c.in-Prepare.is (record {
  takes = c.on_prepare.ensures.takes;
  made = c.on_prepare.ensures.made;
  err = c.on_prepare.ensures.err;
  wanted = IfErr-weaker c.on_prepare.result _ _ (λ _ _. tt) c.on_prepare.ensures.err;
})

-- an accept, of which a copy was made
pub returns-in_ok-clone-in-Accept : goal.returns-in_ok-clone-in-Accept
returns-in_ok-clone-in-Accept g c =
    let same = c.in_ok-clone-in-Accept.ensures.cases in
    let copy : c.in_ok-clone-in-Accept.field-0 ≡ c.in-Accept.vote =
    λ i. record { slot = same.0 i; ballot = same.1.0 i; command = same.1.1 i } in
    rw (c.in-Accept.is ∙ ap Accept (sym copy)) (record {
      takes = c.on_accept.ensures.takes;
      made = c.on_accept.ensures.made;
      err = c.on_accept.ensures.err;
      wanted = IfErr-weaker c.on_accept.result _ _ (λ _ _. tt) c.on_accept.ensures.err;
    })

-- a copy of what came couldn't be made
pub returns-in_err-clone-in-Promise : goal.returns-in_err-clone-in-Promise
returns-in_err-clone-in-Promise g c =
    let exit = err_from_is_err_and c.from_residual.result c.from_residual.ensures.1 in
    rw (exit.1, exit.2) (record {
      takes = tt;
      made = record {
        written = tt;
        device = λ is. absurd (memory_not_device is);
        memory = λ _. inl (g.met.S.Stable.laws.reads_none _);
      };
      err = inr refl;
      wanted = rw c.in-Promise.is tt;
    })

pub returns-in_err-clone-in-Accept : goal.returns-in_err-clone-in-Accept
returns-in_err-clone-in-Accept g c =
    let exit = err_from_is_err_and c.from_residual-in_err-clone-in-Accept.result c.from_residual-in_err-clone-in-Accept.ensures.1 in
    rw (exit.1, exit.2) (record {
      takes = tt;
      made = record {
        written = tt;
        device = λ is. absurd (memory_not_device is);
        memory = λ _. inl (g.met.S.Stable.laws.reads_none _);
      };
      err = inr refl;
      wanted = rw c.in-Accept.is tt;
    })

pub returns-in_err-share-in-Decided : goal.returns-in_err-share-in-Decided
returns-in_err-share-in-Decided g c =
    let exit = err_from_is_err_and c.from_residual-in_err-share-in-Decided.result c.from_residual-in_err-share-in-Decided.ensures.1 in
    rw (exit.1, exit.2) (record {
      takes = tt;
      made = record {
        written = tt;
        device = λ is. absurd (memory_not_device is);
        memory = λ _. inl (g.met.S.Stable.laws.reads_none _);
      };
      err = inr refl;
      wanted = rw c.in-Decided.is tt;
    })

-- the other messages are none on which something is written
pub returns-in-Nack : goal.returns-in-Nack
returns-in-Nack g c = rw c.in-Nack.is (record {
  takes = c.on_nack.ensures;
  made = made_nothing _ _ (Ok _) _ (g.met.S.Stable.laws.reads_none _) refl tt;
  err = tt;
  wanted = tt;
})

pub returns-in-Ask : goal.returns-in-Ask
returns-in-Ask g c = rw c.in-Ask.is (record {
  takes = c.on_ask.ensures.takes;
  made = made_nothing _ _ c.on_ask.result _ (g.met.S.Stable.laws.reads_none _) refl c.on_ask.ensures.err;
  err = memory_of_two c.on_ask.result c.on_ask.ensures.err;
  wanted = on_err c.on_ask.result _ c.on_ask.ensures.wanted;
})

pub returns-in-Accepted : goal.returns-in-Accepted
returns-in-Accepted g c = rw c.in-Accepted.is (record {
  takes = c.on_accepted.ensures.takes;
  made = made_nothing _ _ c.on_accepted.result _ (g.met.S.Stable.laws.reads_none _) refl c.on_accepted.ensures.err;
  err = memory_of_two c.on_accepted.result c.on_accepted.ensures.err;
  wanted = IfErr-weaker c.on_accepted.result _ _ (λ _ _. tt) c.on_accepted.ensures.err;
})

pub returns-in_ok-clone-in-Promise : goal.returns-in_ok-clone-in-Promise
returns-in_ok-clone-in-Promise g c =
    rw (c.in-Promise.is ∙ ap Promise (sym c.in_ok-clone-in-Promise.ensures.cases)) (record {
      takes = c.on_promise.ensures.takes;
      made = made_nothing _ _ c.on_promise.result _ (g.met.S.Stable.laws.reads_none _) refl c.on_promise.ensures.err;
      err = memory_of_two c.on_promise.result c.on_promise.ensures.err;
      wanted = IfErr-weaker c.on_promise.result _ _ (λ _ _. tt) c.on_promise.ensures.err;
    })

pub returns-in_ok-share-in-Decided : goal.returns-in_ok-share-in-Decided
returns-in_ok-share-in-Decided g c =
    rw (c.in-Decided.is ∙ ap (Decided c.in-Decided.slot) (sym c.in_ok-share-in-Decided.ensures)) (record {
      takes = c.on_decided.ensures.takes;
      made = made_nothing _ _ c.on_decided.result _ (g.met.S.Stable.laws.reads_none _) refl c.on_decided.ensures.err;
      err = memory_of_two c.on_decided.result c.on_decided.ensures.err;
      wanted = IfErr-weaker c.on_decided.result _ _ (λ _ _. tt) c.on_decided.ensures.err;
    })

pub returns-in-SnapAsk : goal.returns-in-SnapAsk
returns-in-SnapAsk g c = rw c.in-SnapAsk.is (record {
  takes = c.on_snap_ask.ensures.takes;
  made = made_nothing _ _ c.on_snap_ask.result _ (g.met.S.Stable.laws.reads_none _) refl c.on_snap_ask.ensures.err;
  err = memory_of_two c.on_snap_ask.result c.on_snap_ask.ensures.err;
  wanted = on_err c.on_snap_ask.result _ c.on_snap_ask.ensures.wanted;
})

pub returns-in-SnapPart : goal.returns-in-SnapPart
returns-in-SnapPart g c = rw c.in-SnapPart.is (record {
  takes = c.on_part.ensures.takes;
  made = made_nothing _ _ c.on_part.result _ (g.met.S.Stable.laws.reads_none _) refl c.on_part.ensures.err;
  err = memory_of_two c.on_part.result c.on_part.ensures.err;
  wanted = on_err c.on_part.result _ c.on_part.ensures.wanted;
})

pub returns-in-Behind : goal.returns-in-Behind
returns-in-Behind g c = rw c.in-Behind.is (record {
  takes = c.on_behind.ensures.takes c.args.from;
  made = made_nothing _ _ c.on_behind.result _ (g.met.S.Stable.laws.reads_none _) refl c.on_behind.ensures.err;
  err = memory_of_two c.on_behind.result c.on_behind.ensures.err;
  wanted = on_err c.on_behind.result _ c.on_behind.ensures.wanted;
})

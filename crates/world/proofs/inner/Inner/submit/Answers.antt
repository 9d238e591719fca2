use Rattle.std.proofs.Common.{◌≡◌, ◌++◌, ◌∷◌, [], inl, inr, ℕ, Bool, true, false, List, refl, rules}
use Rattle.std.proofs.lemmas.Result.{err_from_is_err_and}
use Rattle.world.proofs.Missing.{counted, missing, node_there, not_missing}
use Rattle.sessions.specs.declared.submission.Submission.{Submission}
use Rattle.world_model.specs.declared.lists.Submitted.{Submitted}
use Rattle.world_model.specs.Worlds.{WorldState, with_submission}
use Rattle.world.specs.Inner.{inner_of}
use Rattle.world.proofs.inner.Inner.submit.Goals as goal

-- a request that was taken stands in the list, and no other
listed : {S : Type 0} (w : WorldState S) (taken : Bool) (node : ℕ) (r : Submission) (submitted : List Submitted) → taken ≡ true
    → submitted ≡ w.submitted ++ record { node = node; submission = r } ∷ []
    → record w { submitted = submitted } ≡ with_submission w taken node r
listed w taken node r submitted is more = rw (is, more) refl

unlisted : {S : Type 0} (w : WorldState S) (taken : Bool) (node : ℕ) (r : Submission) → taken ≡ false → w ≡ with_submission w taken node r
unlisted w taken node r isnt = rw isnt refl

-- there is no such node
pub returns-in_err-find : goal.returns-in_err-find
returns-in_err-find g c =
    let exit = err_from_is_err_and c.from_residual.result c.from_residual.ensures.1 in
    let past = c.in_err-find.ensures.no_node in
    rw (exit.1, exit.2, past.0) (record {
      submits = tt;
      err = refl;
      no_node = missing _ _ _ _ (counted _ _ c.args.self.now.nodes.ok.0) past.1;
      faults = inl refl;
    })

-- memory is wanting
pub returns-in_err-reserve : goal.returns-in_err-reserve
returns-in_err-reserve g c =
    let exit = err_from_is_err_and c.from_residual-in_err-reserve.result c.from_residual-in_err-reserve.ensures.1 in
    rw (exit.1, exit.2, c.in_err-reserve.ensures.memory) (record {
      submits = tt;
      err = c.reserve.ensures.same;
      no_node = node_there _ _ _ (counted _ _ c.args.self.now.nodes.ok.0) c.in_ok-find.ensures.found;
      faults = inr refl;
    })

pub returns-in_err-copy : goal.returns-in_err-copy
returns-in_err-copy g c =
    let exit = err_from_is_err_and c.from_residual-in_err-copy.result c.from_residual-in_err-copy.ensures.1 in
    rw (exit.1, exit.2) (record {
      submits = tt;
      err = c.reserve.ensures.same;
      no_node = node_there _ _ _ (counted _ _ c.args.self.now.nodes.ok.0) c.in_ok-find.ensures.found;
      faults = inr refl;
    })

-- the request was taken, and joins the list
pub returns-then-take : goal.returns-then-take
returns-then-take g c = record {
  submits = record {
    taken = c.take.result;
    between = inner_of c.take.new.self;
    valid = c.recall_valid.ensures;
    takes = rw (c.reserve.ensures.same, c.in_ok-copy.ensures.cases) at c.take.ensures.taken;
    leaves = listed (inner_of c.take.new.self) c.take.result c.args.node _ _ c.if-take.true (search rules);
  };
  err = tt;
  no_node = not_missing _ _ _ _ _ (counted _ _ c.args.self.now.nodes.ok.0) c.in_ok-find.ensures.found;
  faults = tt;
}

-- it was not
pub returns-else-take : goal.returns-else-take
returns-else-take g c = record {
  submits = record {
    taken = c.take.result;
    between = inner_of c.take.new.self;
    valid = c.recall_valid.ensures;
    takes = rw (c.reserve.ensures.same, c.in_ok-copy.ensures.cases) at c.take.ensures.taken;
    leaves = unlisted (inner_of c.take.new.self) c.take.result c.args.node _ c.if-take.false;
  };
  err = tt;
  no_node = not_missing _ _ _ _ _ (counted _ _ c.args.self.now.nodes.ok.0) c.in_ok-find.ensures.found;
  faults = tt;
}

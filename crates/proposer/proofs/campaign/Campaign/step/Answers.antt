use Rattle.std.proofs.Common.{◌≡◌, ◌≢◌, ℕ, List, [], Bool, IsSome, IsSomeAnd, false, length, nat_le, ◌∙◌, refl, sym, ap, rules}
use Rattle.std.specs.List.{list_any}
use Rattle.std.proofs.lemmas.Result.{err_from_is_err_and}
use Rattle.sessions.specs.declared.submission.Submission.{Submission}
use Rattle.proposer.specs.Campaigning.{Campaigning, Filling, stepped, is_at, choice}
use Rattle.proposer.specs.declared.window.Proposal.{Proposal}
use Rattle.proposer.specs.declared.window.TheConstants.{MOST_OPEN}
use Rattle.proposer.proofs.Windows.{step_sends}
use Rattle.proposer.proofs.campaign.Campaign.step.Goals as goal

-- a way out is answered whole: its clauses are found together
pub returns-then-learnt : goal.returns-then-learnt
returns-then-learnt c = search rules

pub returns-then-is_full : goal.returns-then-is_full
returns-then-is_full c = search rules

pub returns-in_default : goal.returns-in_default
returns-in_default c = search rules

pub returns : goal.returns
returns c = search rules

-- a slot that is open, in a window that has room, has its command sent
still_sends : (k : Campaigning) (waiting : List Submission) (learnt_to slot : ℕ) (learnt : Bool) (f : Filling) (held : List Proposal)
    → held ≡ f.proposals → learnt ≡ false → false ≡ list_any (is_at slot) held → false ≡ nat_le MOST_OPEN (length held)
    → IsSome (choice k waiting learnt_to slot f.proposals)
    → IsSomeAnd (stepped k waiting learnt_to learnt slot f) (λ (g : Filling). g.sent ≢ [])
still_sends k waiting learnt_to slot learnt f held same unlearnt free room there =
    step_sends k waiting learnt_to slot learnt f (rw (unlearnt, ← same) (sym free)) (rw (← same) (sym room)) there

-- what could not be grown was to be sent
pub returns-in_err-command : goal.returns-in_err-command
returns-in_err-command c =
    let k = c.args.self.now in
    let exit = err_from_is_err_and c.from_residual.result c.from_residual.ensures.1 in
    rw exit.1 (record {
      steps = tt;
      opens = still_sends k c.args.waiting.now c.args.learnt_to c.args.slot c.args.learnt _ _
          (ap (λ (k : Campaigning). k.proposals) c.self.view_is) c.if-learnt.false c.if-has.ensures c.if-is_full.ensures
          c.in_err-command.ensures.there;
      only = tt;
    })

pub returns-in_err-clone : goal.returns-in_err-clone
returns-in_err-clone c =
    let k = c.args.self.now in
    let exit = err_from_is_err_and c.from_residual-in_err-clone.result c.from_residual-in_err-clone.ensures.1 in
    rw exit.1 (record {
      steps = tt;
      opens = still_sends k c.args.waiting.now c.args.learnt_to c.args.slot c.args.learnt _ _
          (ap (λ (k : Campaigning). k.proposals) c.self.view_is) c.if-learnt.false c.if-has.ensures c.if-is_full.ensures
          (rw (sym c.in_ok-command.ensures.chosen ∙ c.in-Some.is) refl);
      only = tt;
    })

pub returns-in_err-push : goal.returns-in_err-push
returns-in_err-push c =
    let k = c.args.self.now in
    let exit = err_from_is_err_and c.from_residual-in_err-push.result c.from_residual-in_err-push.ensures.1 in
    rw exit.1 (record {
      steps = tt;
      opens = still_sends k c.args.waiting.now c.args.learnt_to c.args.slot c.args.learnt _ _
          (ap (λ (k : Campaigning). k.proposals) c.self.view_is) c.if-learnt.false c.if-has.ensures c.if-is_full.ensures
          (rw (sym c.in_ok-command.ensures.chosen ∙ c.in-Some.is) refl);
      only = tt;
    })

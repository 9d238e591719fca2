use Rattle.std.proofs.Common.{◌≡◌, ◌∙◌, ◌++◌, ◌∷◌, [], ap, subst, sym, true, refl, ◌<◌, ℕ, Option, Some, None, IfSome, is_ok}
use Rattle.std.proofs.lemmas.Option.{slice_get_within}
use Rattle.learner.specs.Learning.{told_too}
use Rattle.learner.specs.Tallies.{told_in}
use Rattle.learner.proofs.TallyLemmas.{decides_there, decides_not_there, pushed_or_not, pushed_told, read_there, revised_apart}
use Rattle.learner.proofs.TallyLemmas.{revised_told, told_by_none}
use Rattle.learner.proofs.SlotLemmas.{where_refused}
use Rattle.learner.proofs.tallies.Tallies.count.Goals as goal

-- a majority has told it: a tally's command is the one that was told
pub returns-in-Some-clause-decided : goal.returns-in-Some-clause-decided
returns-in-Some-clause-decided c =
    let self = c.args.self.now in
    let voters = c.voters_with-voters in
    let there = c.position-place.ensures.found c.in-Some.place c.in-Some.is in (
      subst (λ o. IfSome o (λ t. c.take.result ≡ t.command)) there.1 c.take.ensures ∙ there.2.1,
      decides_there self.tallies.items self.apart c.args.ballot c.args.from c.args.command.now c.position-place.result
          c.position-place.ensures voters.result voters.ensures.member voters.ensures.others c.requires c.args.nodes
          (c.is_majority_of.ensures.0 c.if-is_majority_of.true),
    )

pub returns-in_ok-share-in-None-clause-decided : goal.returns-in_ok-share-in-None-clause-decided
returns-in_ok-share-in-None-clause-decided c =
    let self = c.args.self.now in
    let voters = c.voters_with-voters in (
      c.in_ok-share-in-None.ensures,
      decides_there self.tallies.items self.apart c.args.ballot c.args.from c.args.command.now c.position-place.result
          c.position-place.ensures voters.result voters.ensures.member voters.ensures.others c.requires c.args.nodes
          (c.is_majority_of.ensures.0 c.if-is_majority_of.true),
    )

-- it joins those who told the command under the ballot
pub invariant_of-self : goal.invariant_of-self
invariant_of-self c =
    let self = c.args.self.now in
    let voters = c.voters_with-voters in
    let place = c.position-place in
    let there = read_there self.tallies.items c.args.ballot c.args.command.now place.result place.ensures c.in-Some-place.place
    c.in-Some-place.is
    c.index_mut.result.now c.index_mut.ensures.value in record {
      apart = revised_apart self.tallies.items self.apart c.args.ballot c.args.from c.args.command.now place.result place.ensures
          voters.result voters.ensures.member voters.ensures.others c.requires c.in-Some-place.place c.index_mut.result.now
          c.in-Some-place.is there;
    }

pub returns-in-Some-place-clause-heard : goal.returns-in-Some-place-clause-heard
returns-in-Some-place-clause-heard c =
    let self = c.args.self.now in
    let voters = c.voters_with-voters in
    let place = c.position-place in
    let there = read_there self.tallies.items c.args.ballot c.args.command.now place.result place.ensures c.in-Some-place.place
    c.in-Some-place.is
    c.index_mut.result.now c.index_mut.ensures.value in
    λ _. (
      decides_not_there self.tallies.items self.apart c.args.ballot c.args.from c.args.command.now place.result place.ensures
          voters.result voters.ensures.member voters.ensures.others c.requires c.args.nodes
          (λ most. let bad : c.is_majority_of.result ≡ true = c.is_majority_of.ensures.1 most in cc),
      revised_told self.tallies.items self.apart c.args.ballot c.args.from c.args.command.now place.result place.ensures
          voters.result voters.ensures.member voters.ensures.others c.requires c.in-Some-place.place c.index_mut.result.now
          c.in-Some-place.is there,
    )

-- it is the first to tell the command under the ballot
pub invariant_of-self-in-None-place : goal.invariant_of-self-in-None-place
invariant_of-self-in-None-place c =
    let self = c.args.self.now in
    let voters = c.voters_with-voters in
    let place = c.position-place in record {
      apart = pushed_or_not self.tallies.items self.apart c.args.ballot c.args.from c.args.command.now place.result place.ensures
          voters.result voters.ensures.member voters.ensures.others c.requires c.in-None-place.is (is_ok c.push.result)
          c.push.new.self.items
          (rw (sym c.in_ok-command-in-None-place.ensures) c.push.ensures.items);
    }

pub returns-in_ok-push-in-None-place-clause-heard : goal.returns-in_ok-push-in-None-place-clause-heard
returns-in_ok-push-in-None-place-clause-heard c =
    let self = c.args.self.now in
    let voters = c.voters_with-voters in
    let place = c.position-place in
    let grown : told_in (self.tallies.items ++ record {
      ballot = c.args.ballot;
      command = c.in_ok-command-in-None-place.command;
      voters = voters.result;
    } ∷ []) ≡ told_too (told_in self.tallies.items) c.args.ballot c.args.from c.args.command.now =
    rw c.in_ok-command-in-None-place.ensures (pushed_told self.tallies.items self.apart c.args.ballot c.args.from c.args.command.now
    place.result place.ensures voters.result voters.ensures.member voters.ensures.others c.requires c.in-None-place.is) in
    λ _. (
      decides_not_there self.tallies.items self.apart c.args.ballot c.args.from c.args.command.now place.result place.ensures
          voters.result voters.ensures.member voters.ensures.others c.requires c.args.nodes
          (λ most. let bad : c.is_majority_of.result ≡ true = c.is_majority_of.ensures.1 most in cc),
      ap told_in c.in_ok-push-in-None-place.ensures.items ∙ grown,
    )

-- memory is wanting, where nobody has told the command under the ballot
pub returns-in_err-command-in-None-place-clause-first : goal.returns-in_err-command-in-None-place-clause-first
returns-in_err-command-in-None-place-clause-first c =
    where_refused c.from_residual-in_err-command-in-None-place.result
    (told_by_none c.args.self.now.tallies.items c.args.ballot c.args.command.now c.position-place.result c.position-place.ensures
    c.in-None-place.is)

pub returns-in_err-push-in-None-place-clause-first : goal.returns-in_err-push-in-None-place-clause-first
returns-in_err-push-in-None-place-clause-first c =
    where_refused c.from_residual-in_err-push-in-None-place.result
    (told_by_none c.args.self.now.tallies.items c.args.ballot c.args.command.now c.position-place.result c.position-place.ensures
    c.in-None-place.is)

-- the place that was found is one of the list
in_list : (o : Option ℕ) (n : ℕ) → ((i : ℕ) → o ≡ Some i → i < n) → IfSome o (λ i. i < n)
in_list (Some i) n within = within i refl
in_list None n within = tt

pub voters_with-voters-requires : goal.voters_with-voters-requires
voters_with-voters-requires c = in_list c.position-place.result _ (λ i is.
    let found = c.position-place.ensures.found i is in slice_get_within c.args.self.now.tallies.items i found.0 found.1)

pub take-requires : goal.take-requires
take-requires c =
    let found = c.position-place.ensures.found c.in-Some.place c.in-Some.is in
    slice_get_within c.args.self.now.tallies.items c.in-Some.place found.0 found.1

pub index_mut-requires : goal.index_mut-requires
index_mut-requires c =
    let found = c.position-place.ensures.found c.in-Some-place.place c.in-Some-place.is in
    subst (λ (n : ℕ). c.in-Some-place.place < n) (sym c.args.self.now.tallies.ok.0)
    (slice_get_within c.args.self.now.tallies.items c.in-Some-place.place found.0 found.1)

pub returns-in_err-share-in-None-clause-first : goal.returns-in_err-share-in-None-clause-first
returns-in_err-share-in-None-clause-first c =
    where_refused c.from_residual.result
    (told_by_none c.args.self.now.tallies.items c.args.ballot c.args.command.now c.position-place.result c.position-place.ensures
    c.in-None.is)

use Rattle.std.proofs.Common.{ℕ, Option, rules, ◌∙◌, ap, option_map, refl}
use Rattle.slot_table.proofs.ValueLemmas.{where_refused}
use Rattle.slot_table.specs.Values.{value_at}
use Rattle.stable.proofs.FaultLemmas.{no_fault}
use Rattle.acceptor.specs.AcceptedValues.{vote_at, cast_at}
use Rattle.acceptor.specs.declared.accepted_value.AcceptedValue.{AcceptedValue}
use Rattle.acceptor.specs.declared.votes.Votes.{Votes}
use Rattle.acceptor.proofs.VoteLemmas.{put_there, votes-put, same_vote, put_and_back}
use Rattle.acceptor.proofs.votes.Votes.record_vote.Goals as goal

-- the vote is at its slot, and the others are as they were
pub returns-in-Ok : goal.returns-in-Ok
returns-in-Ok g c = record {
  written = search rules;
  votes = λ s.
      let vote = c.args.vote.now in
      let cast : AcceptedValue = record { ballot = vote.ballot; command = c.in_ok-share.field-0 } in
      let same = same_vote cast vote refl (search rules) in
      ap (option_map (vote_at s)) (ap (λ f. f s) c.in_ok-before.ensures.stands)
      ∙ votes-put (cast_at c.args.self.now) cast vote same s;
  fits = search rules;
  device = λ is. absurd (no_fault _ _ is);
  device_fits = λ is. absurd (no_fault _ _ is);
  memory = λ is. absurd (no_fault _ _ is);
  unchanged = tt;
  not_damaged = λ is. no_fault _ _ is;
}

-- what took its place is taken back
pub returns-in-Err : goal.returns-in-Err
returns-in-Err g c = record {
  written = tt;
  votes = tt;
  fits = tt;
  device = search rules;
  device_fits = search rules;
  memory = search rules;
  unchanged = λ s.
      let slot = c.args.vote.now.slot in
      let held : Votes = record { by_slot = c.insert.new.self } in
      let back = put_and_back (cast_at c.args.self.now) (cast_at held) (cast_at c.put_back.new.self)
      slot _ c.in_ok-before.before (λ i. ap (λ f. f i) c.in_ok-before.ensures.stands) c.put_back.ensures c.in_ok-before.ensures.before s in
      ap (option_map (vote_at s)) back;
  not_damaged = c.in-Err.ensures.not_damaged;
}

-- memory was wanting
pub returns-in_err-before-clause-unchanged : goal.returns-in_err-before-clause-unchanged
returns-in_err-before-clause-unchanged g c =
    where_refused c.from_residual-in_err-before.result
    (λ s. ap (λ (f : ℕ → Option AcceptedValue). option_map (vote_at s) (f s)) c.in_err-before.ensures.unchanged)

-- the slot has its place by then
pub put_back-requires : goal.put_back-requires
put_back-requires g c =
    λ _. put_there (cast_at c.args.self.now) (value_at c.insert.new.self) c.args.vote.now.slot _ c.in_ok-before.ensures.stands

-- a way out is answered whole: its clauses are found together
pub returns-in_err-bytes : goal.returns-in_err-bytes
returns-in_err-bytes g c = search rules

pub returns-in_err-share : goal.returns-in_err-share
returns-in_err-share g c = search rules

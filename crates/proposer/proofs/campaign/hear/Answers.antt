use Rattle.std.proofs.Common.{rules, ◌∙◌}
use Rattle.proposer.proofs.Counting.{heard_one, passed_one, none_behind}
use Rattle.proposer.proofs.campaign.hear.Goals as goal

-- one vote more
pub loop-entry-preserved-in-Continue-1 : goal.loop-entry-preserved-in-Continue-1
loop-entry-preserved-in-Continue-1 c =
    let rest = c.next.new.self.rest.items in
    let left = c.loop-entry.entry-iterator.rest.items in
    record {
      heard = heard_one c.loop-entry.told.items c.push.new.self.items rest left c.in-Some.entry c.into_vote-vote.result c.args.end
          c.in_ok-push.ensures.items (search rules) c.into_vote-vote.ensures (search rules)
          ∙ c.loop-entry.invariant.heard;
      none = λ nothing. none_behind rest left c.in-Some.entry c.args.end (search rules) (c.loop-entry.invariant.none nothing);
    }

-- a vote that is passed over
pub loop-entry-preserved : goal.loop-entry-preserved
loop-entry-preserved c =
    let rest = c.next.new.self.rest.items in
    let left = c.loop-entry.entry-iterator.rest.items in
    record {
      heard = passed_one c.loop-entry.told.items rest left c.in-Some.entry c.into_vote-vote.result c.args.end (search rules)
          c.into_vote-vote.ensures (search rules)
          ∙ c.loop-entry.invariant.heard;
      none = λ nothing. none_behind rest left c.in-Some.entry c.args.end (search rules) (c.loop-entry.invariant.none nothing);
    }

-- a vote that is to be kept was wanting its place
pub returns-in_err-push : goal.returns-in_err-push
returns-in_err-push c = search rules

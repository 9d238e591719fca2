use Rattle.story.proofs.TellingLemmas.{by_kind, on_ok_then}
use Rattle.story.proofs.entries.Listing.list_by_kind.Goals as goal

pub returns-clause-entries : goal.returns-clause-entries
returns-clause-entries c =
    on_ok_then c.list_answers.result
    (λ h. by_kind c.args.self.now c.list_learnt.new.self c.list_replies.new.self c.list_answers.new.self _
    c.in_ok-list_learnt.ensures.entries c.in_ok-list_learnt.ensures.told c.in_ok-list_replies.ensures.entries
    c.in_ok-list_replies.ensures.told h) c.list_answers.ensures.entries

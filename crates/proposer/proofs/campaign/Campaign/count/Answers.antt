use Rattle.std.proofs.Common.{rules, ◌≡◌, ◌∙◌, ◌++◌, true, sym, ap, nat_le}
use Rattle.std.proofs.lemmas.Fn.{filter_same}
use Rattle.std.proofs.lemmas.List.Elements.{filter-append}
use Rattle.proposer.specs.Campaigning.{Campaigning, up_to}
use Rattle.proposer.proofs.Counting.{made_promise}
use Rattle.proposer.proofs.campaign.Campaign.count.Goals as goal

pub returns-clause-counted : goal.returns-clause-counted
returns-clause-counted c =
    let end' = c.min-end.result in
    let kept : c.retain.new.self.items ≡ up_to end' c.self.inside.told.items =
    filter_same _ _ _ (λ x b f' k. search rules) _ _ c.retain.ensures.filtered in
    let told : c.hear.new.told.items ≡ up_to end' (c.self.inside.told.items ++ c.args.promise.entries) =
    c.in_ok-hear.ensures.heard ∙ ap (λ l. l ++ up_to end' c.into_entries.result.items) kept
    ∙ ap (λ l. up_to end' c.self.inside.told.items ++ up_to end' l) c.into_entries.ensures
    ∙ sym (filter-append (λ v. nat_le v.slot end') c.self.inside.told.items c.args.promise.entries) in
    let counted : c.counts.result ≡ true = search rules in
    let old : Campaigning = record {
      ballot = c.self.inside.ballot;
      first = c.self.inside.first;
      promised = c.self.inside.promised;
      end = c.self.inside.end;
      told = c.self.inside.told.items;
      leading = c.self.inside.leading;
      proposals = c.self.inside.window;
    } in
    rw (← c.self.view_is) (made_promise c.args.nodes c.args.from old c.args.promise c.insert.new.self end' c.hear.new.told.items
    c.is_most-self-inside.result (rw (← c.self.view_is) at (sym c.counts.ensures ∙ counted)) c.insert.ensures.set (search rules) told
    c.is_most-self-inside.ensures)

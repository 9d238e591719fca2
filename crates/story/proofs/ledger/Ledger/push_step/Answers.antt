-- The step that is noted is the last one.
use Rattle.std.proofs.Common.{rules, ◌≡◌, ◌∙◌, length, sym, ap, subst}
use Rattle.story.specs.declared.ledger.Counts.{Counts}
use Rattle.story.specs.declared.ledger.Step.{Step}
use Rattle.story.specs.Counted.{AreWithin}
use Rattle.story.specs.Ledgers.{counts_of}
use Rattle.story.specs.Passing.{NotesComing, NotesSending}
use Rattle.world.specs.Seen.{world_of}
use Rattle.story.proofs.LedgerLemmas.{ends_noted, falls_noted, lines_noted}
use Rattle.story.proofs.PassingLemmas.{passages_noted}
use Rattle.story.proofs.SendingLemmas.{sent_noted}
use Rattle.story.proofs.ledger.Ledger.push_step.Goals as goal

pub returns-in-Ok-clause-kept : goal.returns-in-Ok-clause-kept
returns-in-Ok-clause-kept c =
    let s : Step = record { deed = c.args.deed; ends = c.args.ends } in
    let e = c.in-Ok.ensures.items in
    let noted : NotesComing c.args.deed (length c.args.self.now.steps.items) c.args.self.now.passages.items
    c.note_passages.new.passages.items = search rules in
    let sending : NotesSending (length c.args.self.now.steps.items) c.args.self.now.passages.items c.note_passages.new.passages.items =
    search rules in
    let passages : length c.note_passages.new.passages.items ≡ c.args.ends.frames = search rules in
    record {
      lines = lines_noted _ _ s e _ c.requires.kept.lines;
      counts = falls_noted _ _ s e c.requires.kept.counts c.requires.more;
      within = subst (λ (k : Counts). AreWithin k (counts_of (world_of c.args.self.now.world))) (sym (ends_noted _ _ s e)) c.requires.within;
      passages = passages ∙ ap (λ (k : Counts). k.frames) (sym (ends_noted _ _ s e));
      came = passages_noted _ _ s _ _ e noted c.requires.kept.came;
      sent = sent_noted _ _ _ s _ _ e noted sending c.requires.kept.passages passages c.requires.kept.sent;
      searched = c.requires.kept.searched;
    }

use Rattle.std.proofs.Common.{ℕ, List, sym, ap, ◌∙◌}
use Rattle.audit.specs.Files.{without_end}
use Rattle.audit.proofs.FileLemmas.{end_taken, end_kept}
use Rattle.audit.proofs.transcripts.without_line_feed.Goals as goal

pub returns-in-Some : goal.returns-in-Some
returns-in-Some c = sym (ap (λ (bytes : List ℕ). without_end bytes) c.in-Some.ensures ∙ end_taken _)

pub returns-in-None : goal.returns-in-None
returns-in-None c = sym (end_kept c.args.bytes.now c.in-None.ensures)

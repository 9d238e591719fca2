use Rattle.learner.proofs.PrefixLemmas.{skipped_grows, skipped_reaches, skipped_first, skipped_stands}
use Rattle.learner.proofs.allowed.skipping_is_allowed.Goals as goal

pub returns-clause-stands : goal.returns-clause-stands
returns-clause-stands c = λ l m position stands. skipped_stands l position m stands

pub returns-clause-prefix : goal.returns-clause-prefix
returns-clause-prefix c = λ l position. skipped_grows l position

pub returns-clause-reached : goal.returns-clause-reached
returns-clause-reached c = λ l position within. skipped_reaches l position within

pub returns-clause-first : goal.returns-clause-first
returns-clause-first c = λ l position above. skipped_first l position above

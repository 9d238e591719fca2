use Rattle.std.proofs.Common.{List, Option, subst}
use Rattle.std.specs.Prelude.{All}
use Rattle.sessions.specs.Snapshots.{ClientFits, held}
use Rattle.sessions.specs.declared.session.Session.{Session}
use Rattle.sessions.proofs.snapshot.snapshot_text.Goals as goal

pub returns-clause-fits : goal.returns-clause-fits
returns-clause-fits c = record {
  database = c.push_features.ensures.database;
  features = c.in_ok-push_features.ensures.fits;
  clients =
      subst (λ (table : List (Option Session)). All ClientFits (held table)) c.places-2.ensures
      c.in_ok-push_clients.ensures.fits;
}

use Rattle.std.proofs.Common.{◌≡◌, ◌++◌, ◌∷◌, ◌<◌, [], None, true, length, sym, ap, subst, ◌∙◌, arith}
use Rattle.std.proofs.lemmas.List.{length-append}
use Rattle.std.proofs.lemmas.Result.{err_from_is_err_and}
use Rattle.store.specs.Features.{IsDatabase}
use Rattle.store.specs.declared.db.TheConstants.{MOST_FEATURES}
use Rattle.sessions.specs.Restoring.{features_at, comes_after}
use Rattle.sessions.proofs.PlaceLemmas.{last_id, last_id-push, gap_behind, pushed_database}
use Rattle.sessions.proofs.ReadLoops.{features_go_on, features_end, features_done}
use Rattle.sessions.proofs.snapshot_reader.read_each_feature.Goals as goal

-- its id comes after the last
pub push-requires-clause-last : goal.push-requires-clause-last
push-requires-clause-last c =
    let f = c.in_ok-feature.feature in
    let later : comes_after (last_id c.loop.db) f.id ≡ true = rw (← c.loop.invariant.1.0) c.in_ok-feature.ensures.later in
    gap_behind c.loop.db f.id c.loop.invariant.1.1.1 later

-- one feature more
pub loop-preserved : goal.loop-preserved
loop-preserved c =
    let f = c.in_ok-feature.feature in
    let later : comes_after (last_id c.loop.db) f.id ≡ true = rw (← c.loop.invariant.1.0) c.in_ok-feature.ensures.later in
    let added : c.push.new.self ≡ c.loop.db ++ f ∷ [] = c.in_ok-push.ensures.added in
    let below = c.loop-test.true in
    let few = c.requires.few in
    let count = c.loop.invariant.1.1.0 in
    let room : length c.loop.db < MOST_FEATURES = omega (arith, below, few, count) in
    let one = ap length added in
    let long = length-append c.loop.db (f ∷ []) in (
      rw added (features_go_on c.loop.db c.args.count c.loop.counter c.loop.before c.loop.input f c.read_feature.new.input
          (features_at c.args.count None c.args.input.now) c.loop-test.true c.in_ok-feature.ensures.read c.loop.invariant.0),
      (
        sym (ap last_id added ∙ last_id-push c.loop.db f),
        (
          omega (arith, one, long, count),
          subst IsDatabase (sym added) (pushed_database c.loop.db f c.loop.invariant.1.1.1 room later),
        ),
      ),
    )

-- a feature could not be read
pub returns-in_err-feature-clause-read : goal.returns-in_err-feature-clause-read
returns-in_err-feature-clause-read c =
    let p = err_from_is_err_and c.from_residual.result c.from_residual.ensures.1 in
    rw (p.1, p.2) (features_end c.in_err-feature.field-0.0 c.loop.db c.args.count c.loop.counter c.loop.before c.loop.input
    (features_at c.args.count None c.args.input.now) c.loop-test.true c.in_err-feature.ensures.read c.loop.invariant.0)

-- all of them
pub returns-clause-read : goal.returns-clause-read
returns-clause-read c = features_done c.loop.db c.args.count c.loop.counter c.loop.before c.loop.input
    (features_at c.args.count None c.args.input.now) c.loop-test.false c.loop.invariant.0

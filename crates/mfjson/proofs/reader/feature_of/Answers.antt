use Rattle.std.proofs.Common.{◌≡◌, ℕ, ℤ, List, length, rules, refl, subst, sym, ◌∙◌}
use Rattle.std.proofs.lemmas.Result.{err_from_is_err_and}
use Rattle.serde_json.specs.View.{view}
use Rattle.tpoint.specs.Moving.{Sequence}
use Rattle.mfjson.specs.Document.{IsFeatureValue}
use Rattle.mfjson.specs.Outline.{AreTogether}
use Rattle.mfjson.proofs.FeatureLemmas.{has_read, datetime_first, coordinates_first, lengths_first, list_fault_first, feature_stands}
use Rattle.mfjson.proofs.reader.feature_of.Goals as goal

pub returns-in-Err : goal.returns-in-Err
returns-in-Err c = record { ok = tt; err = λ memory. c.in-Err.ensures }

pub returns-in_err-instants : goal.returns-in_err-instants
returns-in_err-instants c =
    let d = view c.args.value.now in
    let exit = err_from_is_err_and c.from_residual.result c.from_residual.ensures.1 in
    rw (exit.1, exit.2) (record {
      ok = tt;
      err = λ memory.
          let found = c.in_err-instants.ensures memory in
          rw found.1 (datetime_first d _ _ _ _ found.0 c.in-Ok.ensures found.2);
    })

pub returns-in_err-points : goal.returns-in_err-points
returns-in_err-points c =
    let exit = err_from_is_err_and c.from_residual-in_err-points.result c.from_residual-in_err-points.ensures.1 in
    rw exit.1 (record { ok = tt; err = λ memory. absurd (memory exit.2) })

pub returns-in_err-places-clause-err : goal.returns-in_err-places-clause-err
returns-in_err-places-clause-err c =
    let d = view c.args.value.now in
    let exit = err_from_is_err_and c.from_residual-in_err-places.result c.from_residual-in_err-places.ensures.1 in
    rw (exit.1, exit.2) (λ memory.
    let found = c.in_err-places.ensures memory in
    rw found.1 (coordinates_first d _ _ _ _ c.in_ok-instants.instants.items found.0 c.in-Ok.ensures c.in_ok-instants.ensures found.2))

pub returns-then-len-clause-err : goal.returns-then-len-clause-err
returns-then-len-clause-err c =
    let ts = c.in_ok-instants.instants.items in
    let cs = c.in_ok-places.places.items in
    let read = has_read (view c.args.value.now) _ _ _ _ ts cs c.in-Ok.ensures c.in_ok-instants.ensures c.in_ok-places.ensures in
    let instants : c.len.result ≡ length ts = search rules in
    let places : c.len-2.result ≡ length cs = search rules in
    λ memory. lengths_first (view c.args.value.now) ts cs read (λ same. c.if-len.true (instants ∙ same ∙ sym places))

pub returns-in-Ok-new-clause-ok : goal.returns-in-Ok-new-clause-ok
returns-in-Ok-new-clause-ok c =
    let d = view c.args.value.now in
    let ts = c.in_ok-instants.instants.items in
    let cs = c.in_ok-places.places.items in
    let ps = c.in_ok-points.points.items in
    let read = has_read d _ _ _ _ ts cs c.in-Ok.ensures c.in_ok-instants.ensures c.in_ok-places.ensures in
    let lent = subst (λ (us : List ℕ). AreTogether ps us c.deref-2.result.now) c.deref.ensures.value c.in_ok-points.ensures in
    let all = subst (λ (us : List (ℤ × ℤ)). AreTogether ps ts us) c.deref-2.ensures.value lent in
    let valid = c.in-Ok-new.ensures.valid.0 refl in
    let stands = feature_stands d _ c.in-Ok.outline.1 _ _ ts cs ps c.in-Ok.ensures read all valid in
    subst (λ (s : Sequence). IsFeatureValue d (record { id = c.in-Ok.outline.0; seq = s })) (sym c.in-Ok-new.ensures.value) stands

pub returns-clause-err : goal.returns-clause-err
returns-clause-err c =
    let d = view c.args.value.now in
    let ts = c.in_ok-instants.instants.items in
    let cs = c.in_ok-places.places.items in
    let ps = c.in_ok-points.points.items in
    let read = has_read d _ _ _ _ ts cs c.in-Ok.ensures c.in_ok-instants.ensures c.in_ok-places.ensures in
    let lent = subst (λ (us : List ℕ). AreTogether ps us c.deref-2.result.now) c.deref.ensures.value c.in_ok-points.ensures in
    let all = subst (λ (us : List (ℤ × ℤ)). AreTogether ps ts us) c.deref-2.ensures.value lent in
    let instants : c.len.result ≡ length ts = search rules in
    let places : c.len-2.result ≡ length cs = search rules in
    let same : length ts ≡ length cs = sym instants ∙ c.if-len.false ∙ places in
    λ memory. rw c.list_fault.ensures (list_fault_first d ts cs ps c.in-Err-new.fault read same all c.in-Err-new.ensures.fault)

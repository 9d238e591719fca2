use Rattle.std.proofs.Common.{Global, Vec, ◌≡◌, ◌≢◌, ◌++◌, ◌∷◌, [], ℕ, List, Contains, Some, slice_get, length, refl, sym, ap, subst, ◌∙◌, arith}
use Rattle.std.proofs.lemmas.List.{length_push, take_all}
use Rattle.std.proofs.lemmas.List.Quantifiers.{all_pairs_push}
use Rattle.std.proofs.lemmas.Option.{slice_get_read}
use Rattle.sessions.specs.declared.submission.Submission.{Submission}
use Rattle.verdicts.proofs.SearchLemmas.{each_added, take_front, whole_added, whole_kept}
use Rattle.verdicts.proofs.search.add_operations.Goals as goal
use Rattle.verdicts.proofs.search.add_operations.Goals.{then-is_new+in_ok-push, else-is_new}

pub loop-place-preserved : goal.loop-place-preserved
loop-place-preserved c =
    let requests = c.args.requests.now in
    let place : ℕ = c.loop-place.place in
    let r : Submission = c.index-requests-place.result in
    let here : slice_get requests place ≡ Some r =
    slice_get_read requests (length requests) place r refl c.loop-place-test.true c.index-requests-place.is in
    let was = c.loop-place.invariant in
    elim c.if-is_new.branch [
      | then-is_new+in_ok-push w ↦
          let items : c.if-is_new.places.items ≡ c.loop-place.places.items ++ place ∷ [] =
          ap (λ (v : Vec ℕ Global). v.items) w.places-is ∙ w.in_ok-push.ensures.items in
          let unlisted = rw c.deref.ensures.value at c.is_new.ensures.unlisted w.if-is_new.true in
          rw items (record {
            each = each_added requests c.args.client c.args.number c.loop-place.places.items place r here was.each was.whole
                (c.is_new.ensures.wanted w.if-is_new.true);
            unlike = all_pairs_push (λ (a b : ℕ). slice_get requests a ≢ slice_get requests b) c.loop-place.places.items place was.unlike
                (λ k d within e. unlisted k d within (e ∙ here));
            grows = let more = length_push c.loop-place.places.items place in let grows = was.grows in omega (arith, more, grows);
            keeps = take_front (length c.args.places.now.items) c.loop-place.places.items (place ∷ []) was.grows ∙ was.keeps;
            whole = whole_added requests c.args.client c.args.number c.loop-place.places.items place r here was.each was.whole;
          })
      | else-is_new w ↦
          let items : c.if-is_new.places.items ≡ c.loop-place.places.items = ap (λ (v : Vec ℕ Global). v.items) w.places-is in
          let listed = rw c.deref.ensures.value at c.is_new.ensures.listed w.if-is_new.false in
          rw items (record {
            each = was.each;
            unlike = was.unlike;
            grows = was.grows;
            keeps = was.keeps;
            whole = whole_kept requests c.args.client c.args.number c.loop-place.places.items place r here was.each was.whole listed;
          })
    ]

pub returns-clause-operations : goal.returns-clause-operations
returns-clause-operations c = record {
  each = c.loop-place.invariant.each;
  whole = λ r there is.
      c.loop-place.invariant.whole r
      (subst (λ (l : List Submission). Contains l r) (sym (take_all c.loop-place.place c.args.requests.now c.loop-place-test.false)) there) is;
}

use Rattle.std.proofs.Common.{◌≡◌, ◌<◌, Some, length, slice_get, refl, sym, ap, ◌∙◌, rules}
use Rattle.std.proofs.lemmas.Option.{slice_get_read}
use Rattle.sessions.specs.declared.submission.Submission.{Submission}
use Rattle.verdicts.proofs.search.stands_at.Goals as goal

pub returns : goal.returns
returns c =
    let within : c.args.place < length c.args.requests.now = search rules in
    let read : slice_get c.args.requests.now c.args.place ≡ Some c.index-requests-place.result =
    slice_get_read c.args.requests.now (length c.args.requests.now) c.args.place c.index-requests-place.result refl within
    c.index-requests-place.is in (
      λ yes. read ∙ ap (λ (r : Submission). Some r) (c.eq.ensures.same.0 yes),
      λ there. c.eq.ensures.same.1 (let e : Some c.index-requests-place.result ≡ Some c.args.request.now = sym read ∙ there in cc),
    )

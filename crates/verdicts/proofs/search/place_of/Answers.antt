use Rattle.std.proofs.Common.{ℕ, List, count_by, length, refl, sym, ap, ◌∙◌, arith}
use Rattle.std.proofs.lemmas.List.{take_all}
use Rattle.std.proofs.lemmas.List.Sums.{count_by_more_no, count_by_more_yes}
use Rattle.std.proofs.lemmas.Option.{slice_get_read}
use Rattle.sessions.specs.declared.submission.Submission.{Submission}
use Rattle.verdicts.specs.Search.{is_known_by}
use Rattle.verdicts.proofs.search.place_of.Goals as goal
use Rattle.verdicts.proofs.search.place_of.Goals.{then-is_of+else-left-eq0, else-is_of}

pub loop-place-init : goal.loop-place-init
loop-place-init c = omega arith

pub returns-then-left-eq0 : goal.returns-then-left-eq0
returns-then-left-eq0 c = record {
  operation = record {
    request = c.index-requests-place.result;
    there = slice_get_read c.args.requests.now (length c.args.requests.now) c.loop-place.place c.index-requests-place.result refl
        c.loop-place-test.true c.index-requests-place.is;
    is_of = c.is_of.ensures.is_of.0 c.if-is_of.true;
  };
  others = let met = c.loop-place.invariant in let none = c.if-left-eq0.true in grind arith;
}

pub loop-place-preserved : goal.loop-place-preserved
loop-place-preserved c =
    let at : ℕ = c.loop-place.place in
    let is = c.is_of.ensures.known ∙ ap (is_known_by c.args.client c.args.number) c.index-requests-place.is in
    let met = c.loop-place.invariant in
    elim c.if-is_of.branch [
      | then-is_of+else-left-eq0 w ↦
          let more = count_by_more_yes (is_known_by c.args.client c.args.number) c.args.requests.now at _ c.loop-place-test.true
          (sym is ∙ w.if-is_of.true) in
          let less = w.left-is in let some = w.if-left-eq0.false in grind arith
      | else-is_of w ↦
          let more = count_by_more_no (is_known_by c.args.client c.args.number) c.args.requests.now at _ c.loop-place-test.true
          (sym is ∙ w.if-is_of.false) in
          let same = w.left-is in omega (arith, met, more, same)
    ]

pub returns : goal.returns
returns c =
    let met = c.loop-place.invariant in
    let all = ap (λ (l : List Submission). count_by (is_known_by c.args.client c.args.number) l)
    (take_all c.loop-place.place c.args.requests.now c.loop-place-test.false) in
    omega (arith, met, all)

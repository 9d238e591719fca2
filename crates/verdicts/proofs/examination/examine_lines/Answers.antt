use Rattle.std.proofs.Common.{◌≡◌, inl, inr, length, All, refl, sym, subst, ◌∙◌, false, true}
use Rattle.std.proofs.lemmas.Bool.{cases_Bool}
use Rattle.std.proofs.lemmas.List.{take_all}
use Rattle.std.proofs.lemmas.List.Elements.{All-more, All-nil}
use Rattle.std.proofs.lemmas.Option.{slice_get_read}
use Rattle.verdicts.specs.Explaining.{HasTold}
use Rattle.verdicts.specs.declared.lines.ToldLine.{ToldLine}
use Rattle.verdicts.proofs.examination.examine_lines.Goals as goal
use Rattle.verdicts.proofs.examination.examine_lines.Goals.{in-Explained, in-Undecided}

pub loop-at-init : goal.loop-at-init
loop-at-init c = record {
  at = c.new-cursor.ensures.at c.args.commands.now;
  explains = λ e l begins. All-nil (λ (line : ToldLine). HasTold c.args.questions.now l line.told);
  rests = λ e. absurd (let h : false ≡ true = e in cc);
}

pub returns-in-Contradicted : goal.returns-in-Contradicted
returns-in-Contradicted c = record {
  line = c.index-told-at.result;
  there = slice_get_read c.args.told.now (length c.args.told.now) c.loop-at.at c.index-told-at.result refl c.loop-at-test.true
      c.index-told-at.is;
  contradicts = rw c.in-Contradicted.is at c.in_ok-examine.ensures.found;
  explains = λ later. c.loop-at.invariant.explains (c.is_enough.ensures.more c.if-is_enough.false later);
}

pub loop-at-preserved : goal.loop-at-preserved
loop-at-preserved c =
    let was = c.loop-at.invariant in
    elim c.match-branch-3.branch [
      | in-Explained w ↦
          let found = rw w.in-Explained.is at c.in_ok-examine.ensures.found in
          record {
            at = c.in_ok-examine.ensures.at;
            explains = λ e l begins.
                let P : ToldLine → Type 0 = λ line. HasTold c.args.questions.now l line.told in
                All-more P c.args.told.now c.loop-at.at c.index-told-at.result c.loop-at-test.true
                (was.explains (sym w.is_undecided-is ∙ e) l begins) (subst P c.index-told-at.is (found l begins));
            rests = λ e. was.rests (sym w.is_undecided-is ∙ e);
          }
      | in-Undecided w ↦
          let found = rw w.in-Undecided.is at c.in_ok-examine.ensures.found in
          record {
            at = c.in_ok-examine.ensures.at;
            explains = λ e. absurd (let f : true ≡ false = sym w.is_undecided-is ∙ e in cc);
            rests = λ e. elim (cases_Bool c.loop-at.is_undecided) [
              | inl before ↦ was.rests before
              | inr now ↦
                  record {
                    below = found.0;
                    before = c.loop-at.at;
                    line = c.index-told-at.result;
                    there = slice_get_read c.args.told.now (length c.args.told.now) c.loop-at.at c.index-told-at.result refl
                        c.loop-at-test.true c.index-told-at.is;
                    rests = found.1;
                    explained = was.explains now;
                  }
            ];
          }
    ]

pub returns : goal.returns
returns c = λ l begins.
    let P : ToldLine → Type 0 = λ line. HasTold c.args.questions.now l line.told in
    subst (All P) (take_all c.loop-at.at c.args.told.now c.loop-at-test.false)
    (c.loop-at.invariant.explains c.if-is_undecided.false l begins)

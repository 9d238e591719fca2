use Rattle.std.proofs.Common.{◌≡◌, ◌∙◌, ◌++◌, List, ℕ, OnOk, codes, ap, subst}
use Rattle.picture.specs.Elements.{opened}
use Rattle.diagram.specs.Facts.{frame_text}
use Rattle.diagram.specs.Titles.{fate_text, title_text}
use Rattle.diagram.proofs.arrow_lines.open_frame.Goals as goal

-- the title is what was added to nothing: what the frame is, and what became of it
pub returns : goal.returns
unfolding title_text
returns c =
    let said : List ℕ = frame_text c.args.arrow.now.frame c.args.arrow.now.from c.args.arrow.now.to c.args.facts.now in
    let fate : List ℕ = fate_text c.args.arrow.now.fate in
    let is : c.as_slice.result.now ≡ said ++ fate =
    c.as_slice.ensures.value ∙ c.in_ok-push_fate.ensures
    ∙ ap (λ (t : List ℕ). t ++ fate) (c.in_ok-push_frame.ensures ∙ ap (λ (t : List ℕ). t ++ said) c.new-title.ensures.items) in
    subst (λ (t : List ℕ). OnOk c.open.result (c.open.new.self ≡ c.args.picture.now ++ opened (codes "frame") t)) is c.open.ensures

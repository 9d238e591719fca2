use Rattle.std.proofs.Common.{◌≡◌, ◌∙◌, ◌++◌, List, ℕ, length, ap, codes}
use Rattle.picture.specs.Elements.{words_text}
use Rattle.diagram.specs.Drawn.{IsHead, heading}
use Rattle.diagram.specs.declared.space_time.TheConstants.{MEANINGS}
use Rattle.diagram.proofs.Drawings.{adds_two}
use Rattle.diagram.proofs.space_time.draw_head.Goals as goal

pub returns : goal.returns
returns c =
    let frames = length c.args.scene.now.frames.now in
    let nodes = c.args.scene.now.nodes in
    let head : List ℕ → List ℕ = λ t. words_text (codes "head") (record { x = 1000; y = 1400 }) t in
    let note : List ℕ = words_text (codes "note") (record { x = 1000; y = 2400 }) MEANINGS.now in
    let said : c.as_slice.result.now ≡ heading c.args.window frames nodes =
    c.as_slice.ensures.value ∙ c.in_ok-push_heading.ensures
    ∙ ap (λ (t : List ℕ). t ++ heading c.args.window frames nodes) c.new-text.ensures.items in
    let is : IsHead frames nodes c.args.window (head c.as_slice.result.now ++ note) =
    record { meanings = MEANINGS.now; is = ap (λ (t : List ℕ). head t ++ note) said } in
    adds_two c.text-2.result (IsHead frames nodes c.args.window) (head c.as_slice.result.now) note c.args.picture.now c.text.new.self
    c.text-2.new.self is c.in_ok-text.ensures c.text-2.ensures

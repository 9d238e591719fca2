use Rattle.std.proofs.Common.{◌∙◌, ◌++◌, ◌≡◌, List, ℕ, codes, append_assoc, ap}
use Rattle.story.specs.Members.{json_text}
use Rattle.story.specs.Saying.{object_begin}
use Rattle.story.proofs.objects.line_object.Goals as goal

-- the begin of the object, its two members and its end
pub returns : goal.returns
returns c =
    let kind : List ℕ = codes "\"line\",\"text\":" in
    let text : List ℕ = json_text c.args.line.now in
    let quoted : c.push_quoted.new.text.items ≡ object_begin c.args.number ++ kind ++ text =
    c.in_ok-push_quoted.ensures ∙ ap (λ (t : List ℕ). t ++ text)
    (c.in_ok-extend_from_slice.ensures.items ∙ ap (λ (t : List ℕ). t ++ kind) c.in_ok-text.ensures) in
    c.in_ok-extend_from_slice-2.ensures.items ∙ ap (λ (t : List ℕ). t ++ codes "}") quoted ∙ simp append_assoc

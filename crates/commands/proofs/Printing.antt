-- What a stream takes in parts.
use Rattle.std.proofs.Common.{◌≡◌, ℕ, List, [], ◌∷◌, ◌++◌, Option, refl, ap, ◌∙◌, subst}
use Rattle.std.specs.List.{FoldsTo, concat}
use Rattle.std.proofs.KnownBytes.{Appends-nil, Appends-trans}
use Rattle.commands.specs.Streams.{Stream, Takes}
use Rattle.replay.specs.Parts.{TakesInParts}

module _ {W : Type 0} (contents : W → Option (List ℕ)) where
  abbrev Took : Stream W → List ℕ → Stream W → Type 0
  Took old bytes new = Takes contents old new bytes

  taken : (old new : Stream W) (parts : List (List ℕ)) → FoldsTo Took old parts new → Takes contents old new (concat parts)
  taken old new [] same =
      subst (λ (s : Stream W). Takes contents old s []) same (record { bytes = Appends-nil (contents old.inner); sound = refl })
  taken old new (x ∷ xs) (next, took, rest) =
      let more = taken next new xs rest in record {
        bytes = Appends-trans (contents old.inner) (contents next.inner) (contents new.inner) x (concat xs) took.bytes more.bytes;
        sound = more.sound ∙ took.sound;
      }

  -- a stream that took the parts of a text took the text
  pub takes_text : (old new : Stream W) (waited text : List ℕ) → waited ≡ [] → TakesInParts Took old (waited ++ text) new
      → Takes contents old new text
  takes_text old new waited text none parts =
      subst (λ (t : List ℕ). Takes contents old new t) (parts.joined ∙ ap (λ (l : List ℕ). l ++ text) none) (taken old new parts.parts parts.taken)

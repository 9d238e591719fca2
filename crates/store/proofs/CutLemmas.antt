-- What is said of a cut.
use Rattle.std.proofs.Common.{◌≡◌, ℕ, List, Option, Some, MatchOption, inl, subst}
use Rattle.tpoint.specs.Moving.{Sequence}
use Rattle.tpoint.specs.Extents.{Span}
use Rattle.restrict.specs.Cuts.{IsCut, HasNoCut, part_of}
use Rattle.restrict.specs.declared.part.Cut.{Cut}
use Rattle.store.specs.Answers.{SaysCut, part_text}

-- the text of a cut says it
pub cut_told : (s : Sequence) (p : Span) (found : Option Cut) (part : Cut) →
    MatchOption found (HasNoCut s p) (λ c. IsCut s p (part_of c)) → found ≡ Some part →
    (text : List ℕ) → text ≡ part_text part.interp part.begin_in part.end_in part.points.items → SaysCut s p text
cut_told s p found part is_cut is_some text spelled =
    inl (record {
      interp = part.interp;
      begin_in = part.begin_in;
      end_in = part.end_in;
      fixes = part.points.items;
      is_cut = subst (λ (o : Option Cut). MatchOption o (HasNoCut s p) (λ c. IsCut s p (part_of c))) is_some is_cut;
      spelling = spelled;
    })

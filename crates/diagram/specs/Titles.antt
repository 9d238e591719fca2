-- What the title of a frame says.
use Rattle.std.specs.Prelude.{ℕ, List, ◌++◌, codes}
use Rattle.diagram.specs.Facts.{frame_text}
use Rattle.diagram.specs.declared.arrows.Arrow.{Arrow}
use Rattle.diagram.specs.declared.arrows.Fate.{Fate}
use Rattle.diagram.specs.declared.arrows.Fate.TheVariants.{Came, Dropped, Waits}
use Rattle.diagram.specs.declared.facts.Facts.{Facts}

abbrev pub fate_text : Fate → List ℕ
fate_text (Came step) = codes ", delivered"
fate_text Dropped = codes ", dropped"
fate_text Waits = codes ", waits"

-- what a frame is, and what became of it
unfoldable pub title_text : Arrow → Facts → List ℕ
title_text arrow facts = frame_text arrow.frame arrow.from arrow.to facts ++ fate_text arrow.fate

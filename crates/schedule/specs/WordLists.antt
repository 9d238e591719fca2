-- Words that belong together, in their order.
use Rattle.std.specs.Prelude.{ℕ, List, [], ◌∷◌}
use Rattle.schedule.specs.declared.words.PeriodWords.{PeriodWords}
use Rattle.schedule.specs.declared.words.RectWords.{RectWords}

abbrev pub period_words : PeriodWords → List (List ℕ)
period_words w = w.begin.now ∷ w.end.now ∷ []

abbrev pub rect_words : RectWords → List (List ℕ)
rect_words w = w.x0.now ∷ w.y0.now ∷ w.x1.now ∷ w.y1.now ∷ []

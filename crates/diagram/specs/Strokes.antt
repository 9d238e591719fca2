-- The line of a frame, by what became of it.
use Rattle.std.specs.Prelude.{◌==◌, ℕ, ◌+◌, ◌*◌, ◌/◌, List, [], ◌∷◌, ◌++◌, codes, slice_index_or, if◌then◌else◌}
use Rattle.picture.specs.Elements.{arrow_text, line_text}
use Rattle.picture.specs.declared.canvas.Place.{Place}
use Rattle.diagram.specs.Places.{down, further, lane, place}
use Rattle.diagram.specs.declared.arrows.Arrow.{Arrow}
use Rattle.diagram.specs.declared.arrows.Fate.{Fate}
use Rattle.diagram.specs.declared.arrows.Fate.TheVariants.{Came, Dropped, Waits}

-- eight colours for ballots, and one for a frame without a ballot
abbrev pub color_texts : List (List ℕ)
color_texts = codes "b0" ∷ codes "b1" ∷ codes "b2" ∷ codes "b3" ∷ codes "b4" ∷ codes "b5" ∷ codes "b6" ∷ codes "b7" ∷ []

abbrev pub color_text : ℕ → List ℕ
color_text color = slice_index_or color_texts color (codes "none")

abbrev pub came_class : ℕ → List ℕ
came_class color = codes "came " ++ color_text color

abbrev pub lost_class : ℕ → List ℕ
lost_class color = codes "lost " ++ color_text color

abbrev pub waits_class : ℕ → List ℕ
waits_class color = codes "waits " ++ color_text color

-- where the line of a frame goes: to its receiver's lane, or a little off the lane, where that is its sender's
abbrev pub aim : ℕ → Arrow → ℕ
aim nodes arrow = if arrow.from == arrow.to then lane nodes arrow.from + 1000 else lane nodes arrow.to

-- where it begins: on its sender's lane, at the step at which it was sent
abbrev pub begin : ℕ → List ℕ → Arrow → Place
begin nodes ends arrow = place nodes ends arrow.from arrow.sent

-- where the line of a dropped frame ends: two thirds of the way, a little below the step at which it was sent
abbrev pub dropped_end : ℕ → List ℕ → Arrow → Place
dropped_end nodes ends arrow = record {
  x = (lane nodes arrow.from + 2 * aim nodes arrow) / 3;
  y = further (down ends arrow.sent) 300;
}

-- that of one that waits: at its aim, a little further down
abbrev pub waiting_end : ℕ → List ℕ → Arrow → Place
waiting_end nodes ends arrow = record { x = aim nodes arrow; y = further (down ends arrow.sent) 450 }

-- where a frame from a node to itself turns back to the lane: halfway down to the step at which it came
abbrev pub bend : ℕ → List ℕ → Arrow → ℕ → Place
bend nodes ends arrow step = record { x = aim nodes arrow; y = (down ends arrow.sent + down ends step) / 2 }

-- the line of a frame that came has its head on the receiver's lane, at the step at which it came; from a node to itself it goes off the
-- lane and back to it
abbrev pub came_text : ℕ → List ℕ → Arrow → ℕ → ℕ → List ℕ
came_text nodes ends arrow step color = if arrow.from == arrow.to
    then line_text (came_class color) (begin nodes ends arrow) (bend nodes ends arrow step)
    ++ arrow_text (came_class color) (bend nodes ends arrow step) (place nodes ends arrow.to step)
    else arrow_text (came_class color) (begin nodes ends arrow) (place nodes ends arrow.to step)

-- that of a dropped one has no head, and that of one that waits has its head at its end
abbrev pub fate_stroke : Fate → ℕ → List ℕ → Arrow → ℕ → List ℕ
fate_stroke (Came step) nodes ends arrow color = came_text nodes ends arrow step color
fate_stroke Dropped nodes ends arrow color = line_text (lost_class color) (begin nodes ends arrow) (dropped_end nodes ends arrow)
fate_stroke Waits nodes ends arrow color = arrow_text (waits_class color) (begin nodes ends arrow) (waiting_end nodes ends arrow)

abbrev pub stroke_text : ℕ → List ℕ → Arrow → ℕ → List ℕ
stroke_text nodes ends arrow color = fate_stroke arrow.fate nodes ends arrow color

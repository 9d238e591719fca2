-- The signs on the lanes.
use Rattle.std.specs.Prelude.{◌==◌, ◌&&◌, ℕ, ◌-◌, ◌≤◌, List, slice_index_or, codes}
use Rattle.std.specs.List.{count_by}
use Rattle.picture.specs.Elements.{circle_text, rectangle_text}
use Rattle.picture.specs.declared.canvas.Place.{Place}
use Rattle.diagram.specs.declared.scene.Mark.{Mark}
use Rattle.diagram.specs.declared.scene.Sign.{Sign}
use Rattle.diagram.specs.declared.scene.Sign.TheVariants.{Submitted, TimedOut, Learnt, Replied, Answered, Lost, Refused, Stopped, Restarted, Restored, Other}

-- a square around a place
abbrev pub square_text : List ℕ → Place → List ℕ
square_text class at = rectangle_text class (record { x = at.x - 200; y = at.y - 200 }) 400 400

-- the shape of each sign, and its class: circles, and squares for what was refused and for a node that stops and begins again
abbrev pub sign_text : Sign → Place → List ℕ
sign_text Learnt at = circle_text (codes "sign learnt") at 220
sign_text Replied at = circle_text (codes "sign replied") at 220
sign_text Answered at = circle_text (codes "sign answered") at 220
sign_text Lost at = square_text (codes "sign missed") at
sign_text Refused at = square_text (codes "sign refused") at
sign_text Stopped at = square_text (codes "sign stopped") at
sign_text Restarted at = square_text (codes "sign") at
sign_text Restored at = square_text (codes "sign restored") at
sign_text Submitted at = circle_text (codes "sign") at 150
sign_text TimedOut at = circle_text (codes "sign") at 150
sign_text Other at = circle_text (codes "sign") at 150

-- ---- signs beside each other
-- how many of these marks a node has at a step
abbrev pub marks_at : List Mark → ℕ → ℕ → ℕ
marks_at marks node step = count_by (λ m. m.node == node && m.step == step) marks

-- on the lane of each node no more are counted than these marks are at the step
pub record AreCounted (marks : List Mark) (step : ℕ) (lanes : List ℕ) : Type 0 where
  pub each : (node : ℕ) → slice_index_or lanes node 0 ≤ marks_at marks node step

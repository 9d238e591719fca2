-- How the things of a picture are drawn.
use Rattle.std.specs.Prelude.{◌≡◌, ℕ, ◌+◌, ◌-◌, ◌*◌, ◌^◌, ◌<◌, ◌≤◌, nat_lt, List, [], ◌∷◌, ◌++◌, codes, decimal, take, slice_get, Some, if◌then◌else◌}
use Rattle.picture.specs.Elements.{closed, line_text, opened, words_text}
use Rattle.picture.specs.declared.canvas.Place.{Place}
use Rattle.wire.specs.declared.frames.envelope.Envelope.{Envelope}
use Rattle.diagram.specs.Facts.{facts_of, kind_text}
use Rattle.diagram.specs.Places.{Stands, down, further, lane}
use Rattle.diagram.specs.Signs.{marks_at, sign_text}
use Rattle.diagram.specs.Strokes.{stroke_text}
use Rattle.diagram.specs.Titles.{title_text}
use Rattle.diagram.specs.declared.arrows.Arrow.{Arrow}
use Rattle.diagram.specs.declared.facts.Facts.{Facts}
use Rattle.diagram.specs.declared.layout.Window.{Window}
use Rattle.diagram.specs.declared.scene.Label.{Label}
use Rattle.diagram.specs.declared.scene.Mark.{Mark}
use Rattle.diagram.specs.declared.scene.Scene.{Scene}

-- behind the old text stands such a part, and nothing else
pub record Adds (IsSuch : List ℕ → Type 0) (old new : List ℕ) : Type 0 where
  pub part : List ℕ
  pub such : IsSuch part
  pub is : new ≡ old ++ part

-- behind the old text stand these things in their order, each as it is drawn, and nothing else
pub data Draws {A : Type 0} (IsDrawn : A → List ℕ → Type 0) (old : List ℕ) : List A → List ℕ → Type 0 where
  none : Draws IsDrawn old [] old
  more : (things : List A) (thing : A) (now new : List ℕ) → Draws IsDrawn old things now → Adds (IsDrawn thing) now new
      → Draws IsDrawn old (things ++ thing ∷ []) new

-- a group is closed behind what stands in it
abbrev pub group : List ℕ → List ℕ → List ℕ → List ℕ
group class title inside = opened class title ++ (inside ++ closed)

-- ---- the head, and the lanes
-- which frames are shown, of how many: `frames 0 to 17 of 18, 3 nodes`
abbrev pub heading : Window → ℕ → ℕ → List ℕ
heading window frames nodes = if nat_lt window.first window.end
    then codes "frames " ++ (decimal window.first ++ (codes " to " ++ (decimal (window.end - 1) ++ (codes " of " ++ (decimal frames
    ++ (codes ", " ++ (decimal nodes ++ codes " nodes")))))))
    else codes "no frame of " ++ (decimal frames ++ (codes ", " ++ (decimal nodes ++ codes " nodes")))

-- that, and a note that is the same in each picture
pub record IsHead (frames nodes : ℕ) (window : Window) (text : List ℕ) : Type 0 where
  pub meanings : List ℕ
  pub is : text ≡ words_text (codes "head") (record { x = 1000; y = 1400 }) (heading window frames nodes)
      ++ words_text (codes "note") (record { x = 1000; y = 2400 }) meanings

-- the lane of a node down to the bottom, and the node's number above it
abbrev pub lane_text : ℕ → ℕ → ℕ → List ℕ
lane_text nodes bottom node = words_text (codes "head") (record { x = lane nodes node - 1200; y = 3600 }) (codes "node " ++ decimal node)
    ++ line_text (codes "lane") (record { x = lane nodes node; y = 3800 }) (record { x = lane nodes node; y = bottom })

abbrev pub IsLane : ℕ → ℕ → ℕ → List ℕ → Type 0
IsLane nodes bottom node text = text ≡ lane_text nodes bottom node

-- ---- the lines of the schedule
-- the first 56 bytes of a line, left of the lanes, not below its step, and below the steps above that, unless it is at the greatest number
pub record IsLine (ends : List ℕ) (label : Label) (text : List ℕ) : Type 0 where
  pub height : ℕ
  pub above : height ≤ down ends label.step
  pub below : (i : ℕ) → i < label.step → Stands ends i → down ends label.step < 2 ^ 32 - 1 → down ends i + 450 ≤ height
  pub is : text ≡ words_text (codes "line") (record { x = 1000; y = height }) (take 56 label.text.items)

-- ---- the frames
-- the kind of a frame, left of its sender's lane below the step at which it was sent
abbrev pub beside : ℕ → List ℕ → Arrow → Place
beside nodes ends arrow = record { x = lane nodes arrow.from - 200; y = further (down ends arrow.sent) 600 }

-- or nothing, where another word stands there
pub data MayTell (nodes : ℕ) (ends : List ℕ) (arrow : Arrow) (kind : List ℕ) : List ℕ → Type 0 where
  told : MayTell nodes ends arrow kind (words_text (codes "kind") (beside nodes ends arrow) kind)
  untold : MayTell nodes ends arrow kind []

-- a group with a frame's title and its line, and maybe its kind behind it
pub record IsTold (nodes : ℕ) (ends : List ℕ) (arrow : Arrow) (facts : Facts) (text : List ℕ) : Type 0 where
  pub color : ℕ
  pub kind : List ℕ
  pub told : MayTell nodes ends arrow (kind_text facts.kind) kind
  pub is : text ≡ group (codes "frame") (title_text arrow facts) (stroke_text nodes ends arrow color) ++ kind

-- that of the frame of this number
pub record IsFrame (s : Scene) (ends : List ℕ) (arrow : Arrow) (text : List ℕ) : Type 0 where
  pub frame : Envelope
  pub there : slice_get s.frames.now arrow.frame ≡ Some frame
  pub told : IsTold s.nodes ends arrow (facts_of frame.message) text

-- ---- the marks
-- a group with a mark's title, its sign at a place, and its note right of that
abbrev pub mark_text : Place → Mark → List ℕ
mark_text sign m = group (codes "mark") m.title.items (sign_text m.sign sign
    ++ words_text (codes "note") (record { x = further sign.x 350; y = sign.y - 60 }) m.note.items)

-- the place of a sign: at the height of its step, on the lane of its node, or right of it behind so many others
abbrev pub sign_place : ℕ → List ℕ → Mark → ℕ → Place
sign_place nodes ends m others = record { x = further (lane nodes m.node) (others * 3400); y = down ends m.step }

-- there are fewer others than marks of its node at its step: so one that is alone stands on the lane
pub record IsMark (nodes : ℕ) (marks : List Mark) (ends : List ℕ) (m : Mark) (text : List ℕ) : Type 0 where
  pub others : ℕ
  pub fewer : others < marks_at marks m.node m.step
  pub is : text ≡ mark_text (sign_place nodes ends m others) m

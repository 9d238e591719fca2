-- What a picture of a run shows.
use Rattle.std.specs.Prelude.{◌≡◌, ℕ, ◌*◌, ◌<◌, ◌≤◌, List, ◌++◌, length, slice_get, slice_index_or, Option, Some}
use Rattle.std.specs.List.{range_with_len}
use Rattle.picture.specs.Elements.{picture_begun, picture_ended}
use Rattle.wire.specs.declared.frames.envelope.Envelope.{Envelope}
use Rattle.diagram.specs.Arrows.{AreArrows}
use Rattle.diagram.specs.Drawn.{Adds, Draws, IsFrame, IsHead, IsLane, IsLine, IsMark}
use Rattle.diagram.specs.Shown.{DrawsStanding, IsLayout, label_step, mark_step}
use Rattle.diagram.specs.Windows.{IsChosen}
use Rattle.diagram.specs.declared.arrows.Arrow.{Arrow}
use Rattle.diagram.specs.declared.layout.Window.{Window}
use Rattle.diagram.specs.declared.scene.Scene.{Scene}

-- the frame of an arrow is there
pub record IsThere (frames : List Envelope) (arrow : Arrow) : Type 0 where
  pub frame : Envelope
  pub is : slice_get frames arrow.frame ≡ Some frame

pub record AreThere (frames : List Envelope) (arrows : List Arrow) : Type 0 where
  pub each : (i : ℕ) (d : Arrow) → i < length arrows → IsThere frames (slice_index_or arrows i d)

-- behind the old text stands each frame of the window and no other one, in the order of their numbers
pub record DrawsFrames (s : Scene) (window : Window) (ends old new : List ℕ) : Type 0 where
  pub arrows : List Arrow
  pub are : AreArrows s.frames.now s.waiting.now s.passages.now window.first window.end arrows
  pub drawn : Draws (IsFrame s ends) old arrows new

-- the text is a picture of so many units, in its style, with a place for each step of which it shows something, and high enough for all:
-- the head, the lanes, as long as their steps, the lines of the schedule, the frames, and the marks, and nothing else
pub record AreDrawn (s : Scene) (window : Window) (text : List ℕ) : Type 0 where
  pub width : ℕ
  pub height : ℕ
  pub style : List ℕ
  pub ends : List ℕ
  pub bottom : ℕ
  pub layout : IsLayout s window ends bottom
  pub high : bottom ≤ height * 100
  pub behind_head : List ℕ
  pub head : Adds (IsHead (length s.frames.now) s.nodes window) (picture_begun width height style) behind_head
  pub behind_lanes : List ℕ
  pub lanes : Draws (IsLane s.nodes bottom) behind_head (range_with_len 0 s.nodes) behind_lanes
  pub behind_labels : List ℕ
  pub labels : DrawsStanding label_step (IsLine ends) ends s.labels.now behind_lanes behind_labels
  pub behind_frames : List ℕ
  pub frames : DrawsFrames s window ends behind_labels behind_frames
  pub body : List ℕ
  pub marks : DrawsStanding mark_step (IsMark s.nodes s.marks.now ends) ends s.marks.now behind_frames body
  pub is : text ≡ body ++ picture_ended

-- there is a flag and a passage for each frame
pub record IsWhole (s : Scene) : Type 0 where
  pub waiting : length s.waiting.now ≡ length s.frames.now
  pub passages : length s.passages.now ≡ length s.frames.now

-- a window of the frames that are asked for is drawn
pub record ShowsAsked (s : Scene) (from to : Option ℕ) (text : List ℕ) : Type 0 where
  pub window : Window
  pub chosen : IsChosen (length s.frames.now) from to window
  pub drawn : IsWhole s → AreDrawn s window text

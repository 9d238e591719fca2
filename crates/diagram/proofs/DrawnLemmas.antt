-- From what each function draws to the picture.
use Rattle.std.proofs.Common.{◌≡◌, ◌∙◌, ℕ, ◌+◌, ◌*◌, ◌<◌, ◌≤◌, List, ◌++◌, length, take, slice_index_or, slice_get, Option, Some, None, Result, Ok, Err, OnOk, IfOk, refl, sym, ap, subst}
use Rattle.std.specs.List.{range_with_len}
use Rattle.std.proofs.lemmas.Option.{none-some}
use Rattle.std.proofs.lemmas.Result.{on_ok_weaker}
use Rattle.picture.specs.Elements.{picture_begun, picture_ended}
use Rattle.wire.specs.declared.frames.envelope.Envelope.{Envelope}
use Rattle.diagram.specs.Arrows.{AreArrows, IsArrow}
use Rattle.diagram.specs.Drawn.{Adds, Draws, IsFrame, IsHead, IsLane, IsLine, IsMark, IsTold, lane_text, more}
use Rattle.diagram.specs.Facts.{facts_of}
use Rattle.diagram.specs.Pictures.{AreDrawn, AreThere, DrawsFrames, IsThere, IsWhole, ShowsAsked}
use Rattle.diagram.specs.Shown.{DrawsStanding, IsLayout, label_step, mark_step}
use Rattle.diagram.specs.Windows.{IsChosen}
use Rattle.diagram.specs.declared.arrows.Arrow.{Arrow}
use Rattle.diagram.specs.declared.layout.Window.{Window}
use Rattle.diagram.specs.declared.scene.Scene.{Scene}
use Rattle.diagram.proofs.ListLemmas.{range_to, take_so_far}

-- ---- lanes
pub one_more_lane : (nodes bottom n : ℕ) (a b c : List ℕ) → Draws (IsLane nodes bottom) a (range_with_len 0 n) b
    → c ≡ b ++ lane_text nodes bottom n → Draws (IsLane nodes bottom) a (range_with_len 0 (n + 1)) c
one_more_lane nodes bottom n a b c before now =
    subst (λ (ns : List ℕ). Draws (IsLane nodes bottom) a ns c) (range_to n)
    (more (range_with_len 0 n) n b c before (record { part = lane_text nodes bottom n; such = refl; is = now }))

-- ---- the frame of an arrow
-- of an arrow that is one of a frame it is there
there : (s : Scene) (k : ℕ) (arrow : Arrow) → IsArrow s.frames.now s.waiting.now s.passages.now k arrow → IsThere s.frames.now arrow
there s k arrow is = record {
  frame = is.frame;
  is = subst (λ (n : ℕ). slice_get s.frames.now n ≡ Some is.frame) (sym (ap (λ (a : Arrow). a.frame) is.is)) is.sent;
}

pub all_there : (s : Scene) (first end : ℕ) (arrows : List Arrow)
    → AreArrows s.frames.now s.waiting.now s.passages.now first end arrows → AreThere s.frames.now arrows
all_there s first end arrows are = record { each = λ i d below. there s (first + i) (slice_index_or arrows i d) (are.each i d below) }

module _ (s : Scene) (ends : List ℕ) (arrow : Arrow) (a b : List ℕ) where
  -- it is told by the frame that was found
  found : (f : Envelope) → slice_get s.frames.now arrow.frame ≡ Some f → Adds (IsTold s.nodes ends arrow (facts_of f.message)) a b
      → IsThere s.frames.now arrow → Adds (IsFrame s ends arrow) a b
  found f at told there = record { part = told.part; such = record { frame = f; there = at; told = told.such }; is = told.is }

  pub found_told : {T E : Type 0} (r : Result T E) (f : Envelope) → slice_get s.frames.now arrow.frame ≡ Some f
      → OnOk r (Adds (IsTold s.nodes ends arrow (facts_of f.message)) a b)
      → OnOk r (IsThere s.frames.now arrow → Adds (IsFrame s ends arrow) a b)
  found_told r f at told = on_ok_weaker r (found f at) told

  -- one that isn't found isn't there
  pub not_there : slice_get s.frames.now arrow.frame ≡ None → IsThere s.frames.now arrow → Adds (IsFrame s ends arrow) a b
  not_there none there = absurd (none-some there.frame (sym none ∙ there.is))

-- ---- arrow by arrow
pub one_more_drawn : (s : Scene) (ends : List ℕ) (arrows : List Arrow) (n : ℕ) (x : Arrow) (a b c : List ℕ)
    → (AreThere s.frames.now arrows → Draws (IsFrame s ends) a (take n arrows) b)
    → (IsThere s.frames.now x → Adds (IsFrame s ends x) b c) → n < length arrows → x ≡ slice_index_or arrows n x
    → AreThere s.frames.now arrows → Draws (IsFrame s ends) a (take (n + 1) arrows) c
one_more_drawn s ends arrows n x a b c before now below read all =
    let here : IsThere s.frames.now x = subst (λ (y : Arrow). IsThere s.frames.now y) (sym read) (all.each n x below) in
    subst (λ (xs : List Arrow). Draws (IsFrame s ends) a xs c) (take_so_far arrows n x below read)
    (more (take n arrows) x b c (before all) (now here))

-- ---- the picture
module _ (s : Scene) (from to : Option ℕ) (window : Window) (width height bottom : ℕ) (style begun a b c d e ends : List ℕ) where
  whole : (text : List ℕ) → IsLayout s window ends bottom → bottom ≤ height * 100 → begun ≡ picture_begun width height style
      → Adds (IsHead (length s.frames.now) s.nodes window) begun a → Draws (IsLane s.nodes bottom) a (range_with_len 0 s.nodes) b
      → DrawsStanding label_step (IsLine ends) ends s.labels.now b c → DrawsFrames s window ends c d
      → DrawsStanding mark_step (IsMark s.nodes s.marks.now ends) ends s.marks.now d e → text ≡ e ++ picture_ended → AreDrawn s window text
  whole text layout high begins head lanes labels frames marks is = record {
    width = width;
    height = height;
    style = style;
    ends = ends;
    bottom = bottom;
    layout = layout;
    high = high;
    behind_head = a;
    head = subst (λ (t : List ℕ). Adds (IsHead (length s.frames.now) s.nodes window) t a) begins head;
    behind_lanes = b;
    lanes = lanes;
    behind_labels = c;
    labels = labels;
    behind_frames = d;
    frames = frames;
    body = e;
    marks = marks;
    is = is;
  }

  pub shows : {T E : Type 0} (r : Result T E) (text_of : T → List ℕ) → IsChosen (length s.frames.now) from to window
      → IsLayout s window ends bottom → bottom ≤ height * 100 → begun ≡ picture_begun width height style → Adds (IsHead (length s.frames.now) s.nodes window) begun a
      → Draws (IsLane s.nodes bottom) a (range_with_len 0 s.nodes) b → DrawsStanding label_step (IsLine ends) ends s.labels.now b c
      → (IsWhole s → DrawsFrames s window ends c d) → DrawsStanding mark_step (IsMark s.nodes s.marks.now ends) ends s.marks.now d e
      → IfOk r (λ t. text_of t ≡ e ++ picture_ended) → IfOk r (λ t. ShowsAsked s from to (text_of t))
  shows (Ok t) text_of chosen layout high begins head lanes labels frames marks is = record {
    window = window;
    chosen = chosen;
    drawn = λ all. whole (text_of t) layout high begins head lanes labels (frames all) marks is;
  }
  shows (Err f) text_of chosen layout high begins head lanes labels frames marks is = tt

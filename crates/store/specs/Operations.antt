-- What an operation makes of a database, and its reply.
use Rattle.std.specs.Prelude.{◌≡◌, ⊤, ◌-◌, List, [], ◌∷◌, ◌++◌, length, slice_get, Bool, true, false, ◌||◌, ◌==◌, nat_lt, is_some}
use Rattle.std.specs.Prelude.{if◌then◌else◌}
use Rattle.std.specs.Option.{option_map_or}
use Rattle.tpoint.specs.Moving.{Sequence, IsValid, InBounds}
use Rattle.tpoint.specs.declared.point.Point.{Point}
use Rattle.tpoint.specs.declared.seq.TheConstants.{MOST_POINTS}
use Rattle.mfjson.specs.declared.feature.Feature.{Feature}
use Rattle.store.specs.Features.{feature_of, with_feature, without}
use Rattle.store.specs.declared.db.TheConstants.{MOST_FEATURES}
use Rattle.store.specs.declared.op.Op.{Op}
use Rattle.store.specs.declared.op.Op.TheVariants.{Put, Append, Remove}
use Rattle.store.specs.declared.reply.Reply.{Reply}
use Rattle.store.specs.declared.reply.Reply.TheVariants.{Done, Unknown, NotLater, Full, TooMany}

-- ---- the reply
-- the point is later than the last of the points
abbrev pub is_later : List Point → Point → Bool
is_later ps p = option_map_or (λ last. nat_lt last.t p.t) (slice_get ps (length ps - 1)) true

-- the reply to a point that is to follow the points of a feature
abbrev pub append_reply : List Point → Point → Reply
append_reply ps p =
    if is_later ps p then (if length ps == MOST_POINTS then Full else Done) else NotLater

abbrev pub reply : List Feature → Op → Reply
reply fs (Put id seq) =
    if is_some (feature_of fs id) || nat_lt (length fs) MOST_FEATURES then Done else TooMany
reply fs (Append a) =
    option_map_or (λ f. append_reply f.seq.points a.point) (feature_of fs a.id) Unknown
reply fs (Remove id) = if is_some (feature_of fs id) then Done else Unknown

-- ---- the effect
abbrev pub is_done : Reply → Bool
is_done Done = true
is_done _ = false

-- the sequence with a point more, at the end
abbrev pub extended : Sequence → Point → Sequence
extended s p = record s { points = s.points ++ p ∷ [] }

-- what an operation makes of the features once it is done
abbrev pub done : List Feature → Op → List Feature
done fs (Put id seq) = with_feature fs (record { id = id; seq = seq })
done fs (Append a) =
    option_map_or (λ f. with_feature fs (record f { seq = extended f.seq a.point }))
    (feature_of fs a.id) fs
done fs (Remove id) = without fs id

-- any reply but `Done` leaves the features
abbrev pub effect : List Feature → Op → List Feature
effect fs op = if is_done (reply fs op) then done fs op else fs

-- what a point makes of a sequence, by its reply
abbrev pub append_effect : Sequence → Point → Sequence
append_effect s p = if is_done (append_reply s.points p) then extended s p else s

-- ---- what an operation brings: a valid sequence, or a point with its coordinates in range
abbrev pub OpIsValid : Op → Type 0
OpIsValid (Put id seq) = IsValid seq
OpIsValid (Append a) = InBounds a.point
OpIsValid (Remove id) = Unit {0}

-- ---- what takes no memory: a removal, and whatever is refused
abbrev pub TakesNoMemory : List Feature → Op → Type 0
TakesNoMemory fs (Put id seq) = is_done (reply fs (Put id seq)) ≡ false
TakesNoMemory fs (Append a) = is_done (reply fs (Append a)) ≡ false
TakesNoMemory fs (Remove id) = ⊤

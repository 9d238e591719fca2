-- What words ask for.
use Rattle.std.specs.Prelude.{◌≡◌, ℕ, ◌^◌, ◌<◌, List, [], ◌∷◌, codes}
use Rattle.std.specs.Str.Parse.{IsNumeral, digits_value, without_leading_plus}
use Rattle.conformance.specs.declared.timing.task.Task.{Task}
use Rattle.conformance.specs.declared.timing.task.Work.{Work}
use Rattle.conformance.specs.declared.timing.task.Work.TheVariants.{Scene, Part, Text, Log}
use Rattle.conformance.specs.declared.timing.task.SceneWork.{SceneWork}
use Rattle.conformance.specs.declared.timing.task.SceneWork.TheVariants.{Point, Query, Apply, Check, Execute, Encode, Decode}
use Rattle.conformance.specs.declared.timing.task.PointWork.{PointWork}
use Rattle.conformance.specs.declared.timing.task.PointWork.TheVariants.{ValueAt, EverMiddle, EverWhole, AlwaysMiddle, AlwaysWhole}
use Rattle.conformance.specs.declared.timing.task.PointWork.TheVariants.{CutMiddle, CutWhole, Write, Datetimes}
use Rattle.conformance.specs.declared.timing.task.QueryWork.{QueryWork}
use Rattle.conformance.specs.declared.timing.task.QueryWork.TheVariants as query_work
use Rattle.conformance.specs.declared.timing.task.ApplyWork.{ApplyWork}
use Rattle.conformance.specs.declared.timing.task.ApplyWork.TheVariants as apply_work
use Rattle.conformance.specs.declared.timing.task.Sent.{Sent}
use Rattle.conformance.specs.declared.timing.task.Sent.TheVariants as sent
use Rattle.conformance.specs.declared.timing.task.PartWork.{PartWork}
use Rattle.conformance.specs.declared.timing.task.PartWork.TheVariants.{Tellings, Promises, Proposals, Overlapping, Flushed, Pumped}
use Rattle.conformance.specs.declared.timing.task.TextWork.{TextWork}
use Rattle.conformance.specs.declared.timing.task.TextWork.TheVariants.{Copied, Written, Restored, WrittenAgain}
use Rattle.conformance.specs.declared.timing.task.LogWork.{LogWork}
use Rattle.conformance.specs.declared.timing.task.LogWork.TheVariants.{Put, Trimmed, TrimmedAgain}

-- the word for a work
abbrev pub point_name : PointWork → List ℕ
point_name ValueAt = codes "value_at"
point_name EverMiddle = codes "ever_middle"
point_name EverWhole = codes "ever_whole"
point_name AlwaysMiddle = codes "always_middle"
point_name AlwaysWhole = codes "always_whole"
point_name CutMiddle = codes "cut_middle"
point_name CutWhole = codes "cut_whole"
point_name Write = codes "write"
point_name Datetimes = codes "datetimes"

abbrev pub query_name : QueryWork → List ℕ
query_name query_work.At = codes "store_at"
query_name query_work.Cut = codes "store_cut"
query_name query_work.CutWhole = codes "store_cut_whole"
query_name query_work.Ever = codes "store_ever"
query_name query_work.EverWhole = codes "store_ever_whole"
query_name query_work.Always = codes "store_always"
query_name query_work.Within = codes "store_within"
query_name query_work.Get = codes "store_get"
query_name query_work.Count = codes "store_count"

abbrev pub apply_name : ApplyWork → List ℕ
apply_name apply_work.Put = codes "store_put"
apply_name apply_work.Append = codes "store_append"
apply_name apply_work.Remove = codes "store_remove"

abbrev pub encode_name : Sent → List ℕ
encode_name sent.Prepare = codes "frame_encode_prepare"
encode_name sent.Promise = codes "frame_encode_promise"
encode_name sent.AcceptPut = codes "frame_encode_accept_put"
encode_name sent.AcceptedAppend = codes "frame_encode_accepted_append"

abbrev pub decode_name : Sent → List ℕ
decode_name sent.Prepare = codes "frame_decode_prepare"
decode_name sent.Promise = codes "frame_decode_promise"
decode_name sent.AcceptPut = codes "frame_decode_accept_put"
decode_name sent.AcceptedAppend = codes "frame_decode_accepted_append"

abbrev pub scene_name : SceneWork → List ℕ
scene_name (Point work) = point_name work
scene_name (Query work) = query_name work
scene_name (Apply work) = apply_name work
scene_name Check = codes "check"
scene_name Execute = codes "execute"
scene_name (Encode message) = encode_name message
scene_name (Decode message) = decode_name message

abbrev pub part_name : PartWork → List ℕ
part_name Tellings = codes "tellings"
part_name Promises = codes "promises"
part_name Proposals = codes "proposals"
part_name Overlapping = codes "overlapping"
part_name Flushed = codes "flushed"
part_name Pumped = codes "pumped"

abbrev pub text_name : TextWork → List ℕ
text_name Copied = codes "text_copied"
text_name Written = codes "text_written"
text_name Restored = codes "text_restored"
text_name WrittenAgain = codes "text_written_again"

abbrev pub log_name : LogWork → List ℕ
log_name Put = codes "votes_put"
log_name Trimmed = codes "votes_trimmed"
log_name TrimmedAgain = codes "votes_trimmed_again"

abbrev pub name_of : Work → List ℕ
name_of (Scene work) = scene_name work
name_of (Part work) = part_name work
name_of (Text work) = text_name work
name_of (Log work) = log_name work

-- a word is read as a number below 2^bits: decimal digits, and a plus before them or not
pub record IsReadAs (bits : ℕ) (word : List ℕ) (n : ℕ) : Type 0 where
  pub digits : IsNumeral 10 (without_leading_plus word)
  pub value : n ≡ digits_value 10 (without_leading_plus word)
  pub fits : n < 2 ^ bits

-- the words for a task's work, size and rounds
pub record NamesTask (work size rounds : List ℕ) (task : Task) : Type 0 where
  pub name : work ≡ name_of task.work
  pub extent : IsReadAs 16 size task.size
  pub times : IsReadAs 32 rounds task.rounds

-- the words ask for a task; without a size it is one
abbrev pub AsksForTask : List (List ℕ) → Task → Type 0
AsksForTask (work ∷ rounds ∷ []) task = NamesTask work (codes "1") rounds task
AsksForTask (work ∷ size ∷ rounds ∷ []) task = NamesTask work size rounds task
AsksForTask _ task = ⊥

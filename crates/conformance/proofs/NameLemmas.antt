-- A word that is the name of no work of any kind is the name of no work.
use Rattle.std.proofs.Common.{◌≢◌, ℕ, List, codes}
use Rattle.conformance.specs.Tasks.{scene_name, point_name, query_name, apply_name, encode_name, decode_name}
use Rattle.conformance.specs.Tasks.{name_of, part_name, text_name, log_name}
use Rattle.conformance.specs.declared.timing.task.Work.{Work}
use Rattle.conformance.specs.declared.timing.task.Work.TheVariants.{Scene, Part, Text, Log}
use Rattle.conformance.specs.declared.timing.task.PartWork.{PartWork}
use Rattle.conformance.specs.declared.timing.task.TextWork.{TextWork}
use Rattle.conformance.specs.declared.timing.task.LogWork.{LogWork}
use Rattle.conformance.specs.declared.timing.task.SceneWork.{SceneWork}
use Rattle.conformance.specs.declared.timing.task.SceneWork.TheVariants.{Point, Query, Apply, Check, Execute, Encode, Decode}
use Rattle.conformance.specs.declared.timing.task.PointWork.{PointWork}
use Rattle.conformance.specs.declared.timing.task.QueryWork.{QueryWork}
use Rattle.conformance.specs.declared.timing.task.ApplyWork.{ApplyWork}
use Rattle.conformance.specs.declared.timing.task.Sent.{Sent}

pub none_named : (word : List ℕ) → ((w : PointWork) → word ≢ point_name w) → ((w : QueryWork) → word ≢ query_name w) →
    ((w : ApplyWork) → word ≢ apply_name w) → ((s : Sent) → word ≢ encode_name s) → ((s : Sent) → word ≢ decode_name s) →
    word ≢ codes "check" → word ≢ codes "execute" → (work : SceneWork) → word ≢ scene_name work
none_named word point query apply encode decode check execute (Point w) = point w
none_named word point query apply encode decode check execute (Query w) = query w
none_named word point query apply encode decode check execute (Apply w) = apply w
none_named word point query apply encode decode check execute (Encode s) = encode s
none_named word point query apply encode decode check execute (Decode s) = decode s
none_named word point query apply encode decode check execute Check = check
none_named word point query apply encode decode check execute Execute = execute

pub no_work_named : (word : List ℕ) → ((w : SceneWork) → word ≢ scene_name w) → ((w : PartWork) → word ≢ part_name w) →
    ((w : TextWork) → word ≢ text_name w) → ((w : LogWork) → word ≢ log_name w) → (work : Work) → word ≢ name_of work
no_work_named word scene part text log (Scene w) = scene w
no_work_named word scene part text log (Part w) = part w
no_work_named word scene part text log (Text w) = text w
no_work_named word scene part text log (Log w) = log w

-- The numbers of outcomes, and of faults; and the texts of faults.
use Rattle.std.specs.Prelude.{ℕ, List, ◌++◌, codes}
use Rattle.std.specs.Fmt.{decimal}
use Rattle.store.specs.Replies.{reply_code}
use Rattle.sessions.specs.declared.fault.SnapFault.{SnapFault}
use Rattle.sessions.specs.declared.fault.SnapFault.TheVariants.{Damaged, Memory}
use Rattle.sessions.specs.declared.session_reply.SessionReply.{SessionReply}
use Rattle.sessions.specs.declared.session_reply.SessionReply.TheVariants.{Applied, Past, Gap}
use Rattle.sessions.specs.declared.request.TheConstants.{MOST_PUT_POINTS}

abbrev pub outcome_code : SessionReply → ℕ
outcome_code (Applied reply) = reply_code reply
outcome_code Past = 31
outcome_code Gap = 32

-- why a text was not restored
abbrev pub snap_code : SnapFault → ℕ
snap_code Damaged = 1
snap_code Memory = 2

-- what is printed of a fault
abbrev pub fault_text : SnapFault → List ℕ
fault_text Damaged = codes "the bytes are the snapshot text of no machine"
fault_text Memory = codes "out of memory"

-- what is printed where a sequence is too long to be put
abbrev pub too_long_text : List ℕ
too_long_text = codes "the sequence has more than " ++ (decimal MOST_PUT_POINTS ++ codes " instants")

-- What is said of each happening, in words.
use Rattle.std.specs.Prelude.{ℕ, List, ◌++◌, codes, decimal}
use Rattle.diagram.specs.Facts.{frame_text}
use Rattle.node_model.specs.Faults.{fault_text, node_code}
use Rattle.node_model.specs.declared.fault.NodeFault.{NodeFault}
use Rattle.replay.specs.Transcripts.{ballot_text, command_text, request_text}
use Rattle.sessions.specs.SessionReplies.{outcome_code}
use Rattle.sessions.specs.declared.session_reply.SessionReply.{SessionReply}
use Rattle.sessions.specs.declared.session_reply.SessionReply.TheVariants.{Applied, Past, Gap}
use Rattle.store.specs.declared.reply.Reply.TheVariants.{Done, Unknown, NotLater, Full, TooMany}
use Rattle.world_model.specs.declared.round_end.RoundEnd.{RoundEnd}
use Rattle.world_model.specs.declared.round_end.RoundEnd.TheVariants as end
use Rattle.story.specs.Happenings.{Happening, answer_given, frame_lost, frame_sent, node_refused, node_stopped, reply_given, round_ended, slot_learnt, text_restored}

-- what a reply means
abbrev pub meaning_of : SessionReply → List ℕ
meaning_of (Applied Done) = codes "done"
meaning_of (Applied Unknown) = codes "there is no feature with this id"
meaning_of (Applied NotLater) = codes "the point is not later than the last one"
meaning_of (Applied Full) = codes "the feature has as many points as it may"
meaning_of (Applied TooMany) = codes "there are as many features as may be"
meaning_of Past = codes "a later request of the client has counted"
meaning_of Gap = codes "the client's request before it has not counted yet"

abbrev pub reply_words : SessionReply → List ℕ
reply_words reply = decimal (outcome_code reply) ++ (codes ", " ++ meaning_of reply)

abbrev pub fault_words : NodeFault → List ℕ
fault_words fault = decimal (node_code fault) ++ (codes ", " ++ fault_text fault)

-- how a round by hand ended
abbrev pub end_words : RoundEnd → List ℕ
end_words end.NotAQuorum = codes "the members are no quorum"
end_words (end.Down member) = codes "node " ++ (decimal member ++ codes " is down")
end_words (end.Behind member) = codes "node " ++ (decimal member ++ codes " has forgotten the slot")
end_words (end.Refused fault) = codes "refused, " ++ fault_words fault
end_words (end.Stopped member) = codes "node " ++ (decimal member ++ codes " has stopped")
end_words (end.TooLow promised) = codes "ballot " ++ (ballot_text promised ++ codes " was promised")
end_words (end.Decided slot) = codes "slot " ++ (decimal slot ++ codes " is decided")

abbrev pub words_of : Happening → List ℕ
words_of (frame_sent number from to facts) = frame_text number from to facts
words_of (slot_learnt e) = codes "node " ++ (decimal e.node ++ (codes " learns slot " ++ (decimal e.slot ++ (codes ": "
    ++ command_text e.command))))
words_of (reply_given e) = codes "node " ++ (decimal e.node ++ (codes " replies to " ++ (request_text e.client e.number ++ (codes ": "
    ++ reply_words e.reply))))
words_of (answer_given e) = codes "node " ++ (decimal e.node ++ (codes " answers at position " ++ (decimal e.position ++ codes ": ")))
    ++ e.text
words_of (text_restored node position) = codes "node " ++ (decimal node ++ (codes " restores the checkpoint at position "
    ++ decimal position))
words_of (frame_lost number from to facts) = codes "lost, as node " ++ (decimal to ++ codes " is down: ") ++ frame_text number from to facts
words_of (node_refused node fault) = codes "node " ++ (decimal node ++ (codes " refuses: " ++ fault_words fault))
words_of (node_stopped node fault) = codes "node " ++ (decimal node ++ (codes " stops: " ++ fault_words fault))
words_of (round_ended node how) = codes "the round of node " ++ (decimal node ++ codes " ends: ") ++ end_words how

-- The words that say what a line of a transcript is.
use Rattle.std.specs.Prelude.{ℕ, List, codes}
use Rattle.audit.specs.declared.kind.Kind.{Kind}
use Rattle.audit.specs.declared.kind.Kind.TheVariants as kind
use Rattle.audit.specs.declared.kind.End.{End}
use Rattle.audit.specs.declared.kind.End.TheVariants as end

-- the word that a line begins with
abbrev pub kind_text : Kind → List ℕ
kind_text kind.Learn = codes "learn"
kind_text kind.Reply = codes "reply"
kind_text kind.Answer = codes "answer"
kind_text kind.Restore = codes "restore"
kind_text kind.Refuse = codes "refuse"
kind_text kind.Stop = codes "stop"
kind_text kind.Round = codes "round"
kind_text kind.Strangers = codes "strangers"

-- the word after `round NODE`
abbrev pub end_text : End → List ℕ
end_text end.Decided = codes "decided"
end_text end.Low = codes "low"
end_text end.NoQuorum = codes "noquorum"
end_text end.Down = codes "down"
end_text end.Behind = codes "behind"
end_text end.Refused = codes "refused"
end_text end.Stopped = codes "stopped"

-- Which lists of commands a machine stands for.
use Rattle.std.specs.Prelude.{◌≡◌, ◌↔◌, ℕ, List, [], ◌∷◌, ◌++◌, length, Option, Some, None}
use Rattle.store.specs.declared.query.Query.{Query}
use Rattle.store.specs.declared.reply.Reply.{Reply}
use Rattle.sessions.specs.Machines.{MachineState}
use Rattle.sessions.specs.Meaning.{Execution, HasCounted, IsLastOf, LastCounted, RepliesAt, Answers}
use Rattle.sessions.specs.SessionReplies.{outcome_code}
use Rattle.sessions.specs.Sessions.{session_of}
use Rattle.sessions.specs.declared.command.Command.{Command}
use Rattle.sessions.specs.declared.command.Command.TheVariants.{NoOp, Request}
use Rattle.sessions.specs.declared.session_reply.SessionReply.{SessionReply}
use Rattle.sessions.specs.declared.session.Session.{Session}

-- what is kept of a client is its last number that has counted, with the reply to it; nothing, where none has counted
abbrev pub IsKeptOf : {l : List Command} → Execution l → ℕ → Option Session → Type 0
IsKeptOf {l} e client None = (number : ℕ) → HasCounted l e.counts (length l) client number → ⊥
IsKeptOf e client (Some session) = IsLastOf e client session.number session.reply

-- the machine's database is the meaning of the list, and what it keeps of each client is the list's
pub record StandsFor (m : MachineState) (l : List Command) : Type 0 where
  pub execution : Execution l
  pub features : m.features ≡ execution.before (length l)
  pub sessions : (client : ℕ) → IsKeptOf execution client (session_of m.sessions client)

-- ---- what calls keep of that
-- for each list that the one machine stands for, the other stands for the list with the command added
pub record StandsForOneMore (old new : MachineState) (c : Command) : Type 0 where
  pub stands : (l : List Command) → StandsFor old l → StandsFor new (l ++ c ∷ [])

-- for each list that the machine stands for, the outcome tells the reply to the command, at the place behind the list
abbrev pub IsToldAt : List Command → Command → SessionReply → Type 0
IsToldAt l NoOp told = outcome_code told ≡ 0
IsToldAt l (Request r) told = RepliesAt (l ++ Request r ∷ []) (length l) r (outcome_code told)

pub record RepliesOneMore (m : MachineState) (c : Command) (told : SessionReply) : Type 0 where
  pub replies : (l : List Command) → StandsFor m l → IsToldAt l c told

-- for each list that the machine stands for, the reply is there exactly where the number is the client's last that has
-- counted, and it is the reply to it
pub record KeepsLast (m : MachineState) (client number : ℕ) (told : Option Reply) : Type 0 where
  pub last : (l : List Command) → StandsFor m l → (reply : Reply) →
      (told ≡ Some reply) ↔ LastCounted l client number reply

-- for each list that the machine stands for, the text is the answer to the query
pub record AnswersAll (m : MachineState) (query : Query) (text : List ℕ) : Type 0 where
  pub answers : (l : List Command) → StandsFor m l → Answers l query text

-- What a list of commands means: one plain database executes it from its first place on, each request once, and each
-- client's requests in the order of their numbers.
use Rattle.std.specs.Prelude.{◌≡◌, ◌↔◌, ℕ, ◌+◌, ◌-◌, ◌<◌, ◌≤◌, ◌⊎◌, length, List, [], Bool, true, false, Some, slice_get}
use Rattle.mfjson.specs.declared.feature.Feature.{Feature}
use Rattle.store.specs.Answers.{IsAnswer}
use Rattle.store.specs.Operations.{reply, effect, OpIsValid}
use Rattle.store.specs.Replies.{reply_code}
use Rattle.store.specs.declared.query.Query.{Query}
use Rattle.store.specs.declared.reply.Reply.{Reply}
use Rattle.sessions.specs.declared.submission.Submission.{Submission}
use Rattle.sessions.specs.declared.command.Command.{Command}
use Rattle.sessions.specs.declared.command.Command.TheVariants.{Request}

-- ---- a plain database
-- the features that it holds
abbrev pub Database : Type 0
Database = List Feature

abbrev pub empty : Database
empty = []

-- ---- which places of a list count
-- this request stands at the place
abbrev pub IsRequestAt : List Command → ℕ → Submission → Type 0
IsRequestAt l i r = slice_get l i ≡ Some (Request r)

-- below some place there is one that counts, with a request of the client under the number
pub record HasCounted (l : List Command) (counts : ℕ → Bool) (below client number : ℕ) : Type 0 where
  pub place : ℕ
  pub earlier : place < below
  pub counted : counts place ≡ true
  pub request : Submission
  pub there : IsRequestAt l place request
  pub of_client : request.client ≡ client
  pub of_number : request.number ≡ number

-- a request stands at the place that has not counted before it, and it is its client's number 1, or the number before
-- its own has counted
pub record IsNext (l : List Command) (counts : ℕ → Bool) (i : ℕ) : Type 0 where
  pub request : Submission
  pub there : IsRequestAt l i request
  pub once : HasCounted l counts i request.client request.number → ⊥
  pub in_turn : (request.number ≡ 1) ⊎ HasCounted l counts i request.client (request.number - 1)

-- the labelling says of each place whether it counts
abbrev pub LabellingIsLawful : List Command → (ℕ → Bool) → Type 0
LabellingIsLawful l counts = (i : ℕ) → (counts i ≡ true) ↔ IsNext l counts i

-- ---- the list is executed
pub record Execution (l : List Command) : Type 0 where
  pub counts : ℕ → Bool
  pub lawful : LabellingIsLawful l counts
  -- the database before each place
  pub before : ℕ → Database
  pub starts : before 0 ≡ empty
  pub executes : (i : ℕ) (r : Submission) → counts i ≡ true → IsRequestAt l i r → before (i + 1) ≡ effect (before i) r.op
  pub passes : (i : ℕ) → counts i ≡ false → before (i + 1) ≡ before i

-- ---- replies
-- the reply to the request at a place
pub record IsReply {l : List Command} (e : Execution l) (i : ℕ) (r : Submission) (code : ℕ) : Type 0 where
  -- its number is the client's last that has counted: what the database replied where it did
  pub kept : (c : HasCounted l e.counts (i + 1) r.client r.number)
      → (HasCounted l e.counts (i + 1) r.client (r.number + 1) → ⊥)
      → code ≡ reply_code (reply (e.before c.place) c.request.op)
  -- the client's next number has counted, too
  pub past : HasCounted l e.counts (i + 1) r.client r.number → HasCounted l e.counts (i + 1) r.client (r.number + 1)
      → code ≡ 31
  -- its number has not counted
  pub gap : (HasCounted l e.counts (i + 1) r.client r.number → ⊥) → code ≡ 32

-- this request stands at the place, and this is the reply to it
pub record RepliesAt (l : List Command) (i : ℕ) (r : Submission) (code : ℕ) : Type 0 where
  pub there : IsRequestAt l i r
  pub execution : Execution l
  pub reply : IsReply execution i r code

-- ---- what is kept of a client
-- the number is the client's last that has counted, and this is what the database replied where it did
pub record IsLastOf {l : List Command} (e : Execution l) (client number : ℕ) (told : Reply) : Type 0 where
  pub counted : HasCounted l e.counts (length l) client number
  pub last : (other : ℕ) → HasCounted l e.counts (length l) client other → other ≤ number
  pub replied : (c : HasCounted l e.counts (length l) client number) → told ≡ reply (e.before c.place) c.request.op

-- the same, once the whole list is executed
pub record LastCounted (l : List Command) (client number : ℕ) (told : Reply) : Type 0 where
  pub execution : Execution l
  pub is_last : IsLastOf execution client number told

-- ---- answers to queries
-- the answer to the query, once the whole list is executed
pub record Answers (l : List Command) (query : Query) (text : List ℕ) : Type 0 where
  pub execution : Execution l
  pub says : IsAnswer (execution.before (length l)) query text

-- what each request of the list brings is valid: the sequence of a Put, and the coordinates of an Append
pub record RequestsAreValid (l : List Command) : Type 0 where
  pub each : (i : ℕ) (r : Submission) → IsRequestAt l i r → OpIsValid r.op

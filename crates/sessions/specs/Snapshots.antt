-- The snapshot text: what a list of commands leaves behind, as bytes, and which machine has it. All numbers are big-endian.
use Rattle.std.specs.Prelude.{◌≡◌, ◌↔◌, ℕ, ◌+◌, ◌<◌, ◌≤◌, ◌^◌, length, List, [], ◌∷◌, ◌++◌, All, Contains, Option, Some, None}
use Rattle.std.specs.List.{flat_map}
use Rattle.byteorder.specs.Endian.{big_bytes}
use Rattle.tpoint.specs.Ids.{IsId}
use Rattle.tpoint.specs.declared.seq.TheConstants.{MOST_POINTS}
use Rattle.mfjson.specs.declared.feature.Feature.{Feature}
use Rattle.store.specs.Features.{IsDatabase}
use Rattle.store.specs.Replies.{reply_code}
use Rattle.fields.specs.Spelling.{id_bytes, sequence_bytes, SequenceFits}
use Rattle.sessions.specs.Machines.{MachineState}
use Rattle.sessions.specs.Meaning.{Execution, IsLastOf}
use Rattle.sessions.specs.Standing.{StandsFor}
use Rattle.sessions.specs.declared.command.Command.{Command}
use Rattle.sessions.specs.declared.session.Held.{Held}
use Rattle.sessions.specs.declared.session.Session.{Session}
use Rattle.sessions.specs.declared.session.TheConstants.{CLIENTS}

-- ---- how it is spelled
-- the id, the interpolation, the count of the points, and the points
abbrev pub feature_bytes : Feature → List ℕ
feature_bytes f = id_bytes f.id ++ sequence_bytes f.seq

-- the client in one byte, its last number that counted in eight, the reply to it in one
abbrev pub client_bytes : Held → List ℕ
client_bytes h = h.client ∷ (big_bytes 8 h.session.number ++ reply_code h.session.reply ∷ [])

-- the count in two bytes, and one after the other
abbrev pub counted : {A : Type 0} → (A → List ℕ) → List A → List ℕ
counted spell xs = big_bytes 2 (length xs) ++ flat_map spell xs

-- the text of these features and clients
abbrev pub text_bytes : List Feature → List Held → List ℕ
text_bytes features clients = counted feature_bytes features ++ counted client_bytes clients

-- ---- which values its fields can hold
pub record FeatureFits (f : Feature) : Type 0 where
  pub id : IsId f.id
  pub seq : SequenceFits MOST_POINTS f.seq

pub record ClientFits (h : Held) : Type 0 where
  pub client : h.client < CLIENTS
  pub from_one : 1 ≤ h.session.number
  pub short : h.session.number < 2 ^ 64

-- a database of valid features, and clients of a byte with numbers of eight
pub record PartsFit (fs : List Feature) (hs : List Held) : Type 0 where
  pub database : IsDatabase fs
  pub features : All FeatureFits fs
  pub clients : All ClientFits hs

-- ---- the text of a list of commands; no machine is in it
-- the first client is not before the one given, and each comes after the one before it
abbrev pub AscendFrom : ℕ → List Held → Type 0
AscendFrom from [] = Unit {0}
AscendFrom from (h ∷ more) = (from ≤ h.client) × AscendFrom (h.client + 1) more

abbrev pub AreAscending : List Held → Type 0
AreAscending clients = AscendFrom 0 clients

-- the database once the whole list is executed, by ids in byte order, and then the last number of each client that has
-- counted with the reply to it, clients ascending. A list has a text only if its values fit the fields.
pub record IsSnapshot (l : List Command) (text : List ℕ) : Type 0 where
  pub execution : Execution l
  pub clients : List Held
  pub ascend : AreAscending clients
  pub each : (h : Held) → Contains clients h ↔ IsLastOf execution h.client h.session.number h.session.reply
  pub fits : PartsFit (execution.before (length l)) clients
  pub is : text ≡ text_bytes (execution.before (length l)) clients

-- ---- the text of a machine
-- the clients of whom something is kept, from a client on
abbrev pub held_from : ℕ → List (Option Session) → List Held
held_from client [] = []
held_from client (None ∷ more) = held_from (client + 1) more
held_from client (Some session ∷ more) = record { client = client; session = session } ∷ held_from (client + 1) more

abbrev pub held : List (Option Session) → List Held
held = held_from 0

abbrev pub snapshot_bytes : MachineState → List ℕ
snapshot_bytes m = text_bytes m.features (held m.sessions)

-- what it holds fits the fields, and it has a place for each client
pub record MachineFits (m : MachineState) : Type 0 where
  pub parts : PartsFit m.features (held m.sessions)
  pub clients : length m.sessions ≡ CLIENTS

-- ---- the two of them
-- the text is that of each list that the machine stands for
pub record TellsEach (m : MachineState) (text : List ℕ) : Type 0 where
  pub tells : (l : List Command) → StandsFor m l → IsSnapshot l text

-- the machine stands for each list with this text
pub record StandsForEach (text : List ℕ) (m : MachineState) : Type 0 where
  pub stands : (l : List Command) → IsSnapshot l text → StandsFor m l

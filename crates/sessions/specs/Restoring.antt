-- Reading a snapshot text from left to right.
use Rattle.std.specs.Prelude.{ℕ, zero, suc, ◌+◌, Bool, true, ◌==◌, nat_lt, length, if◌then◌else◌, List, [], ◌∷◌, Option, Some, None, Ok, Err, Result}
use Rattle.std.specs.Ordering.{nat_cmp, is_lt}
use Rattle.std.specs.Cmp.Lexicographic.{slice_cmp}
use Rattle.tpoint.specs.declared.seq.TheConstants.{MOST_POINTS}
use Rattle.mfjson.specs.declared.feature.Feature.{Feature}
use Rattle.store.specs.declared.reply.Reply.{Reply}
use Rattle.store.specs.declared.reply.Reply.TheVariants.{Done, Unknown, NotLater, Full, TooMany}
use Rattle.fields.specs.declared.fault.FieldFault.{FieldFault}
use Rattle.fields.specs.declared.fault.FieldFault.TheVariants.{Short, Field, Memory}
use Rattle.fields.specs.Reading.{◌>>=◌, Read, byte_at, number_at, id_at, sequence_at}
use Rattle.sessions.specs.declared.fault.SnapFault.{SnapFault}
use Rattle.sessions.specs.declared.fault.SnapFault.TheVariants as snap
use Rattle.sessions.specs.declared.session.Held.{Held}
use Rattle.sessions.specs.declared.session.Session.{Session}

-- the fault of a text, by that of a field
abbrev pub snap_fault : FieldFault → SnapFault
snap_fault Memory = snap.Memory
snap_fault Short = snap.Damaged
snap_fault Field = snap.Damaged

-- ---- features
-- the id comes after another, where there is one
abbrev pub comes_after : Option (List ℕ) → List ℕ → Bool
comes_after None id = true
comes_after (Some before) id = is_lt (slice_cmp nat_cmp before id)

-- an id that comes after another
unfoldable pub next_id_at : Option (List ℕ) → List ℕ → Read (List ℕ)
next_id_at before bytes = do
  id ← id_at bytes
  if comes_after before id.0 then Ok id else Err Field

unfoldable pub feature_at : Option (List ℕ) → List ℕ → Read Feature
feature_at before bytes = do
  id ← next_id_at before bytes
  seq ← sequence_at MOST_POINTS id.1
  Ok (record { id = id.0; seq = seq.0 }, seq.1)

unfoldable pub features_at : ℕ → Option (List ℕ) → List ℕ → Read (List Feature)
features_at zero before bytes = Ok ([], bytes)
features_at (suc count) before bytes = do
  first ← feature_at before bytes
  others ← features_at count (Some first.0.id) first.1
  Ok (first.0 ∷ others.0, others.1)

-- a count of 0 to 256
unfoldable pub few_at : List ℕ → Read ℕ
few_at bytes = do
  count ← number_at 2 bytes
  if nat_lt 256 count.0 then Err Field else Ok count

unfoldable pub all_features_at : List ℕ → Read (List Feature)
all_features_at bytes = do
  count ← few_at bytes
  features_at count.0 None count.1

-- ---- clients
unfoldable pub request_number_at : List ℕ → Read ℕ
request_number_at bytes = do
  number ← number_at 8 bytes
  if number.0 == 0 then Err Field else Ok number

unfoldable pub reply_at : List ℕ → Read Reply
reply_at bytes = do
  code ← byte_at bytes
  if code.0 == 0 then Ok (Done, code.1) else
      (if code.0 == 21 then Ok (Unknown, code.1) else
      (if code.0 == 22 then Ok (NotLater, code.1) else
      (if code.0 == 23 then Ok (Full, code.1) else
      (if code.0 == 24 then Ok (TooMany, code.1) else Err Field))))

unfoldable pub session_at : List ℕ → Read Session
session_at bytes = do
  number ← request_number_at bytes
  reply ← reply_at number.1
  Ok (record { number = number.0; reply = reply.0 }, reply.1)

-- a client that is not before another
unfoldable pub client_from : ℕ → List ℕ → Read Held
client_from from bytes = do
  client ← byte_at bytes
  if nat_lt client.0 from then Err Field else do
    session ← session_at client.1
    Ok (record { client = client.0; session = session.0 }, session.1)

unfoldable pub clients_at : ℕ → ℕ → List ℕ → Read (List Held)
clients_at zero from bytes = Ok ([], bytes)
clients_at (suc count) from bytes = do
  first ← client_from from bytes
  others ← clients_at count (first.0.client + 1) first.1
  Ok (first.0 ∷ others.0, others.1)

unfoldable pub all_clients_at : List ℕ → Read (List Held)
all_clients_at bytes = do
  count ← few_at bytes
  clients_at count.0 0 count.1

-- ---- the whole
unfoldable pub snapshot_at : List ℕ → Result (List Feature × List Held) FieldFault
snapshot_at bytes = do
  features ← all_features_at bytes
  clients ← all_clients_at features.1
  if length clients.1 == 0 then Ok (features.0, clients.0) else Err Field

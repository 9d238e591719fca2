-- What is read of a text was spelled so, and what is spelled so is read: a machine has one text, and a text one machine.
use Rattle.std.proofs.Common.{◌≡◌, ◌≢◌, ℕ, zero, suc, ◌+◌, ◌^◌, ◌<◌, ◌≤◌, Bool, true, false, eqb, ltb, List, [], ◌∷◌, ◌++◌, Option, Some, None}
use Rattle.std.proofs.Common.{if◌then◌else◌, length, Result, Ok, Err, IsErrOf, refl, sym, ap, subst, ◌∙◌, append_assoc, arith, inl, inr}
use Rattle.std.specs.List.{flat_map}
use Rattle.std.specs.Ordering.{nat_cmp, is_lt}
use Rattle.std.specs.declared.cmp.Ordering.TheVariants.{Less}
use Rattle.std.specs.Cmp.Lexicographic.{slice_cmp}
use Rattle.std.proofs.lemmas.Bool.Decides.{nat_tests}
use Rattle.std.proofs.lemmas.List.{append-nil}
use Rattle.std.proofs.lemmas.List.Concat.{flat_map-cons}
use Rattle.std.specs.List.{AllByRecursion as ByRecursion}
use Rattle.std.proofs.lemmas.List.Elements.{All-from_recursion, recursion_from_All}
use Rattle.byteorder.specs.Endian.{big_bytes}
use Rattle.tpoint.specs.Ids.{IsId}
use Rattle.tpoint.specs.declared.seq.TheConstants.{MOST_POINTS}
use Rattle.fields.specs.declared.fault.FieldFault.{FieldFault}
use Rattle.fields.specs.declared.fault.FieldFault.TheVariants.{Short, Field}
use Rattle.fields.specs.declared.fault.FieldFault.TheVariants as faults
use Rattle.sessions.specs.declared.fault.SnapFault.TheVariants as snap
use Rattle.sessions.specs.Restoring.{snap_fault}
use Rattle.fields.specs.Spelling.{id_bytes, sequence_bytes, SequenceFits}
use Rattle.fields.specs.Reading.{FieldFails, Read, byte_at, number_at, id_at, sequence_at}
use Rattle.fields.proofs.FieldLemmas.{IsBytes, bind_ok, guard_ok, chosen, ok_is, Takes, Takes-then, Took, number_takes, number_again}
use Rattle.fields.proofs.FieldLemmas.{back2, back8, byte_takes, from_zero, at_most, is_equal}
use Rattle.fields.proofs.FieldLaws.{id_takes, id_again, sequence_takes, sequence_again}
use Rattle.mfjson.specs.declared.feature.Feature.{Feature}
use Rattle.sessions.specs.declared.session.Held.{Held}
use Rattle.sessions.specs.declared.session.Session.{Session}
use Rattle.store.specs.declared.reply.Reply.{Reply}
use Rattle.store.specs.declared.reply.Reply.TheVariants.{Done, Unknown, NotLater, Full, TooMany}
use Rattle.store.specs.Features.{IsDatabase}
use Rattle.store.specs.Replies.{reply_code}
use Rattle.sessions.specs.Machines.{MachineState}
use Rattle.sessions.specs.Snapshots.{MachineFits, PartsFit, FeatureFits, ClientFits, AscendFrom, AreAscending}
use Rattle.sessions.specs.Snapshots.{feature_bytes, client_bytes, counted, text_bytes, held_from, held, snapshot_bytes}
use Rattle.sessions.proofs.PlaceLemmas.{less, Ascends}
use Rattle.sessions.specs.Restoring.{comes_after, next_id_at, feature_at, features_at, few_at, all_features_at}
use Rattle.sessions.specs.Restoring.{request_number_at, reply_at, session_at, client_from, clients_at, all_clients_at, snapshot_at}

-- ---- what reading makes of features and clients, one after the other
-- the id comes after another, where there is one
abbrev ComesAfter : Option (List ℕ) → List ℕ → Type 0
ComesAfter None id = Unit {0}
ComesAfter (Some before) id = slice_cmp nat_cmp before id ≡ Less

abbrev FollowsBy : Option (List ℕ) → Feature → Type 0
FollowsBy before f = IsId f.id × SequenceFits MOST_POINTS f.seq × ComesAfter before f.id

-- features of valid sequences, each id after the one before it
abbrev FeaturesFit : Option (List ℕ) → List Feature → Type 0
FeaturesFit before [] = Unit {0}
FeaturesFit before (f ∷ fs) =
    IsId f.id × SequenceFits MOST_POINTS f.seq × ComesAfter before f.id × FeaturesFit (Some f.id) fs

abbrev SessionFits : Session → Type 0
SessionFits session = (1 ≤ session.number) × (session.number < 2 ^ 64)

-- ---- ids that come after others
comes_from : (before : Option (List ℕ)) (id : List ℕ) → comes_after before id ≡ true → ComesAfter before id
comes_from None id h = tt
comes_from (Some b) id h = less (slice_cmp nat_cmp b id) h

comes_to : (before : Option (List ℕ)) (id : List ℕ) → ComesAfter before id → comes_after before id ≡ true
comes_to None id h = refl
comes_to (Some b) id h = ap is_lt h

-- the value of a choice whose other end is a fault
passed : {A : Type 0} (b : Bool) (r : Read A) (y : A × List ℕ) → (if b then r else Err Field) ≡ Ok y → (b ≡ true) × (r ≡ Ok y)
passed true r y e = (refl, e)
passed false r y e = absurd cc

-- ---- features
feature_takes : (before : Option (List ℕ)) (bytes : List ℕ) (x : Feature × List ℕ) → IsBytes bytes → feature_at before bytes ≡ Ok x
    → Took feature_bytes (FollowsBy before) bytes x
unfolding feature_at next_id_at
feature_takes before bytes x fits e =
    let a = bind_ok (next_id_at before bytes) _ x e in
    let i = bind_ok (id_at bytes) _ a.0 a.1 in
    let g = passed (comes_after before i.0.0) (Ok i.0) a.0 i.2 in
    let t = id_takes bytes i.0 fits i.1 in
    let same : i.0 ≡ a.0 = ok_is _ _ g.1 in
    let u : Took id_bytes IsId bytes a.0 = subst (Took id_bytes IsId bytes) same t in
    let after : ComesAfter before a.0.0 = subst (λ (y : List ℕ × List ℕ). ComesAfter before y.0) same (comes_from before i.0.0 g.0) in
    let b = bind_ok (sequence_at MOST_POINTS a.0.1) _ x a.2 in
    let s = sequence_takes MOST_POINTS a.0.1 b.0 u.takes.rest_fits b.1 in
    let made : Feature = record { id = a.0.0; seq = b.0.0 } in
    let it : Took feature_bytes (FollowsBy before) bytes (made, b.0.1) = record {
      takes = Takes-then bytes (id_bytes a.0.0) a.0.1 (sequence_bytes b.0.0) b.0.1 u.takes s.takes;
      fits = (u.fits, s.fits, after);
    } in
    subst (Took feature_bytes (FollowsBy before) bytes) (ok_is _ _ b.2) it

feature_again : (before : Option (List ℕ)) (f : Feature) (rest : List ℕ) → FollowsBy before f
    → feature_at before (feature_bytes f ++ rest) ≡ Ok (f, rest)
unfolding feature_at next_id_at
feature_again before f rest fits =
    ap (feature_at before) (append_assoc (id_bytes f.id) (sequence_bytes f.seq) rest)
    ∙ rw (
      id_again f.id (sequence_bytes f.seq ++ rest) fits.0,
      comes_to before f.id fits.2,
      sequence_again MOST_POINTS f.seq rest (omega arith) fits.1,
    ) refl

record TookFeatures (count : ℕ) (before : Option (List ℕ)) (bytes : List ℕ) (x : List Feature × List ℕ) : Type 0 where
  takes : Takes bytes (flat_map feature_bytes x.0) x.1
  counted : length x.0 ≡ count
  fits : FeaturesFit before x.0

features_take : (count : ℕ) (before : Option (List ℕ)) (bytes : List ℕ) (x : List Feature × List ℕ) → IsBytes bytes
    → features_at count before bytes ≡ Ok x → TookFeatures count before bytes x
unfolding features_at
features_take zero before bytes x fits e =
    let it : TookFeatures 0 before bytes ([], bytes) = record { takes = record { parts = refl; rest_fits = fits }; counted = refl; fits = tt }
    in
    subst (TookFeatures 0 before bytes) (ok_is _ _ e) it
features_take (suc count) before bytes x fits e =
    let a = bind_ok (feature_at before bytes) _ x e in
    let b = bind_ok (features_at count (Some a.0.0.id) a.0.1) _ x a.2 in
    let t = feature_takes before bytes a.0 fits a.1 in
    let u = features_take count (Some a.0.0.id) a.0.1 b.0 t.takes.rest_fits b.1 in
    let both = Takes-then bytes (feature_bytes a.0.0) a.0.1 (flat_map feature_bytes b.0.0) b.0.1 t.takes u.takes in
    let made : List Feature × List ℕ = (a.0.0 ∷ b.0.0, b.0.1) in
    let it : TookFeatures (suc count) before bytes made =
    record { takes = rw flat_map-cons both; counted = ap suc u.counted; fits = (t.fits.0, t.fits.1, t.fits.2, u.fits) } in
    subst (TookFeatures (suc count) before bytes) (ok_is _ _ b.2) it

features_again : (before : Option (List ℕ)) (fs : List Feature) (rest : List ℕ) → FeaturesFit before fs
    → features_at (length fs) before (flat_map feature_bytes fs ++ rest) ≡ Ok (fs, rest)
unfolding features_at
features_again before [] rest fits = refl
features_again before (f ∷ fs) rest fits =
    let regrouped : flat_map feature_bytes (f ∷ fs) ++ rest ≡ feature_bytes f ++ (flat_map feature_bytes fs ++ rest) =
    ap (λ (x : List ℕ). x ++ rest) (flat_map-cons feature_bytes f fs) ∙ append_assoc (feature_bytes f) (flat_map feature_bytes fs) rest in
    ap (features_at (suc (length fs)) before) regrouped
    ∙ rw (
      feature_again before f (flat_map feature_bytes fs ++ rest) (fits.0, fits.1, fits.2),
      features_again (Some f.id) fs rest fits.3,
    ) refl

-- ---- counts
abbrev IsFew : ℕ → Type 0
IsFew n = n ≤ 256

few_takes : (bytes : List ℕ) (x : ℕ × List ℕ) → IsBytes bytes → few_at bytes ≡ Ok x → Took (big_bytes 2) IsFew bytes x
unfolding few_at
few_takes bytes x fits e =
    let r = bind_ok (number_at 2 bytes) _ x e in
    let t = number_takes 2 back2 bytes r.0.0 r.0.1 fits r.1 in
    let g = guard_ok (ltb 256 r.0.0) Field _ x r.2 in
    let it : Took (big_bytes 2) IsFew bytes r.0 = record { takes = t.0; fits = at_most 256 r.0.0 g.0 } in
    subst (Took (big_bytes 2) IsFew bytes) (ok_is _ _ g.1) it

few_again : (n : ℕ) (rest : List ℕ) → n ≤ 256 → few_at (big_bytes 2 n ++ rest) ≡ Ok (n, rest)
unfolding few_at
few_again n rest low =
    let first = number_again 2 n rest (omega (arith, low)) in
    let right : ltb 256 n ≡ false = grind (arith, nat_tests) in
    rw (first, right) refl

record TookAll (bytes : List ℕ) (x : List Feature × List ℕ) : Type 0 where
  takes : Takes bytes (counted feature_bytes x.0) x.1
  few : length x.0 ≤ 256
  fits : FeaturesFit None x.0

all_take : (bytes : List ℕ) (x : List Feature × List ℕ) → IsBytes bytes → all_features_at bytes ≡ Ok x → TookAll bytes x
unfolding all_features_at
all_take bytes x fits e =
    let a = bind_ok (few_at bytes) _ x e in
    let t = few_takes bytes a.0 fits a.1 in
    let u = features_take a.0.0 None a.0.1 x t.takes.rest_fits a.2 in
    record {
      takes = subst (λ (n : ℕ). Takes bytes (big_bytes 2 n ++ flat_map feature_bytes x.0) x.1) (sym u.counted)
          (Takes-then bytes (big_bytes 2 a.0.0) a.0.1 (flat_map feature_bytes x.0) x.1 t.takes u.takes);
      few = subst (λ (n : ℕ). n ≤ 256) (sym u.counted) t.fits;
      fits = u.fits;
    }

all_again : (fs : List Feature) (rest : List ℕ) → length fs ≤ 256 → FeaturesFit None fs
    → all_features_at (counted feature_bytes fs ++ rest) ≡ Ok (fs, rest)
unfolding all_features_at
all_again fs rest few fits =
    ap all_features_at (append_assoc (big_bytes 2 (length fs)) (flat_map feature_bytes fs) rest)
    ∙ rw (few_again (length fs) (flat_map feature_bytes fs ++ rest) few) (features_again None fs rest fits)

-- ---- clients
abbrev reply_bytes : Reply → List ℕ
reply_bytes reply = reply_code reply ∷ []

abbrev AnyReply : Reply → Type 0
AnyReply reply = Unit {0}

reply_case : (bytes rest : List ℕ) (code : ℕ) (reply : Reply) (x : Reply × List ℕ) → Takes bytes (code ∷ []) rest → code
    ≡ reply_code reply → ◌≡◌ {A = Read Reply} (Ok (reply, rest)) (Ok x) → Took reply_bytes AnyReply bytes x
reply_case bytes rest code reply x t is e =
    let it : Took reply_bytes AnyReply bytes (reply, rest) = record
    { takes = subst (λ (b : ℕ). Takes bytes (b ∷ []) rest) is t; fits = tt } in
    subst (Took reply_bytes AnyReply bytes) (ok_is _ _ e) it

reply_takes : (bytes : List ℕ) (x : Reply × List ℕ) → IsBytes bytes → reply_at bytes ≡ Ok x → Took reply_bytes AnyReply bytes x
unfolding reply_at
reply_takes bytes x fits e =
    let b = bind_ok (byte_at bytes) _ x e in
    let t = byte_takes bytes b.0.0 b.0.1 fits b.1 in
    elim (chosen (eqb b.0.0 0) _ _ x b.2) [
      | inl one ↦ reply_case bytes b.0.1 b.0.0 Done x t.0 (is_equal _ _ one.0) one.1
      | inr r1 ↦ elim (chosen (eqb b.0.0 21) _ _ x r1.1) [
        | inl two ↦ reply_case bytes b.0.1 b.0.0 Unknown x t.0 (is_equal _ _ two.0) two.1
        | inr r2 ↦ elim (chosen (eqb b.0.0 22) _ _ x r2.1) [
          | inl three ↦ reply_case bytes b.0.1 b.0.0 NotLater x t.0 (is_equal _ _ three.0) three.1
          | inr r3 ↦ elim (chosen (eqb b.0.0 23) _ _ x r3.1) [
            | inl four ↦ reply_case bytes b.0.1 b.0.0 Full x t.0 (is_equal _ _ four.0) four.1
            | inr r4 ↦ elim (chosen (eqb b.0.0 24) _ _ x r4.1) [
              | inl five ↦ reply_case bytes b.0.1 b.0.0 TooMany x t.0 (is_equal _ _ five.0) five.1
              | inr none ↦ absurd (let bad = none.1 in cc)
            ]
          ]
        ]
      ]
    ]

reply_again : (reply : Reply) (rest : List ℕ) → reply_at (reply_bytes reply ++ rest) ≡ Ok (reply, rest)
unfolding reply_at
reply_again Done rest = refl
reply_again Unknown rest = refl
reply_again NotLater rest = refl
reply_again Full rest = refl
reply_again TooMany rest = refl

abbrev session_bytes : Session → List ℕ
session_bytes s = big_bytes 8 s.number ++ reply_code s.reply ∷ []

session_takes : (bytes : List ℕ) (x : Session × List ℕ) → IsBytes bytes → session_at bytes ≡ Ok x
    → Took session_bytes SessionFits bytes x
unfolding session_at request_number_at
session_takes bytes x fits e =
    let a = bind_ok (request_number_at bytes) _ x e in
    let r = bind_ok (number_at 8 bytes) _ a.0 a.1 in
    let t = number_takes 8 back8 bytes r.0.0 r.0.1 fits r.1 in
    let g = guard_ok (eqb r.0.0 0) Field _ a.0 r.2 in
    let low : 1 ≤ r.0.0 = from_zero r.0.0 g.0 in
    let high : r.0.0 < 2 ^ 64 = let h = t.1 in omega (arith, h) in
    let b = bind_ok (reply_at a.0.1) _ x a.2 in
    let same : r.0 ≡ a.0 = ok_is _ _ g.1 in
    let n : Takes bytes (big_bytes 8 a.0.0) a.0.1 = subst (λ (y : ℕ × List ℕ). Takes bytes (big_bytes 8 y.0) y.1) same t.0 in
    let bounds : (1 ≤ a.0.0) × (a.0.0 < 2 ^ 64) = subst (λ (y : ℕ × List ℕ). (1 ≤ y.0) × (y.0 < 2 ^ 64)) same (low, high) in
    let u = reply_takes a.0.1 b.0 n.rest_fits b.1 in
    let made : Session = record { number = a.0.0; reply = b.0.0 } in
    let it : Took session_bytes SessionFits bytes (made, b.0.1) = record {
      takes = Takes-then bytes (big_bytes 8 a.0.0) a.0.1 (reply_bytes b.0.0) b.0.1 n u.takes;
      fits = bounds;
    } in
    subst (Took session_bytes SessionFits bytes) (ok_is _ _ b.2) it

session_again : (s : Session) (rest : List ℕ) → SessionFits s → session_at (session_bytes s ++ rest) ≡ Ok (s, rest)
unfolding session_at request_number_at
session_again s rest fits =
    let low = fits.0 in
    let high = fits.1 in
    let first = number_again 8 s.number (reply_bytes s.reply ++ rest) (omega (arith, high)) in
    let right : eqb s.number 0 ≡ false = grind (arith, nat_tests) in
    ap session_at (append_assoc (big_bytes 8 s.number) (reply_bytes s.reply) rest) ∙ rw (first, right, reply_again s.reply rest) refl

abbrev HeldFits : ℕ → Held → Type 0
HeldFits from h = (from ≤ h.client) × (h.client < 256) × SessionFits h.session

client_takes : (from : ℕ) (bytes : List ℕ) (x : Held × List ℕ) → IsBytes bytes → client_from from bytes ≡ Ok x
    → Took client_bytes (HeldFits from) bytes x
unfolding client_from
client_takes from bytes x fits e =
    let a = bind_ok (byte_at bytes) _ x e in
    let t = byte_takes bytes a.0.0 a.0.1 fits a.1 in
    let g = guard_ok (ltb a.0.0 from) Field _ x a.2 in
    let b = bind_ok (session_at a.0.1) _ x g.1 in
    let u = session_takes a.0.1 b.0 t.0.rest_fits b.1 in
    let made : Held = record { client = a.0.0; session = b.0.0 } in
    let it : Took client_bytes (HeldFits from) bytes (made, b.0.1) = record {
      takes = Takes-then bytes (a.0.0 ∷ []) a.0.1 (session_bytes b.0.0) b.0.1 t.0 u.takes;
      fits = (at_most a.0.0 from g.0, t.1, u.fits);
    } in
    subst (Took client_bytes (HeldFits from) bytes) (ok_is _ _ b.2) it

client_again : (from : ℕ) (h : Held) (rest : List ℕ) → HeldFits from h → client_from from (client_bytes h ++ rest) ≡ Ok (h, rest)
unfolding client_from
client_again from h rest fits =
    let le = fits.0 in
    let right : ltb h.client from ≡ false = grind (arith, nat_tests) in
    rw (right, session_again h.session rest fits.2) refl

-- clients from one on, each after the one before it
abbrev pub HeldsFit : ℕ → List Held → Type 0
HeldsFit from [] = Unit {0}
HeldsFit from (h ∷ hs) = HeldFits from h × HeldsFit (h.client + 1) hs

record TookClients (count from : ℕ) (bytes : List ℕ) (x : List Held × List ℕ) : Type 0 where
  takes : Takes bytes (flat_map client_bytes x.0) x.1
  counted : length x.0 ≡ count
  fits : HeldsFit from x.0

clients_take : (count from : ℕ) (bytes : List ℕ) (x : List Held × List ℕ) → IsBytes bytes
    → clients_at count from bytes ≡ Ok x → TookClients count from bytes x
unfolding clients_at
clients_take zero from bytes x fits e =
    let it : TookClients 0 from bytes ([], bytes) = record { takes = record { parts = refl; rest_fits = fits }; counted = refl; fits = tt }
    in
    subst (TookClients 0 from bytes) (ok_is _ _ e) it
clients_take (suc count) from bytes x fits e =
    let a = bind_ok (client_from from bytes) _ x e in
    let b = bind_ok (clients_at count (a.0.0.client + 1) a.0.1) _ x a.2 in
    let t = client_takes from bytes a.0 fits a.1 in
    let u = clients_take count (a.0.0.client + 1) a.0.1 b.0 t.takes.rest_fits b.1 in
    let both = Takes-then bytes (client_bytes a.0.0) a.0.1 (flat_map client_bytes b.0.0) b.0.1 t.takes u.takes in
    let made : List Held × List ℕ = (a.0.0 ∷ b.0.0, b.0.1) in
    let it : TookClients (suc count) from bytes made =
    record { takes = rw flat_map-cons both; counted = ap suc u.counted; fits = (t.fits, u.fits) } in
    subst (TookClients (suc count) from bytes) (ok_is _ _ b.2) it

clients_again : (from : ℕ) (hs : List Held) (rest : List ℕ) → HeldsFit from hs
    → clients_at (length hs) from (flat_map client_bytes hs ++ rest) ≡ Ok (hs, rest)
unfolding clients_at
clients_again from [] rest fits = refl
clients_again from (h ∷ hs) rest fits =
    let regrouped : flat_map client_bytes (h ∷ hs) ++ rest ≡ client_bytes h ++ (flat_map client_bytes hs ++ rest) =
    ap (λ (x : List ℕ). x ++ rest) (flat_map-cons client_bytes h hs) ∙ append_assoc (client_bytes h) (flat_map client_bytes hs) rest in
    ap (clients_at (suc (length hs)) from) regrouped
    ∙ rw (client_again from h (flat_map client_bytes hs ++ rest) fits.0, clients_again (h.client + 1) hs rest fits.1) refl

record TookHeld (bytes : List ℕ) (x : List Held × List ℕ) : Type 0 where
  takes : Takes bytes (counted client_bytes x.0) x.1
  few : length x.0 ≤ 256
  fits : HeldsFit 0 x.0

held_take : (bytes : List ℕ) (x : List Held × List ℕ) → IsBytes bytes → all_clients_at bytes ≡ Ok x → TookHeld bytes x
unfolding all_clients_at
held_take bytes x fits e =
    let a = bind_ok (few_at bytes) _ x e in
    let t = few_takes bytes a.0 fits a.1 in
    let u = clients_take a.0.0 0 a.0.1 x t.takes.rest_fits a.2 in
    record {
      takes = subst (λ (n : ℕ). Takes bytes (big_bytes 2 n ++ flat_map client_bytes x.0) x.1) (sym u.counted)
          (Takes-then bytes (big_bytes 2 a.0.0) a.0.1 (flat_map client_bytes x.0) x.1 t.takes u.takes);
      few = subst (λ (n : ℕ). n ≤ 256) (sym u.counted) t.fits;
      fits = u.fits;
    }

held_again : (hs : List Held) (rest : List ℕ) → length hs ≤ 256 → HeldsFit 0 hs
    → all_clients_at (counted client_bytes hs ++ rest) ≡ Ok (hs, rest)
unfolding all_clients_at
held_again hs rest few fits =
    ap all_clients_at (append_assoc (big_bytes 2 (length hs)) (flat_map client_bytes hs) rest)
    ∙ rw (few_again (length hs) (flat_map client_bytes hs ++ rest) few) (clients_again 0 hs rest fits)

-- ---- the whole
snapshot_parts : (bytes : List ℕ) (fs : List Feature) (hs : List Held) → IsBytes bytes → snapshot_at bytes ≡ Ok (fs, hs)
    → (bytes ≡ counted feature_bytes fs ++ counted client_bytes hs) × (length fs ≤ 256) × FeaturesFit None fs × HeldsFit 0 hs
unfolding snapshot_at
snapshot_parts bytes fs hs fits e =
    let a = bind_ok (all_features_at bytes) _ (fs, hs) e in
    let b = bind_ok (all_clients_at a.0.1) _ (fs, hs) a.2 in
    let t = all_take bytes a.0 fits a.1 in
    let u = held_take a.0.1 b.0 t.takes.rest_fits b.1 in
    let g = passed_pair (eqb (length b.0.1) 0) (a.0.0, b.0.0) (fs, hs) b.2 in
    let none : b.0.1 ≡ [] = no_more b.0.1 g.0 in
    let same : (a.0.0, b.0.0) ≡ (fs, hs) = g.1 in
    let whole : bytes ≡ counted feature_bytes a.0.0 ++ counted client_bytes b.0.0 =
    t.takes.parts ∙ ap (λ (x : List ℕ). counted feature_bytes a.0.0 ++ x)
    (u.takes.parts ∙ ap (λ (x : List ℕ). counted client_bytes b.0.0 ++ x) none ∙ append-nil (counted client_bytes b.0.0)) in
    subst (λ (p : List Feature × List Held). (bytes ≡ counted feature_bytes p.0 ++ counted client_bytes p.1) × (length p.0 ≤ 256)
    × FeaturesFit None p.0 × HeldsFit 0 p.1) same (whole, t.few, t.fits, u.fits)
  where
    passed_pair : {A : Type 0} (b : Bool) (x y : A) → (if b then Ok x else Err Field) ≡ Ok y → (b ≡ true) × (x ≡ y)
    passed_pair true x y e = (refl, cc)
    passed_pair false x y e = absurd cc

    no_more : (xs : List ℕ) → eqb (length xs) 0 ≡ true → xs ≡ []
    no_more [] e = refl
    no_more (x ∷ xs) e = let n = is_equal (length (x ∷ xs)) 0 e in absurd (omega (arith, n))

-- ---- parts that fit, and chains that reading makes
features_from : (before : Option (List ℕ)) (f : Feature) (fs : List Feature) → ComesAfter before f.id → Ascends (f ∷ fs)
    → ByRecursion FeatureFits (f ∷ fs) → FeaturesFit before (f ∷ fs)
features_from before f [] after ascends fits = (fits.0.id, fits.0.seq, after, tt)
features_from before f (g ∷ fs) after ascends fits =
    let next : slice_cmp nat_cmp f.id g.id ≡ Less = ascends 0 1 f (omega arith) (omega arith) in
    let rest : Ascends (g ∷ fs) = λ i j d lt within. ascends (suc i) (suc j) d (omega (arith, lt)) (omega (arith, within)) in
    (fits.0.id, fits.0.seq, after, features_from (Some f.id) g fs next rest fits.1)

features_fit : (fs : List Feature) → Ascends fs → ByRecursion FeatureFits fs → FeaturesFit None fs
features_fit [] ascends fits = tt
features_fit (f ∷ fs) ascends fits = features_from None f fs tt ascends fits

each_fits : (before : Option (List ℕ)) (fs : List Feature) → FeaturesFit before fs → ByRecursion FeatureFits fs
each_fits before [] fits = tt
each_fits before (f ∷ fs) fits = (record { id = fits.0; seq = fits.1 }, each_fits (Some f.id) fs fits.3)

helds_fit : (from : ℕ) (hs : List Held) → AscendFrom from hs → ByRecursion ClientFits hs → HeldsFit from hs
helds_fit from [] ascend fits = tt
helds_fit from (h ∷ hs) ascend fits =
    let own : HeldFits from h = (ascend.0, fits.0.client, (fits.0.from_one, fits.0.short)) in
    (own, helds_fit (h.client + 1) hs ascend.1 fits.1)

clients_fit : (from : ℕ) (hs : List Held) → HeldsFit from hs → ByRecursion ClientFits hs
clients_fit from [] fits = tt
clients_fit from (h ∷ hs) fits =
    (record { client = fits.0.1; from_one = fits.0.2.0; short = fits.0.2.1 }, clients_fit (h.client + 1) hs fits.1)

-- they ascend, so they are no more than there are values of a byte
few_helds : (from : ℕ) (hs : List Held) → from ≤ 256 → HeldsFit from hs → from + length hs ≤ 256
few_helds from [] le fits = omega (arith, le)
few_helds from (h ∷ hs) le fits =
    let low = fits.0.0 in
    let high = fits.0.1 in
    let more = few_helds (h.client + 1) hs (omega (arith, high)) fits.1 in omega (arith, more, low)

pub held_ascends : (from k : ℕ) (table : List (Option Session)) → from ≤ k → AscendFrom from (held_from k table)
held_ascends from k [] le = tt
held_ascends from k (None ∷ more) le = held_ascends from (k + 1) more (omega (arith, le))
held_ascends from k (Some s ∷ more) le = (le, held_ascends (k + 1) (k + 1) more (omega arith))

-- what fits is read again
parts_again : (fs : List Feature) (hs : List Held) → PartsFit fs hs → AreAscending hs → snapshot_at (text_bytes fs hs) ≡ Ok (fs, hs)
unfolding snapshot_at
parts_again fs hs fits ascend =
    let helds : HeldsFit 0 hs = helds_fit 0 hs ascend (recursion_from_All ClientFits hs fits.clients) in
    let few : length hs ≤ 256 = let l = few_helds 0 hs (omega arith) helds in omega (arith, l) in
    let chain : FeaturesFit None fs = features_fit fs fits.database.ascending (recursion_from_All FeatureFits fs fits.features) in
    let second : all_clients_at (counted client_bytes hs) ≡ Ok (hs, []) =
    ap all_clients_at (sym (append-nil (counted client_bytes hs))) ∙ held_again hs [] few helds in
    rw (all_again fs (counted client_bytes hs) fits.database.not_too_many chain, second) refl

pub one_parts : (fs gs : List Feature) (hs is : List Held) → PartsFit fs hs → AreAscending hs → PartsFit gs is → AreAscending is
    → text_bytes fs hs ≡ text_bytes gs is → (fs ≡ gs) × (hs ≡ is)
one_parts fs gs hs is fits ascend other ascend_too e =
    let same = ok_is (fs, hs) (gs, is) (sym (parts_again fs hs fits ascend) ∙ ap snapshot_at e ∙ parts_again gs is other ascend_too) in
    (ap (λ (p : List Feature × List Held). p.0) same, ap (λ (p : List Feature × List Held). p.1) same)

abbrev machine_again : (m : MachineState) → MachineFits m → snapshot_at (snapshot_bytes m) ≡ Ok (m.features, held m.sessions)
machine_again m fits = parts_again m.features (held m.sessions) fits.parts (held_ascends 0 0 m.sessions (omega arith))

-- what was read of a text is a machine with that text
pub restored_is : (bytes : List ℕ) (fs : List Feature) (table : List (Option Session)) → IsBytes bytes
    → snapshot_at bytes ≡ Ok (fs, held table) → length table ≡ 256 → IsDatabase fs
    → (snapshot_bytes (record { features = fs; sessions = table }) ≡ bytes) × MachineFits (record { features = fs; sessions = table })
restored_is bytes fs table fits e clients database =
    let it = snapshot_parts bytes fs (held table) fits e in
    let parts : PartsFit fs (held table) = record {
      database = database;
      features = All-from_recursion FeatureFits fs (each_fits None fs it.2);
      clients = All-from_recursion ClientFits (held table) (clients_fit 0 (held table) it.3);
    } in
    (sym it.0, record { parts = parts; clients = clients })

-- no machine has a text that could not be read
pub none_has : (bytes : List ℕ) → ((x : List Feature × List Held) → snapshot_at bytes ≢ Ok x)
    → (m : MachineState) → MachineFits m → snapshot_bytes m ≢ bytes
none_has bytes none m fits same =
    none (m.features, held m.sessions) (ap snapshot_at (sym same) ∙ machine_again m fits)

-- ---- a text has one machine
held_late : (k n : ℕ) (table : List (Option Session)) (h : Held) (hs : List Held) → n < k → held_from k table ≡ h ∷ hs → h.client ≢ n
held_late k n [] h hs lt e same = absurd cc
held_late k n (None ∷ more) h hs lt e same = held_late (k + 1) n more h hs (omega (arith, lt)) e same
held_late k n (Some s ∷ more) h hs lt e same =
    let first : k ≡ h.client = ap client_or (ap head_or e) in omega (arith, lt, first, same)
  where
    head_or : List Held → Option Held
    head_or [] = None
    head_or (x ∷ xs) = Some x

    client_or : Option Held → ℕ
    client_or None = k
    client_or (Some x) = x.client

first_of : (h g : Held) (hs gs : List Held) → (h ∷ hs) ≡ (g ∷ gs) → (h ≡ g) × (hs ≡ gs)
first_of h g hs gs e = (cc, cc)

one_table : (k : ℕ) (t u : List (Option Session)) → held_from k t ≡ held_from k u → length t ≡ length u → t ≡ u
one_table k [] [] e l = refl
one_table k [] (o ∷ u) e l = absurd (omega (arith, l))
one_table k (o ∷ t) [] e l = absurd (omega (arith, l))
one_table k (None ∷ t) (None ∷ u) e l = ap (λ (x : List (Option Session)). None ∷ x) (one_table (k + 1) t u e (omega (arith, l)))
one_table k (Some s ∷ t) (Some r ∷ u) e l =
    let both = first_of _ _ _ _ e in
    let same : s ≡ r = ap (λ (h : Held). h.session) both.0 in
    ap (λ (x : Session). Some x ∷ t) same ∙ ap (λ (x : List (Option Session)). Some r ∷ x) (one_table (k + 1) t u both.1 (omega (arith, l)))
one_table k (None ∷ t) (Some r ∷ u) e l =
    absurd (held_late (k + 1) k t (record { client = k; session = r }) (held_from (k + 1) u) (omega arith) e refl)
one_table k (Some s ∷ t) (None ∷ u) e l =
    absurd (held_late (k + 1) k u (record { client = k; session = s }) (held_from (k + 1) t) (omega arith) (sym e) refl)

pub one_machine_of_text : (m n : MachineState) → MachineFits m → MachineFits n → snapshot_bytes m ≡ snapshot_bytes n → m ≡ n
one_machine_of_text m n fits other e =
    let same = one_parts m.features n.features (held m.sessions) (held n.sessions) fits.parts
    (held_ascends 0 0 m.sessions (omega arith)) other.parts (held_ascends 0 0 n.sessions (omega arith)) e in
    let sessions : m.sessions ≡ n.sessions = one_table 0 m.sessions n.sessions same.1 (fits.clients ∙ sym other.clients) in
    λ i. record { features = same.0 i; sessions = sessions i }

-- where a fault is told that isn't want of memory, nothing was read
pub no_value : {Y : Type 0} (e : FieldFault) (read : Result Y FieldFault) → snap_fault e ≡ snap.Damaged → FieldFails e read → (x : Y) → read ≢ Ok x
no_value faults.Memory read d f x is = absurd (cc d)
no_value faults.Short read d f x is = absurd (cc (f, is))
no_value faults.Field read d f x is = absurd (cc (f, is))

pub same_error : {T E : Type 0} {e f : E} → IsErrOf {T = T} (Err e) f → e ≡ f
same_error is = cc is

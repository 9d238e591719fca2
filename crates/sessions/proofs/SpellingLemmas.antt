-- How many bytes the parts of a snapshot text take.
use Rattle.std.proofs.Common.{◌≡◌, ℕ, ◌+◌, ◌*◌, ◌<◌, List, [], ◌∷◌, ◌++◌, length, take, get_or, slice_get, Some, refl, sym, ap, ◌∙◌, arith}
use Rattle.std.specs.List.{flat_map}
use Rattle.std.proofs.lemmas.List.{length-append, take_more}
use Rattle.std.proofs.lemmas.Option.{slice_get-get_or}
use Rattle.std.proofs.lemmas.List.Concat.{flat_map-cons}
use Rattle.byteorder.specs.Endian.{big_bytes}
use Rattle.byteorder.specs.Numbers.{length-bytes_high_first}
use Rattle.mfjson.specs.declared.feature.Feature.{Feature}
use Rattle.store.specs.Replies.{reply_code}
use Rattle.fields.specs.Spelling.{id_bytes}
use Rattle.fields.proofs.LengthLemmas.{put_len}
use Rattle.sessions.specs.Snapshots.{feature_bytes, client_bytes, counted, text_bytes}
use Rattle.sessions.specs.declared.session.Held.{Held}

counted_len : {A : Type 0} (spell : A → List ℕ) (xs : List A) → length (counted spell xs) ≡ 2 + length (flat_map spell xs)
counted_len spell xs =
    length-append (big_bytes 2 (length xs)) (flat_map spell xs)
    ∙ (let two = length-bytes_high_first 2 (length xs) in omega (arith, two))

pub feature_len : (f : Feature) → length (feature_bytes f) ≡ 4 + length f.id + 24 * length f.seq.points
feature_len f = let it = put_len (id_bytes f.id) f.seq in omega (arith, it)

client_len : (h : Held) → length (client_bytes h) ≡ 10
client_len h =
    let number = big_bytes 8 h.session.number in
    let eight = length-bytes_high_first 8 h.session.number in
    let whole = length-append number (reply_code h.session.reply ∷ []) in omega (arith, eight, whole)

clients_len : (hs : List Held) → length (flat_map client_bytes hs) ≡ 10 * length hs
clients_len [] = refl
clients_len (h ∷ hs) =
    ap length (flat_map-cons client_bytes h hs) ∙ length-append (client_bytes h) (flat_map client_bytes hs)
    ∙ (let rest = clients_len hs in let one = client_len h in omega (arith, rest, one))

pub text_len : (fs : List Feature) (hs : List Held)
    → length (text_bytes fs hs) ≡ 4 + length (flat_map feature_bytes fs) + 10 * length hs
text_len fs hs =
    let whole = length-append (counted feature_bytes fs) (counted client_bytes hs) in
    let front = counted_len feature_bytes fs in
    let back = counted_len client_bytes hs in
    let clients = clients_len hs in omega (arith, whole, front, back, clients)

-- one feature more
pub features_more : (fs : List Feature) (f : Feature)
    → length (flat_map feature_bytes (fs ++ f ∷ [])) ≡ length (flat_map feature_bytes fs) + length (feature_bytes f)
features_more [] f =
    ap length (flat_map-cons feature_bytes f []) ∙ length-append (feature_bytes f) [] ∙ omega arith
features_more (g ∷ fs) f =
    let first = ap length (flat_map-cons feature_bytes g (fs ++ f ∷ [])) in
    let long = length-append (feature_bytes g) (flat_map feature_bytes (fs ++ f ∷ [])) in
    let short = ap length (flat_map-cons feature_bytes g fs) in
    let own = length-append (feature_bytes g) (flat_map feature_bytes fs) in
    let rest = features_more fs f in omega (arith, first, long, short, own, rest)

-- the feature at a place, and those before it
pub there : (fs : List Feature) (i : ℕ) (f : Feature) → i < length fs → slice_get fs i ≡ Some f → get_or fs i f ≡ f
there fs i f lt e = let both : Some (get_or fs i f) ≡ Some f = sym (slice_get-get_or fs i f lt) ∙ e in cc

pub one_more : (fs : List Feature) (i : ℕ) (f : Feature) → i < length fs → slice_get fs i ≡ Some f
    → take (i + 1) fs ≡ take i fs ++ f ∷ []
one_more fs i f lt e = take_more fs i f lt ∙ ap (λ (g : Feature). take i fs ++ g ∷ []) (there fs i f lt e)

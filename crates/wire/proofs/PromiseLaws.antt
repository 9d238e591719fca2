-- Votes, refusals, and what promises tell: what is read was spelled so, and what is spelled so is read, whatever follows.
use Rattle.std.proofs.Common.{◌≡◌, ℕ, zero, suc, ◌+◌, ◌<◌, ◌≤◌, false, leb, ltb, ◌||◌, List, [], ◌∷◌}
use Rattle.std.proofs.Common.{◌++◌, length, Ok, refl, sym, ap, subst, ◌∙◌, append_assoc, arith}
use Rattle.std.specs.List.{flat_map, AllByRecursion}
use Rattle.std.proofs.lemmas.Bool.Decides.{nat_tests}
use Rattle.std.proofs.lemmas.List.Concat.{flat_map-cons}
use Rattle.synod.specs.Ballots.{rank}
use Rattle.synod.specs.declared.ballot.Ballot.{Ballot}
use Rattle.synod.specs.declared.vote.Vote.{Vote}
use Rattle.sessions.specs.declared.command.Command.{Command}
use Rattle.wire.specs.declared.frames.fault.WireFault.TheVariants.{Field}
use Rattle.wire.specs.declared.frames.promise.TheConstants.{MOST_ENTRIES}
use Rattle.wire.specs.Promises.{Promised, Refused, IsToldVote, AreTold, IsPromise}
use Rattle.wire.specs.Spelling.{ballot_bytes, BallotFits, slot_bytes, SlotFits, command_bytes}
use Rattle.wire.specs.FrameSpelling.{vote_bytes, entry_bytes, promise_bytes, refusal_bytes, VoteFits, PromiseFits, NackFits}
use Rattle.fields.specs.Reading.{byte_at}
use Rattle.wire.specs.Reading.{ballot_at, slot_at, command_at}
use Rattle.wire.specs.FrameReading.{range_at, few_at, slot_within, ballot_up_to, entry_at, entries_at, told_at, promise_at}
use Rattle.wire.specs.FrameReading.{ballot_above, nack_at, vote_at}
use Rattle.fields.proofs.FieldLemmas.{IsBytes, bind_ok, guard_ok, ok_is, Takes, Takes-then, Took, byte_takes, at_most}
use Rattle.wire.proofs.WideLemmas.{bind_wide, neither}
use Rattle.wire.proofs.BallotLaws.{ballot_takes, ballot_again, slot_takes, slot_again}
use Rattle.wire.proofs.CommandLaws.{command_takes, command_again}

-- ---- votes
pub vote_takes : (nodes : ℕ) → nodes ≤ 7 → (bytes : List ℕ) (x : Vote Command × List ℕ) → IsBytes bytes → vote_at nodes bytes ≡ Ok x
    → Took vote_bytes (VoteFits nodes) bytes x
unfolding vote_at
vote_takes nodes few bytes x fits e =
    let b = bind_ok (ballot_at nodes bytes) _ x e in
    let tb = ballot_takes nodes few bytes b.0 fits b.1 in
    let s = bind_ok (slot_at b.0.1) _ x b.2 in
    let ts = slot_takes b.0.1 s.0 tb.takes.rest_fits s.1 in
    let c = bind_ok (command_at s.0.1) _ x s.2 in
    let tc = command_takes s.0.1 c.0 ts.takes.rest_fits c.1 in
    let later = Takes-then b.0.1 (slot_bytes s.0.0) s.0.1 (command_bytes c.0.0) c.0.1 ts.takes tc.takes in
    let all = Takes-then bytes (ballot_bytes b.0.0) b.0.1 (slot_bytes s.0.0 ++ command_bytes c.0.0) c.0.1 tb.takes later in
    let made : Vote Command = record { slot = s.0.0; ballot = b.0.0; command = c.0.0 } in
    let fit : VoteFits nodes made = record { slot = ts.fits; ballot = tb.fits; command = tc.fits } in
    let it : Took vote_bytes (VoteFits nodes) bytes (made, c.0.1) = record { takes = all; fits = fit } in
    subst (Took vote_bytes (VoteFits nodes) bytes) (ok_is _ _ c.2) it

-- three parts, and what follows
three : (a b c rest : List ℕ) → (a ++ (b ++ c)) ++ rest ≡ a ++ (b ++ (c ++ rest))
three a b c rest = append_assoc a (b ++ c) rest ∙ ap (λ (r : List ℕ). a ++ r) (append_assoc b c rest)

pub vote_again : (nodes : ℕ) (v : Vote Command) (rest : List ℕ) → VoteFits nodes v → vote_at nodes (vote_bytes v ++ rest) ≡ Ok (v, rest)
unfolding vote_at
vote_again nodes v rest fits =
    let command = command_bytes v.command ++ rest in
    ap (vote_at nodes) (three (ballot_bytes v.ballot) (slot_bytes v.slot) (command_bytes v.command) rest)
    ∙ rw (
      ballot_again nodes v.ballot (slot_bytes v.slot ++ command) fits.ballot,
      slot_again v.slot command fits.slot,
      command_again
          v.command rest fits.command,
    ) refl

-- ---- what promises tell
abbrev Within : ℕ → ℕ → ℕ → Type 0
Within from last s = SlotFits s × (from ≤ s) × (s ≤ last)

slot_within_takes : (from last : ℕ) (bytes : List ℕ) (x : ℕ × List ℕ) → IsBytes bytes → slot_within from last bytes ≡ Ok x
    → Took slot_bytes (Within from last) bytes x
unfolding slot_within
slot_within_takes from last bytes x fits e =
    let s = bind_ok (slot_at bytes) _ x e in
    let t = slot_takes bytes s.0 fits s.1 in
    let g = guard_ok (ltb s.0.0 from || ltb last s.0.0) Field _ x s.2 in
    let n = neither _ _ g.0 in
    let it : Took slot_bytes (Within from last) bytes s.0 = record
    { takes = t.takes; fits = (t.fits, at_most s.0.0 from n.0, at_most last s.0.0 n.1) } in
    subst (Took slot_bytes (Within from last) bytes) (ok_is _ _ g.1) it

slot_within_again : (from last n : ℕ) (rest : List ℕ) → SlotFits n → from ≤ n → n ≤ last → slot_within from last (slot_bytes n ++ rest)
    ≡ Ok (n, rest)
unfolding slot_within
slot_within_again from last n rest fits low high =
    let one : ltb n from ≡ false = grind (arith, nat_tests) in
    let two : ltb last n ≡ false = grind (arith, nat_tests) in
    rw (slot_again n rest fits, one, two) refl

abbrev UpTo : ℕ → Ballot → Ballot → Type 0
UpTo nodes limit b = BallotFits nodes b × (rank b ≤ rank limit)

ballot_up_to_takes : (nodes : ℕ) → nodes ≤ 7 → (limit : Ballot) (bytes : List ℕ) (x : Ballot × List ℕ) → IsBytes bytes
    → ballot_up_to nodes limit bytes ≡ Ok x → Took ballot_bytes (UpTo nodes limit) bytes x
unfolding ballot_up_to
ballot_up_to_takes nodes few limit bytes x fits e =
    let b = bind_ok (ballot_at nodes bytes) _ x e in
    let t = ballot_takes nodes few bytes b.0 fits b.1 in
    let g = guard_ok (ltb (rank limit) (rank b.0.0)) Field _ x b.2 in
    let it : Took ballot_bytes (UpTo nodes limit) bytes b.0 = record
    { takes = t.takes; fits = (t.fits, at_most (rank limit) (rank b.0.0) g.0) } in
    subst (Took ballot_bytes (UpTo nodes limit) bytes) (ok_is _ _ g.1) it

ballot_up_to_again : (nodes : ℕ) (limit b : Ballot) (rest : List ℕ) → BallotFits nodes b → rank b ≤ rank limit
    → ballot_up_to nodes limit (ballot_bytes b ++ rest) ≡ Ok (b, rest)
unfolding ballot_up_to
ballot_up_to_again nodes limit b rest fits low =
    let right : ltb (rank limit) (rank b) ≡ false = grind (arith, nat_tests) in
    rw (ballot_again nodes b rest fits, right) refl

record EntryFits (nodes : ℕ) (limit : Ballot) (from last : ℕ) (v : Vote Command) : Type 0 where
  pub vote : VoteFits nodes v
  pub told : IsToldVote limit from last v

entry_takes : (nodes : ℕ) → nodes ≤ 7 → (limit : Ballot) (from last : ℕ) (bytes : List ℕ) (x : Vote Command × List ℕ) → IsBytes bytes
    → entry_at nodes limit from last bytes ≡ Ok x → Took entry_bytes (EntryFits nodes limit from last) bytes x
unfolding entry_at
entry_takes nodes few limit from last bytes x fits e =
    let s = bind_ok (slot_within from last bytes) _ x e in
    let ts = slot_within_takes from last bytes s.0 fits s.1 in
    let b = bind_ok (ballot_up_to nodes limit s.0.1) _ x s.2 in
    let tb = ballot_up_to_takes nodes few limit s.0.1 b.0 ts.takes.rest_fits b.1 in
    let c = bind_ok (command_at b.0.1) _ x b.2 in
    let tc = command_takes b.0.1 c.0 tb.takes.rest_fits c.1 in
    let later = Takes-then s.0.1 (ballot_bytes b.0.0) b.0.1 (command_bytes c.0.0) c.0.1 tb.takes tc.takes in
    let all = Takes-then bytes (slot_bytes s.0.0) s.0.1 (ballot_bytes b.0.0 ++ command_bytes c.0.0) c.0.1 ts.takes later in
    let made : Vote Command = record { slot = s.0.0; ballot = b.0.0; command = c.0.0 } in
    let fit : VoteFits nodes made = record { slot = ts.fits.0; ballot = tb.fits.0; command = tc.fits } in
    let told : IsToldVote limit from last made = record { not_before = ts.fits.1; not_after = ts.fits.2; not_above = tb.fits.1 } in
    let it : Took entry_bytes (EntryFits nodes limit from last) bytes (made, c.0.1) = record
    { takes = all; fits = record { vote = fit; told = told } } in
    subst (Took entry_bytes (EntryFits nodes limit from last) bytes) (ok_is _ _ c.2) it

entry_again : (nodes : ℕ) (limit : Ballot) (from last : ℕ) (v : Vote Command) (rest : List ℕ) → VoteFits nodes v → IsToldVote limit from last v
    → entry_at nodes limit from last (entry_bytes v ++ rest) ≡ Ok (v, rest)
unfolding entry_at
entry_again nodes limit from last v rest fits told =
    let command = command_bytes v.command ++ rest in
    ap (entry_at nodes limit from last) (three (slot_bytes v.slot) (ballot_bytes v.ballot) (command_bytes v.command) rest)
    ∙ rw (
      slot_within_again from last v.slot (ballot_bytes v.ballot ++ command) fits.slot told.not_before told.not_after,
      ballot_up_to_again nodes limit v.ballot command fits.ballot told.not_above,
      command_again v.command rest fits.command,
    ) refl

pub record TookEntries (nodes : ℕ) (limit : Ballot) (last count from : ℕ) (bytes : List ℕ) (x : List (Vote Command) × List ℕ) : Type 0 where
  pub takes : Takes bytes (flat_map entry_bytes x.0) x.1
  pub counted : length x.0 ≡ count
  pub votes : AllByRecursion (VoteFits nodes) x.0
  pub told : AreTold limit from last x.0

entries_take : (nodes : ℕ) → nodes ≤ 7 → (limit : Ballot) (last count from : ℕ) (bytes : List ℕ) (x : List (Vote Command) × List ℕ)
    → IsBytes bytes
    → entries_at nodes limit last count from bytes ≡ Ok x → TookEntries nodes limit last count from bytes x
unfolding entries_at
entries_take nodes few limit last zero from bytes x fits e =
    let none : AllByRecursion (VoteFits nodes) [] = tt in
    let it : TookEntries nodes limit last 0 from bytes ([], bytes) = record
    { takes = record { parts = refl; rest_fits = fits }; counted = refl; votes = none; told = tt } in
    subst (TookEntries nodes limit last 0 from bytes) (ok_is _ _ e) it
entries_take nodes few limit last (suc count) from bytes x fits e =
    let a = bind_ok (entry_at nodes limit from last bytes) _ x e in
    let t = entry_takes nodes few limit from last bytes a.0 fits a.1 in
    let b = bind_ok (entries_at nodes limit last count (a.0.0.slot + 1) a.0.1) _ x a.2 in
    let u = entries_take nodes few limit last count (a.0.0.slot + 1) a.0.1 b.0 t.takes.rest_fits b.1 in
    let both = Takes-then bytes (entry_bytes a.0.0) a.0.1 (flat_map entry_bytes b.0.0) b.0.1 t.takes u.takes in
    let made : List (Vote Command) × List ℕ = (a.0.0 ∷ b.0.0, b.0.1) in
    let it : TookEntries nodes limit last (suc count) from bytes made =
    record { takes = rw flat_map-cons both; counted = ap suc u.counted; votes = (t.fits.vote, u.votes); told = (t.fits.told, u.told) } in
    subst (TookEntries nodes limit last (suc count) from bytes) (ok_is _ _ b.2) it

entries_again : (nodes : ℕ) (limit : Ballot) (last from : ℕ) (vs : List (Vote Command)) (rest : List ℕ) → AllByRecursion (VoteFits nodes) vs
    → AreTold limit from last vs
    → entries_at nodes limit last (length vs) from (flat_map entry_bytes vs ++ rest) ≡ Ok (vs, rest)
unfolding entries_at
entries_again nodes limit last from [] rest fits told = refl
entries_again nodes limit last from (v ∷ vs) rest fits told =
    let regrouped : flat_map entry_bytes (v ∷ vs) ++ rest ≡ entry_bytes v ++ (flat_map entry_bytes vs ++ rest) =
    ap (λ (x : List ℕ). x ++ rest) (flat_map-cons entry_bytes v vs) ∙ append_assoc (entry_bytes v) (flat_map entry_bytes vs) rest in
    ap (entries_at nodes limit last (suc (length vs)) from) regrouped
    ∙ rw (
      entry_again nodes limit from last v (flat_map entry_bytes vs ++ rest) fits.0 told.0,
      entries_again nodes limit last (v.slot + 1)
          vs rest fits.1 told.1,
    ) refl

abbrev range_bytes : ℕ × ℕ → List ℕ
range_bytes r = slot_bytes r.0 ++ slot_bytes r.1

record RangeFits (r : ℕ × ℕ) : Type 0 where
  pub first : SlotFits r.0
  pub last : SlotFits r.1
  pub in_order : r.0 ≤ r.1

range_takes : (bytes : List ℕ) (x : (ℕ × ℕ) × List ℕ) → IsBytes bytes → range_at bytes ≡ Ok x → Took range_bytes RangeFits bytes x
unfolding range_at
range_takes bytes x fits e =
    let f = bind_ok (slot_at bytes) _ x e in
    let tf = slot_takes bytes f.0 fits f.1 in
    let l = bind_ok (slot_at f.0.1) _ x f.2 in
    let tl = slot_takes f.0.1 l.0 tf.takes.rest_fits l.1 in
    let g = guard_ok (ltb l.0.0 f.0.0) Field _ x l.2 in
    let both = Takes-then bytes (slot_bytes f.0.0) f.0.1 (slot_bytes l.0.0) l.0.1 tf.takes tl.takes in
    let made : (ℕ × ℕ) × List ℕ = ((f.0.0, l.0.0), l.0.1) in
    let it : Took range_bytes RangeFits bytes made = record {
      takes = both;
      fits = record
          { first = tf.fits; last = tl.fits; in_order = at_most l.0.0 f.0.0 g.0 };
    } in
    subst (Took range_bytes RangeFits bytes) (ok_is _ _ g.1) it

range_again : (first last : ℕ) (rest : List ℕ) → SlotFits first → SlotFits last → first ≤ last
    → range_at ((slot_bytes first ++ slot_bytes last) ++ rest) ≡ Ok ((first, last), rest)
unfolding range_at
range_again first last rest low high order =
    let right : ltb last first ≡ false = grind (arith, nat_tests) in
    ap range_at (append_assoc (slot_bytes first) (slot_bytes last) rest)
    ∙ rw (slot_again first (slot_bytes last ++ rest) low, slot_again last rest high, right) refl

abbrev told_bytes : List (Vote Command) → List ℕ
told_bytes vs = length vs ∷ flat_map entry_bytes vs

record ToldFits (nodes : ℕ) (limit : Ballot) (range : ℕ × ℕ) (vs : List (Vote Command)) : Type 0 where
  pub few : length vs ≤ MOST_ENTRIES
  pub votes : AllByRecursion (VoteFits nodes) vs
  pub told : AreTold limit range.0 range.1 vs

told_takes : (nodes : ℕ) → nodes ≤ 7 → (limit : Ballot) (range : ℕ × ℕ) (bytes : List ℕ) (x : List (Vote Command) × List ℕ) → IsBytes bytes
    → told_at nodes limit range bytes ≡ Ok x → Took told_bytes (ToldFits nodes limit range) bytes x
unfolding told_at few_at
told_takes nodes few limit range bytes x fits e =
    let n = bind_ok (few_at bytes) _ x e in
    let b = bind_wide (byte_at bytes) _ n.0 n.1 in
    let t = byte_takes bytes b.0.0 b.0.1 fits b.1 in
    let g = guard_ok (ltb MOST_ENTRIES b.0.0) Field _ n.0 b.2 in
    let same : b.0 ≡ n.0 = ok_is _ _ g.1 in
    let later = subst (λ (y : ℕ × List ℕ). entries_at nodes limit range.1 y.0 range.0 y.1 ≡ Ok x) (sym same) n.2 in
    let u = entries_take nodes few limit range.1 b.0.0 range.0 b.0.1 x t.0.rest_fits later in
    let both = Takes-then bytes (b.0.0 ∷ []) b.0.1 (flat_map entry_bytes x.0) x.1 t.0 u.takes in
    let low : b.0.0 ≤ MOST_ENTRIES = at_most MOST_ENTRIES b.0.0 g.0 in
    record {
      takes = subst (λ (m : ℕ). Takes bytes (m ∷ flat_map entry_bytes x.0) x.1) (sym u.counted) both;
      fits = record { few = subst (λ (m : ℕ). m ≤ MOST_ENTRIES) (sym u.counted) low; votes = u.votes; told = u.told };
    }

told_again : (nodes : ℕ) (limit : Ballot) (range : ℕ × ℕ) (vs : List (Vote Command)) (rest : List ℕ) → ToldFits nodes limit range vs
    → told_at nodes limit range (told_bytes vs ++ rest) ≡ Ok (vs, rest)
unfolding told_at few_at
told_again nodes limit range vs rest fits =
    let low : length vs ≤ MOST_ENTRIES = fits.few in
    let right : ltb MOST_ENTRIES (length vs) ≡ false = grind (arith, nat_tests) in
    rw right (entries_again nodes limit range.1 range.0 vs rest fits.votes fits.told)

pub promise_takes : (nodes : ℕ) → nodes ≤ 7 → (bytes : List ℕ) (x : Promised × List ℕ) → IsBytes bytes → promise_at nodes bytes ≡ Ok x
    → Took promise_bytes (PromiseFits nodes) bytes x
unfolding promise_at
promise_takes nodes few bytes x fits e =
    let b = bind_ok (ballot_at nodes bytes) _ x e in
    let tb = ballot_takes nodes few bytes b.0 fits b.1 in
    let r = bind_ok (range_at b.0.1) _ x b.2 in
    let tr = range_takes b.0.1 r.0 tb.takes.rest_fits r.1 in
    let v = bind_ok (told_at nodes b.0.0 r.0.0 r.0.1) _ x r.2 in
    let tv = told_takes nodes few b.0.0 r.0.0 r.0.1 v.0 tr.takes.rest_fits v.1 in
    let later = Takes-then b.0.1 (range_bytes r.0.0) r.0.1 (told_bytes v.0.0) v.0.1 tr.takes tv.takes in
    let all = Takes-then bytes (ballot_bytes b.0.0) b.0.1 (range_bytes r.0.0 ++ told_bytes v.0.0) v.0.1 tb.takes later in
    let made : Promised = record { ballot = b.0.0; first = r.0.0.0; last = r.0.0.1; entries = v.0.0 } in
    let promise : IsPromise made = record { in_order = tr.fits.in_order; few = tv.fits.few; told = tv.fits.told } in
    let fit : PromiseFits nodes made = record {
      ballot = tb.fits;
      first = tr.fits.first;
      last = tr.fits.last;
      promise = promise;
      entries =
          tv.fits.votes;
    } in
    let it : Took promise_bytes (PromiseFits nodes) bytes (made, v.0.1) = record { takes = all; fits = fit } in
    subst (Took promise_bytes (PromiseFits nodes) bytes) (ok_is _ _ v.2) it

pub promise_again : (nodes : ℕ) (p : Promised) (rest : List ℕ) → PromiseFits nodes p → promise_at nodes (promise_bytes p ++ rest)
    ≡ Ok (p, rest)
unfolding promise_at
promise_again nodes p rest fits =
    let told = told_bytes p.entries ++ rest in
    let fit : ToldFits nodes p.ballot (p.first, p.last) p.entries = record
    { few = fits.promise.few; votes = fits.entries; told = fits.promise.told } in
    ap (promise_at nodes) (three (ballot_bytes p.ballot) (slot_bytes p.first ++ slot_bytes p.last) (told_bytes p.entries) rest)
    ∙ rw (
      ballot_again nodes p.ballot ((slot_bytes p.first ++ slot_bytes p.last) ++ told) fits.ballot,
      range_again p.first p.last told fits.first fits.last fits.promise.in_order,
      told_again nodes p.ballot (p.first, p.last) p.entries rest fit,
    ) refl

-- ---- refusals
above : (k n : ℕ) → leb n k ≡ false → k < n
above k n e = grind (arith, nat_tests)

abbrev refused_by : Ballot → Ballot × List ℕ → Refused × List ℕ
refused_by ballot x = (record { ballot = ballot; promised = x.0 }, x.1)

pub nack_takes : (nodes : ℕ) → nodes ≤ 7 → (bytes : List ℕ) (x : Refused × List ℕ) → IsBytes bytes → nack_at nodes bytes ≡ Ok x
    → Took refusal_bytes (NackFits nodes) bytes x
unfolding nack_at ballot_above
nack_takes nodes few bytes x fits e =
    let b = bind_ok (ballot_at nodes bytes) _ x e in
    let tb = ballot_takes nodes few bytes b.0 fits b.1 in
    let p = bind_ok (ballot_above nodes b.0.0 b.0.1) _ x b.2 in
    let q = bind_ok (ballot_at nodes b.0.1) _ p.0 p.1 in
    let tq = ballot_takes nodes few b.0.1 q.0 tb.takes.rest_fits q.1 in
    let g = guard_ok (leb (rank q.0.0) (rank b.0.0)) Field _ p.0 q.2 in
    let both = Takes-then bytes (ballot_bytes b.0.0) b.0.1 (ballot_bytes q.0.0) q.0.1 tb.takes tq.takes in
    let made : Refused = record { ballot = b.0.0; promised = q.0.0 } in
    let fit : NackFits nodes made = record { ballot = tb.fits; promised = tq.fits; refusal = above (rank b.0.0) (rank q.0.0) g.0 } in
    let it : Took refusal_bytes (NackFits nodes) bytes (made, q.0.1) = record { takes = both; fits = fit } in
    let same : q.0 ≡ p.0 = ok_is _ _ g.1 in
    let end : (made, q.0.1) ≡ x = ap (refused_by b.0.0) same ∙ ok_is _ _ p.2 in
    subst (Took refusal_bytes (NackFits nodes) bytes) end it

pub nack_again : (nodes : ℕ) (n : Refused) (rest : List ℕ) → NackFits nodes n → nack_at nodes (refusal_bytes n ++ rest) ≡ Ok (n, rest)
unfolding nack_at ballot_above
nack_again nodes n rest fits =
    let low : rank n.ballot < rank n.promised = fits.refusal in
    let right : leb (rank n.promised) (rank n.ballot) ≡ false = grind (arith, nat_tests) in
    ap (nack_at nodes) (append_assoc (ballot_bytes n.ballot) (ballot_bytes n.promised) rest)
    ∙ rw (
      ballot_again nodes n.ballot (ballot_bytes n.promised ++ rest) fits.ballot,
      ballot_again nodes n.promised rest fits.promised,
      right,
    ) refl

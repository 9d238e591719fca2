-- What a node has learnt, and what it tells as learnt.
use Rattle.std.proofs.Common.{◌≡◌, ℕ, zero, suc, ◌+◌, ◌-◌, ◌<◌, ◌≤◌, ◌⊎◌, true, false, List, [], ◌∷◌, ◌++◌, length, slice_get}
use Rattle.std.proofs.Common.{Option, Some, None, IsSome, IfSome, MatchOption, option_map, inl, inr, refl, sym, ap, ◌∙◌, subst, arith}
use Rattle.std.proofs.lemmas.Option.{same_Some}
use Rattle.synod.specs.Records.{put}
use Rattle.synod.specs.declared.slot.TheConstants.{SLOTS}
use Rattle.synod.specs.declared.vote.Vote.{Vote}
use Rattle.synod.proofs.Puts.{put_cases, put_same}
use Rattle.stable.specs.Records.{Records}
use Rattle.stable.specs.declared.key.Key.TheVariants as key
use Rattle.acceptor.specs.Accepting.{Accepting, RecordsSay, floor_of}
use Rattle.acceptor.specs.Forms.{CheckpointFits}
use Rattle.acceptor.specs.Loading.{IsCheckpointOf}
use Rattle.acceptor.proofs.CheckpointLemmas.{one_that_fits}
use Rattle.sessions.specs.declared.command.Command.{Command}
use Rattle.learner.specs.Learning.{Learning, prefix, with_learnt, HearsVote, HearsDecided}
use Rattle.learner.specs.Learning.HearsVote.{ignores, hears, learns}
use Rattle.learner.specs.Learning.HearsDecided.{ignores_decided, learns_decided}
use Rattle.learner.specs.declared.learned.Learned.{Learned}
use Rattle.learner.proofs.PrefixLemmas.{unlearnt_prefix}
use Rattle.wire.specs.RecordForms.{Checkpointed, checkpoint_bytes}
use Rattle.wire.specs.declared.frames.envelope.Envelope.{Envelope}
use Rattle.node_model.specs.declared.input.Input.{Input}
use Rattle.node_model.specs.declared.outputs.LearntCommand.{LearntCommand}
use Rattle.node_model.specs.Composition.{IsMeaningOf, executed_from}
use Rattle.node_model.specs.Executing.{commands, with_command}
use Rattle.node_model.specs.Loading.{IsBaseOf, IsFresh, IsLoaded}
use Rattle.node_model.specs.Replicas.{ReplicaState, learnt_in, position}
use Rattle.node_model.specs.Outputs.{Response}
use Rattle.node_model.specs.Taking.{Takes, Hears, Learns}
use Rattle.node_model.proofs.Hearings.{Hearing, heard_of}
use Rattle.node_model.proofs.Hearings.Hearing.{of_vote, of_decision, of_text, of_nothing}
use Rattle.node_model.proofs.Keeping.{restored_learner, skipped_is}
use Rattle.node_model.proofs.Meanings.{learnt_below, meaning_begun}

-- ---- what a node newly learns it tells
pub record Tells (old new : ReplicaState) (said : Response) : Type 0 where
  pub told : (slot : ℕ) (c : Command) → learnt_in new slot ≡ Some c
      → (learnt_in old slot ≡ Some c) ⊎ (said.learnt ≡ Some (record { slot = slot; command = c }))
  pub news : (e : LearntCommand) → said.learnt ≡ Some e → (learnt_in new e.slot ≡ Some e.command) × (learnt_in old e.slot ≡ None)

abbrev entry : ℕ → Command → LearntCommand
entry slot c = record { slot = slot; command = c }

module _ (old new : ReplicaState) (said : Response) where
  -- nothing is learnt
  tells_nothing : new.learner.learnt ≡ old.learner.learnt → said.learnt ≡ None → Tells old new said
  tells_nothing same none = record {
    told = λ slot c there. inl (ap (λ (f : ℕ → Option Command). f slot) (sym same) ∙ there);
    news = λ e says. absurd (let clash : None ≡ Some e = sym none ∙ says in cc);
  }

  module _ (l : Learning) (c : Command) (asks : List Envelope) where
    -- a slot is newly learnt
    learns_tells : (slot : ℕ) → old.learner.learnt slot ≡ None → l ≡ with_learnt old.learner slot c
        → Learns old slot c l asks new said → Tells old new said
    learns_tells slot vacant same k =
        let learnt : new.learner.learnt ≡ put old.learner.learnt slot (Some c) =
        ap (λ (m : ReplicaState). m.learner.learnt) k.leaves ∙ ap (λ (x : Learning). x.learnt) same in
        let says : said.learnt ≡ Some (entry slot c) = ap (λ (r : Response). r.learnt) k.says in
        let there : new.learner.learnt slot ≡ Some c =
        ap (λ (f : ℕ → Option Command). f slot) learnt ∙ put_same old.learner.learnt slot (Some c) in
        record {
          told = λ s d here. put_cases
              (λ (o : Option Command). o ≡ Some d → (learnt_in old s ≡ Some d) ⊎ (said.learnt ≡ Some (entry s d)))
              old.learner.learnt slot (Some c) s
              (λ at e. inr (says ∙ ap (λ (i : ℕ). Some (entry i c)) (sym at)
              ∙ ap (λ (x : Command). Some (entry s x)) (same_Some c d e)))
              (λ other e. inl e)
              (ap (λ (f : ℕ → Option Command). f s) (sym learnt) ∙ here);
          news = λ e told. subst (λ (x : LearntCommand). (learnt_in new x.slot ≡ Some x.command) × (learnt_in old x.slot ≡ None))
              (same_Some (entry slot c) e (sym says ∙ told)) (there, vacant);
        }

    hears_tells : (o : Option Learned) (slot : ℕ) → o ≡ Some (record { slot = slot }) → old.learner.learnt slot ≡ None
        → l ≡ with_learnt old.learner slot c → Hears old c o l asks new said → Tells old new said
    hears_tells None slot e vacant same k = absurd (cc)
    hears_tells (Some learned) slot e vacant same k =
        let at : learned.slot ≡ slot = ap (λ (x : Learned). x.slot) (same_Some learned (record { slot = slot }) e) in
        learns_tells slot vacant same (subst (λ (s : ℕ). Learns old s c l asks new said) at k)

    hears_nothing : (o : Option Learned) → o ≡ None → l.learnt ≡ old.learner.learnt → Hears old c o l asks new said
        → Tells old new said
    hears_nothing None e same k =
        tells_nothing (ap (λ (m : ReplicaState). m.learner.learnt) k.0 ∙ same) (ap (λ (r : Response). r.learnt) k.1)
    hears_nothing (Some learned) e same k = absurd (cc)

  vote_tells : (from : ℕ) (v : Vote Command) (o : Option Learned) (l : Learning) → HearsVote old.learner from v o l
      → Hears old v.command o l [] new said → Tells old new said
  vote_tells from v o l (ignores never none same) k = hears_nothing l v.command [] o none (ap (λ (x : Learning). x.learnt) same) k
  vote_tells from v o l (hears counts undecided none same) k =
      hears_nothing l v.command [] o none (ap (λ (x : Learning). x.learnt) same) k
  vote_tells from v o l (learns counts decided some same) k =
      hears_tells l v.command [] o v.slot some counts.in_time.unlearnt same k

  decided_tells : (slot : ℕ) (c : Command) (asks : List Envelope) (o : Option Learned) (l : Learning)
      → HearsDecided old.learner slot c o l → Hears old c o l asks new said → Tells old new said
  decided_tells slot c asks o l (ignores_decided never none same) k =
      hears_nothing l c asks o none (ap (λ (x : Learning). x.learnt) same) k
  decided_tells slot c asks o l (learns_decided opened some same) k = hears_tells l c asks o slot some opened.unlearnt same k

  hearing_tells : (i : Input) → Hearing old i new said → Tells old new said
  hearing_tells i (of_vote from to v is (o, l, heard, k)) = vote_tells from v o l heard k
  hearing_tells i (of_decision from to slot c is (o, l, heard, k)) = decided_tells slot c _ o l heard k
  hearing_tells i (of_text h) =
      let target : ℕ = h.part.position in
      tells_nothing
      (ap (λ (l : Learning). l.learnt)
      (restored_learner old new said h.from target h.machine h.whole ∙ skipped_is old.learner target h.ahead))
      (ap (λ (r : Response). r.learnt) h.whole.says)
  hearing_tells i (of_nothing none) = tells_nothing (ap (λ (l : Learning). l.learnt) none.learner) none.learnt

  -- with a text that is restored nothing is learnt
  none_restored : (target : ℕ) (r : Response) → said ≡ r → r.restored ≡ None → said.restored ≡ Some target → said.learnt ≡ None
  none_restored target r says none is =
      absurd (let clash : None ≡ Some target = sym none ∙ ap (λ (x : Response). x.restored) (sym says) ∙ is in cc)

  heard_restored : (c : Command) (o : Option Learned) (l : Learning) (asks : List Envelope) (target : ℕ) → Hears old c o l asks new said
      → said.restored ≡ Some target → said.learnt ≡ None
  heard_restored c None l asks target k is = ap (λ (r : Response). r.learnt) k.1
  heard_restored c (Some learned) l asks target k is = none_restored target _ k.says refl is

  hearing_restored : (i : Input) (target : ℕ) → Hearing old i new said → said.restored ≡ Some target → said.learnt ≡ None
  hearing_restored i target (of_vote from to v at (o, l, heard, k)) is = heard_restored v.command o l [] target k is
  hearing_restored i target (of_decision from to slot c at (o, l, heard, k)) is = heard_restored c o l _ target k is
  hearing_restored i target (of_text h) is = ap (λ (r : Response). r.learnt) h.whole.says
  hearing_restored i target (of_nothing none) is = none.learnt

  pub takes_restored : (i : Input) → Takes old i new said → (target : ℕ) → said.restored ≡ Some target → said.learnt ≡ None
  takes_restored i k target is = hearing_restored i target (heard_of old new said i k) is

  pub takes_tells : (i : Input) → Takes old i new said → Tells old new said
  takes_tells i k = hearing_tells i (heard_of old new said i k)

-- ---- of what it is the meaning
get_behind : {A : Type 0} (xs ys : List A) (k : ℕ) → length xs ≤ k → slice_get (xs ++ ys) k ≡ slice_get ys (k - length xs)
get_behind [] ys k h = ap (λ (i : ℕ). slice_get ys i) (let e : k ≡ k - 0 = omega arith in e)
get_behind (x ∷ xs) ys zero h = absurd (omega (arith, h))
get_behind (x ∷ xs) ys (suc k) h =
    get_behind xs ys k (omega (arith, h))
    ∙ ap (λ (i : ℕ). slice_get ys i) (let e : k - length xs ≡ suc k - suc (length xs) = omega arith in e)

-- the first of them, where it is learnt, and those behind it
get_first : (o : Option Command) (cs : List Command) (c : Command) → IsSome o → slice_get (with_command o cs) 0 ≡ Some c → o ≡ Some c
get_first None cs c some h = absurd (let f : false ≡ true = some in cc)
get_first (Some d) cs c some h = h

get_next : (o : Option Command) (cs : List Command) (i : ℕ) → IsSome o → slice_get (with_command o cs) (suc i) ≡ slice_get cs i
get_next None cs i some = absurd (let f : false ≡ true = some in cc)
get_next (Some d) cs i some = refl

-- a command of those that are learnt from a slot on is learnt at its slot
learnt_there : (learnt : ℕ → Option Command) (slot n i : ℕ) (c : Command)
    → ((s : ℕ) → slot ≤ s → s < slot + n → IsSome (learnt s)) → slice_get (commands learnt slot n) i ≡ Some c
    → learnt (slot + i) ≡ Some c
unfolding commands
learnt_there learnt slot zero i c all h = absurd (let clash : None ≡ Some c = h in cc)
learnt_there learnt slot (suc n) zero c all h =
    let at : slot + 0 ≡ slot = omega arith in
    ap learnt at ∙ get_first (learnt slot) (commands learnt (suc slot) n) c (all slot (omega arith) (omega arith)) h
learnt_there learnt slot (suc n) (suc i) c all h =
    let at : slot + suc i ≡ suc slot + i = omega arith in
    ap learnt at ∙ learnt_there learnt (suc slot) n i c (λ s from to. all s (omega (arith, from)) (omega (arith, to)))
    (sym (get_next (learnt slot) (commands learnt (suc slot) n) i (all slot (omega arith) (omega arith))) ∙ h)

pub learnt_behind : (base : List Command) (m : ReplicaState) → IsMeaningOf base m → (slot : ℕ) (c : Command) → length base ≤ slot
    → slice_get (executed_from base m) slot ≡ Some c → learnt_in m slot ≡ Some c
learnt_behind base m h slot c above there =
    let first : ℕ = m.learner.first in
    let n : ℕ = position m - first in
    let at : first + (slot - length base) ≡ slot = omega (arith, h.begun, above) in
    ap m.learner.learnt (sym at)
    ∙ learnt_there m.learner.learnt first n (slot - length base) c (learnt_below base m h)
    (sym (get_behind base (commands m.learner.learnt first n) slot above) ∙ there)

-- one that has just begun has learnt nothing
pub fresh_has_learnt_nothing : (id nodes : ℕ) (m : ReplicaState) → IsFresh id nodes m → (slot : ℕ) → learnt_in m slot ≡ None
fresh_has_learnt_nothing id nodes m h slot = ap (λ (l : Learning). l.learnt slot) h.learner

-- so its position is the first slot that it keeps
pub fresh_begins : (id nodes : ℕ) (m : ReplicaState) → IsFresh id nodes m → position m ≡ m.learner.first
fresh_begins id nodes m h = ap prefix h.learner ∙ sym (unlearnt_prefix nodes m.learner.first h.first_in_log)

-- the floor that records say is a slot of the log, or its end
checkpoint_in_log : (c : Option Checkpointed) → IfSome c CheckpointFits → floor_of c ≤ SLOTS
checkpoint_in_log None fits = omega arith
checkpoint_in_log (Some c) fits = fits.in_log

floor_in_log : (records : Records) (a : Accepting) → RecordsSay records a → a.floor ≤ SLOTS
floor_in_log records a says =
    let low = checkpoint_in_log says.checkpointed says.checkpoint_fits in omega (arith, low, says.floor)

-- one that has loaded its records begins at its acceptor's floor
pub loaded_begins : (records : Records) (id nodes : ℕ) (m : ReplicaState) → IsLoaded records id nodes m → position m ≡ m.acceptor.floor
loaded_begins records id nodes m h =
    ap prefix h.learner ∙ sym (unlearnt_prefix nodes m.acceptor.floor (floor_in_log records m.acceptor h.acceptor))

-- a list with which a node may begin is as long as its acceptor's floor says: the record is that of one checkpoint
base_is_as_long : (found : Option (List ℕ)) (c : Option Checkpointed) (base : List Command) → found ≡ option_map checkpoint_bytes c
    → IfSome c CheckpointFits → MatchOption found (base ≡ []) (IsCheckpointOf base) → length base ≡ floor_of c
base_is_as_long None None base e fits is = ap length is
base_is_as_long None (Some c) base e fits is = absurd cc
base_is_as_long (Some bytes) None base e fits is = absurd cc
base_is_as_long (Some bytes) (Some c) base e fits is =
    is.length_ ∙ ap (λ (d : Checkpointed). d.position)
    (one_that_fits bytes is.checkpoint c is.fits fits is.spelled (same_Some bytes (checkpoint_bytes c) e))

pub base_reaches : (records : Records) (a : Accepting) (base : List Command) → RecordsSay records a → IsBaseOf records base
    → (length base ≡ a.floor) × (a.floor ≤ SLOTS)
base_reaches records a base says is = (
  base_is_as_long (records key.Checkpoint) says.checkpointed base says.checkpoint_record says.checkpoint_fits is ∙ sym says.floor,
  floor_in_log records a says,
)

-- one that has loaded its records is the meaning of each list with which it may begin
pub loaded_means : (records : Records) (id nodes : ℕ) (m : ReplicaState) (base : List Command) → IsLoaded records id nodes m
    → IsBaseOf records base → IsMeaningOf base m
loaded_means records id nodes m base h is =
    let reaches = base_reaches records m.acceptor base h.acceptor is in
    meaning_begun base m nodes m.acceptor.floor h.learner reaches.0 reaches.1 (h.machine.stands base is)

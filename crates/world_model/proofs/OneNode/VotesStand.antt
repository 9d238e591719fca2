-- The protocol's votes are those that the list of writes tells, and stay so, wherever the floor is.
use Rattle.std.proofs.Common.{◌≡◌, ℕ, List, Option, Some, None, IfSome, Contains, option_map, inl, inr, refl, sym, ap, subst, ◌∙◌}
use Rattle.std.proofs.Common.{◌≤◌, arith}
use Rattle.std.proofs.lemmas.Option.{none-some}
use Rattle.synod.specs.Records as synod_records
use Rattle.synod.specs.Acts as act
use Rattle.synod.specs.Acts.{Membership, Local, Does, Brings}
use Rattle.synod.specs.Invariant.{RecordsAreSound}
use Rattle.synod.specs.Messages.{Accept}
use Rattle.synod.specs.declared.vote.Vote.{Vote}
use Rattle.stable.specs.Records.{Records}
use Rattle.stable.specs.Script.{Script, Write, PutShows}
use Rattle.stable.specs.declared.key.Key.{Key}
use Rattle.acceptor.specs.Forms.{VoteFitsRecord}
use Rattle.acceptor.specs.Spelling.{vote_bytes}
use Rattle.acceptor.proofs.SayingOne.{one_vote}
use Rattle.sessions.specs.declared.command.Command.{Command}
use Rattle.world_model.specs.Reaching.{NodeStands, TookEffect, HoldsPut, PutsStand, VotesAreListed}
use Rattle.node_model.specs.States.{NodeState}
use Rattle.world_model.specs.Voting.{vote_put}
use Rattle.world_model.proofs.OneNode.Casting.{does_votes, does_casts, IsNew}
use Rattle.world_model.proofs.OneNode.ListedPuts.{GoesOn, IsSame}

if_some : {X : Type 0} {P : X → Type 0} (o : Option X) → ((x : X) → o ≡ Some x → P x) → IfSome o P
if_some None h = tt
if_some (Some x) h = h x refl

-- a record spells one vote
one_spelled : (o : Option (Vote Command)) (v : Vote Command) → IfSome o (λ u. u.slot ≡ v.slot) → IfSome o VoteFitsRecord → VoteFitsRecord v
    → option_map vote_bytes o ≡ Some (vote_bytes v) → o ≡ Some v
one_spelled None v at fit fits e = absurd cc
one_spelled (Some u) v at fit fits e = (let bytes : vote_bytes u ≡ vote_bytes v = cc in ap Some (one_vote u v fit fits at bytes))

-- a vote that is put is put at a slot from the floor on, and an accept leaves the floor as it is
pub record IsLevel (input : act.Input Command) (made : Option Write) (x y : Local Command) : Type 0 where
  pub put_above : (v : Vote Command) → made ≡ Some (vote_put v) → y.records.floor ≤ v.slot
  pub same_floor : (v : Vote Command) → Brings input (Accept v) → y.records.floor ≡ x.records.floor

module _ {S : Type 0} (contents : Script S → Records) where
  -- what each key holds, as the records that show
  pub held_shown : (s : Script S) → ((key : Key) → HoldsPut contents s key) → (w : Write) → PutShows (contents s) w → TookEffect contents s w
  held_shown s held w shows =
      subst (λ (o : Option (List ℕ)). IfSome o (λ bytes. TookEffect contents s (w.0, bytes))) shows (held w.0)

  pub each_held : (s : Script S) → ((w : Write) → PutShows (contents s) w → TookEffect contents s w) → (key : Key) → HoldsPut contents s key
  each_held s shown key = if_some (contents s key) (λ bytes here. shown (key, bytes) here)

  -- what a node's records tell of begins where the protocol's do
  from_the_floor : (n : NodeState (Script S)) (y : Local Command) → (stands : NodeStands contents n y) → (s : ℕ) → y.records.floor ≤ s
      → stands.records.acceptor.floor ≤ s
  from_the_floor n y stands s from = omega (arith, from, stands.records.stands.floor_)

  -- what a node's records hold at a vote's slot, from the floor on
  vote_shows : (n : NodeState (Script S)) (y : Local Command) → (stands : NodeStands contents n y) → (v : Vote Command)
      → y.records.floor ≤ v.slot → y.records.vote v.slot ≡ Some v → PutShows (contents n.storage) (vote_put v)
  vote_shows n y stands v from e =
      let low = from_the_floor n y stands v.slot from in
      stands.records.holds.acceptor.vote_record v.slot ∙ ap (option_map vote_bytes) (sym (stands.records.stands.vote v.slot low) ∙ e)

  vote_fits : (n : NodeState (Script S)) (y : Local Command) → (stands : NodeStands contents n y) → (v : Vote Command)
      → y.records.floor ≤ v.slot → y.records.vote v.slot ≡ Some v → VoteFitsRecord v
  vote_fits n y stands v from e =
      let low = from_the_floor n y stands v.slot from in
      subst (λ (o : Option (Vote Command)). IfSome o VoteFitsRecord) (sym (stands.records.stands.vote v.slot low) ∙ e)
      (stands.records.holds.acceptor.votes_fit v.slot)

  vote_stands : (n : NodeState (Script S)) (y : Local Command) → (stands : NodeStands contents n y) → (v : Vote Command)
      → y.records.floor ≤ v.slot → VoteFitsRecord v → PutShows (contents n.storage) (vote_put v) → y.records.vote v.slot ≡ Some v
  vote_stands n y stands v from fits shows =
      let says = stands.records.holds.acceptor in
      let low = from_the_floor n y stands v.slot from in
      stands.records.stands.vote v.slot low
      ∙ one_spelled (stands.records.acceptor.vote v.slot) v (says.at_its_slot v.slot) (says.votes_fit v.slot) fits
      (sym (says.vote_record v.slot) ∙ shows)

  -- what acts of a node make of its votes, and what became of its storage
  pub puts_go_on : (f : Membership Command) (i : ℕ) (input : act.Input Command) (made : Option Write) (x y : Local Command) (a : Script S)
      (n : NodeState (Script S)) → Does f i input x y → IsLevel input made x y → GoesOn contents made a n.storage
      → NodeStands contents n y → RecordsAreSound y.records → PutsStand contents a x.records → PutsStand contents n.storage y.records
  puts_go_on f i input made x y a n does level goes stands sound puts = record {
    held = each_held n.storage (goes.shown (held_shown a puts.held));
    fit = λ v c. elim (does_casts f i input x y does v c) [
      | inl old ↦ puts.fit v old
      | inr now ↦ vote_fits n y stands v (above v now) (now.stands (above v now))
    ];
    put = λ v c. elim (does_casts f i input x y does v c) [
      | inl old ↦ goes.kept (vote_put v) (puts.put v old)
      | inr now ↦ goes.shown (held_shown a puts.held) (vote_put v) (vote_shows n y stands v (above v now) (now.stands (above v now)))
    ];
    cast = λ v fits t. elim (goes.new (vote_put v) t) [
      | inl old ↦ does_votes f i input x y does v (puts.cast v fits old)
      | inr now ↦ (sound.kept v.slot v (vote_stands n y stands v (level.put_above v now.0) fits now.1)).1
    ];
  }
    where
      above : (v : Vote Command) → IsNew f i input x y v → y.records.floor ≤ v.slot
      above v now = omega (arith, now.above, level.same_floor v now.brought)

  -- of a storage that is the same
  pub puts_same : (a b : Script S) (r : synod_records.NodeRecords Command) → IsSame contents a b → PutsStand contents a r
      → PutsStand contents b r
  puts_same a b r same puts = record {
    held = each_held b (λ w shows. same.to w (held_shown a puts.held w (subst (λ (c : Records). PutShows c w) same.records shows)));
    fit = puts.fit;
    put = λ v c. same.to (vote_put v) (puts.put v c);
    cast = λ v fits t. puts.cast v fits (same.from (vote_put v) t);
  }

  -- where nothing is unsure the list tells all of them
  pub listed_when_sure : (s : Script S) (r : synod_records.NodeRecords Command) → s.unsure ≡ None → PutsStand contents s r → VotesAreListed s r
  listed_when_sure s r sure puts v =
      let listed : TookEffect contents s (vote_put v) → Contains s.writes (vote_put v) = λ t. elim t [
        | inl c ↦ c
        | inr u ↦ absurd (none-some (vote_put v) (sym sure ∙ u.0))
      ] in (
        λ c. record { fits = puts.fit v c; written = listed (puts.put v c) },
        λ h. puts.cast v h.fits (inl h.written),
      )

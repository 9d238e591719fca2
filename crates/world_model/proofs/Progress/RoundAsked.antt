-- The first phase of a round: the campaign begins, and its prepares come to the members, who answer.
use Rattle.std.proofs.Common.{◌≡◌, inl, inr, ℕ, zero, suc, ◌<◌, ◌≤◌, List, [], ◌∷◌, ◌++◌, Contains, Bool, true, false, Option, Some, None}
use Rattle.std.proofs.Common.{MatchOption, refl, sym, ap, subst, ◌∙◌, arith, rules}
use Rattle.std.specs.Prelude.{◌==◌, ◌&&◌, nat_lt}
use Rattle.std.proofs.lemmas.List.{append_assoc}
use Rattle.std.proofs.lemmas.List.Elements.{Contains-append_left, Contains-append_right, Contains-append_cases}
use Rattle.synod.specs.declared.ballot.Ballot.{Ballot}
use Rattle.proposer.proofs.Votes.{in_cons, in_head, in_none}
use Rattle.acceptor.specs.Accepting.{TellsFrom, refusing, Verdict, Taken, of_refusal, turned_away, after_prepare}
use Rattle.acceptor.proofs.VerdictLemmas.{not_behind}
use Rattle.acceptor.specs.Ranges.{IsPromiseFrom}
use Rattle.acceptor.specs.declared.answer.Answer.{Answer}
use Rattle.wire.specs.Promises.{Promised}
use Rattle.wire.specs.declared.frames.envelope.Envelope.{Envelope}
use Rattle.wire.specs.declared.frames.message.Message.TheVariants.{Prepare, Promise, Nack}
use Rattle.node_model.specs.Inputs.{is_for_this_run, names_run}
use Rattle.node_model.specs.Loading.{IsReplicaOf}
use Rattle.node_model.specs.Replicas.{ReplicaState}
use Rattle.node_model.specs.Outputs.{Response, sent}
use Rattle.node_model.specs.Sending.{to_all, to_one, answer_sends}
use Rattle.node_model.specs.Taking.{Takes, TakesEnvelope, TakesMessage}
use Rattle.node_model.specs.declared.input.Input.TheVariants as input
use Rattle.world_model.specs.Progress.{replica_at}
use Rattle.world_model.specs.Worlds.{WorldState}
use Rattle.world_model.proofs.Progress.Handing.{Took, HandsOn, ends, skips, takes, hands_apart, same_or_not}

-- ---- an envelope that concerns its receiver
pub takes_message : (m : ReplicaState) (e : Envelope) (new : ReplicaState) (said : Response) → is_for_this_run m.id m.nodes e ≡ true
    → Takes m (input.Message e) new said → TakesMessage m e.from e.message new said
takes_message m e new said yes_ h = subst (λ (b : Bool). TakesEnvelope m e b new said) yes_ h

pub is_itself : (n : ℕ) → n == n ≡ true
is_itself n = grind (arith)

pub is_below : (m n : ℕ) → m < n → nat_lt m n ≡ true
is_below m n less = grind (arith, less)

pub both : (a b : Bool) → a ≡ true → b ≡ true → a && b ≡ true
both true b x y = y
both false b x y = absurd cc

-- it is addressed to the node, and names nodes of the run
pub it_concerns : (to nodes : ℕ) (m : ReplicaState) (e : Envelope) → IsReplicaOf to nodes m → e.to ≡ to → e.from < nodes
    → names_run nodes e.message ≡ true
    → is_for_this_run m.id m.nodes e ≡ true
it_concerns to nodes m e is to_ from names =
    let here : e.to == m.id ≡ true =
    subst (λ (k : ℕ). e.to == k ≡ true) (to_ ∙ sym is.number) (is_itself e.to) in
    both (e.to == m.id) _ here (both (nat_lt e.from m.nodes) (names_run m.nodes e.message)
    (subst (λ (n : ℕ). nat_lt e.from n ≡ true) (sym is.of_all) (is_below e.from nodes from))
    (subst (λ (n : ℕ). names_run n e.message ≡ true) (sym is.of_all) names))

-- ---- a member answers a prepare
-- an envelope is what this member answers to node `to`
pub data IsAnswer (to : ℕ) (ballot : Ballot) (slot : ℕ) (from : ℕ) (m : ReplicaState) (e : Envelope) : Type 0 where
  promises : (p : Promised) → e ≡ record { from = from; to = to; message = Promise p } → refusing m.acceptor.promise ballot ≡ None
      → IsPromiseFrom m.acceptor.vote ballot slot p → IsAnswer to ballot slot from m e
  declines : (g : Ballot) → e ≡ record { from = from; to = to; message = Nack (record { ballot = ballot; promised = g }) }
      → refusing m.acceptor.promise ballot ≡ Some g → IsAnswer to ballot slot from m e

-- what it holds then
abbrev pub asked_replica : ReplicaState → Ballot → ℕ → ReplicaState
asked_replica m ballot slot = record m { acceptor = after_prepare m.acceptor ballot slot }

pub record IsAnswered (to : ℕ) (ballot : Ballot) (slot : ℕ) (from : ℕ) (m new : ReplicaState) (said : Response) : Type 0 where
  pub envelope : Envelope
  pub is : IsAnswer to ballot slot from m envelope
  pub sends : said.sends ≡ envelope ∷ []
  pub leaves : new ≡ asked_replica m ballot slot

answered_so : (to : ℕ) (ballot : Ballot) (slot : ℕ) (from : ℕ) (m new : ReplicaState) (said : Response) (a : Answer) (o : Option Ballot)
    → refusing m.acceptor.promise ballot ≡ o
    → MatchOption (turned_away (of_refusal o Taken) ballot) (TellsFrom m.acceptor ballot slot a) (λ away. a ≡ away)
    → new ≡ asked_replica m ballot slot
    → said ≡ sent (answer_sends m.id m.nodes to a) → m.id ≡ from → IsAnswered to ballot slot from m new said
answered_so to ballot slot from m new said a None none h leaves says is = record {
  envelope = record { from = from; to = to; message = Promise h.promise };
  is = promises h.promise refl none h.tells;
  sends = ap (λ (r : Response). r.sends) says ∙ (ap (λ (x : Answer). answer_sends m.id m.nodes to x) h.is
      ∙ ap (λ (i : ℕ). to_one i to (Promise h.promise)) is);
  leaves = leaves;
}
answered_so to ballot slot from m new said a (Some g) some h leaves says is = record {
  envelope = record { from = from; to = to; message = Nack (record { ballot = ballot; promised = g }) };
  is = declines g refl some;
  sends = ap (λ (r : Response). r.sends) says ∙ (ap (λ (x : Answer). answer_sends m.id m.nodes to x) h
      ∙ ap (λ (i : ℕ). to_one i to (Nack (record { ballot = ballot; promised = g }))) is);
  leaves = leaves;
}

pub answered_prepare : (to nodes : ℕ) (ballot : Ballot) (slot : ℕ) (from : ℕ) (m new : ReplicaState) (said : Response) → IsReplicaOf from nodes m
    → to < nodes → ballot.node < nodes → m.acceptor.floor ≤ slot
    → Takes m (input.Message (record { from = to; to = from; message = Prepare ballot slot })) new said
    → IsAnswered to ballot slot from m new said
answered_prepare to nodes ballot slot from m new said is to_there owner_there level h =
    let e : Envelope = record { from = to; to = from; message = Prepare ballot slot } in
    let t : TakesMessage m to (Prepare ballot slot) new said =
    takes_message m e new said (it_concerns from nodes m e is refl to_there (is_below ballot.node nodes owner_there)) h in
    answered_so to ballot slot from m new said t.0 (refusing m.acceptor.promise ballot) refl
    (subst (λ (v : Verdict). MatchOption (turned_away v ballot) (TellsFrom m.acceptor ballot slot t.0) (λ away. t.0 ≡ away))
    (not_behind m.acceptor ballot slot level) t.1) t.2 t.3 is.number

-- whoever of the members is up may speak of the slot
abbrev pub MaySpeak : {S : Type 0} → WorldState S → List ℕ → ℕ → Type 0
MaySpeak w members slot = (j : ℕ) (m : ReplicaState) → Contains members j → replica_at w j ≡ Some m → m.acceptor.floor ≤ slot

-- ---- all of them do, in order of their numbers
module _ {S : Type 0} (w : WorldState S) (nodes node : ℕ) (members : List ℕ) (ballot : Ballot) (slot : ℕ) where
  -- what the members below a number answer
  pub data Answers : ℕ → List Envelope → Type 0 where
    none : Answers zero []
    passed : (k : ℕ) (es : List Envelope) → (Contains members k → ⊥) → Answers k es → Answers (suc k) es
    answered : (k : ℕ) (es : List Envelope) (e : Envelope) (m : ReplicaState) → Contains members k → replica_at w k ≡ Some m
        → IsAnswer node ballot slot k m e → Answers k es → Answers (suc k) (es ++ e ∷ [])

  -- the prepares came to the members below a number
  pub record AskedBelow (k : ℕ) (now : WorldState S) : Type 0 where
    pub answers : List Envelope
    pub are : Answers k answers
    pub frames_ : now.frames ≡ w.frames ++ answers
    pub later : (j : ℕ) → k ≤ j → replica_at now j ≡ replica_at w j
    pub strangers : (j : ℕ) → (Contains members j → ⊥) → replica_at now j ≡ replica_at w j
    pub members_ : (j : ℕ) (m : ReplicaState) → j < k → Contains members j → replica_at w j ≡ Some m → replica_at now j ≡ Some (asked_replica m ballot slot)

  abbrev prepare_to : ℕ → Envelope
  prepare_to k = record { from = node; to = k; message = Prepare ballot slot }

  module _ (node_there : node < nodes) (owner_there : ballot.node < nodes)
      (known : (j : ℕ) (m : ReplicaState) → replica_at w j ≡ Some m → IsReplicaOf j nodes m) (level : MaySpeak w members slot) where
    asked_none : (now : WorldState S) → HandsOn members [] w now → AskedBelow zero now
    asked_none now (ends w_) = record {
      answers = [];
      are = none;
      frames_ = search rules;
      later = λ j _. refl;
      strangers = λ j _. refl;
      members_ = λ j m less _ _. absurd (omega (arith, less));
    }

    asked_another : (k : ℕ) (now : WorldState S) → (Contains members k → ⊥) → AskedBelow k now → AskedBelow (suc k) now
    asked_another k now not h = record {
      answers = h.answers;
      are = passed k h.answers not h.are;
      frames_ = h.frames_;
      later = λ j less. h.later j (omega (arith, less));
      strangers = h.strangers;
      members_ = λ j m less among here. elim (same_or_not j k) [
        | inl same ↦ absurd (not (subst (λ (i : ℕ). Contains members i) same among))
        | inr other ↦ h.members_ j m (omega (arith, less, other)) among here
      ];
    }

    asked_member : (k : ℕ) (mid now : WorldState S) → Contains members k → AskedBelow k mid → Took mid (prepare_to k) now
        → AskedBelow (suc k) now
    asked_member k mid now among h took =
        let before : replica_at w k ≡ Some took.replica = sym (h.later k (omega arith)) ∙ took.here in
        let a = answered_prepare node nodes ballot slot k took.replica took.replica_then took.said (known k took.replica before)
        node_there owner_there (level k took.replica among before) took.takes in
        record {
          answers = h.answers ++ a.envelope ∷ [];
          are = answered k h.answers a.envelope took.replica among before a.is h.are;
          frames_ = took.frames_ ∙ (ap (λ (es : List Envelope). mid.frames ++ es) a.sends
              ∙ (ap (λ (fs : List Envelope). fs ++ a.envelope ∷ []) h.frames_ ∙ append_assoc w.frames h.answers (a.envelope ∷ [])));
          later = λ j less. took.others j (λ same. omega (arith, less, same)) ∙ h.later j (omega (arith, less));
          strangers = λ j not. took.others j (λ same. not (subst (λ (i : ℕ). Contains members i) (sym same) among)) ∙ h.strangers j not;
          members_ = λ j m less within here. elim (same_or_not j k) [
            | inl same ↦
                let is : took.replica ≡ m = same_replica took.replica m (sym before ∙ (ap (λ (i : ℕ). replica_at w i) (sym same) ∙ here)) in
                ap (λ (i : ℕ). replica_at now i) same ∙ (took.here_then ∙ ap (λ (x : ReplicaState). Some x)
                (a.leaves ∙ ap (λ (x : ReplicaState). asked_replica x ballot slot) is))
            | inr other ↦ took.others j other ∙ h.members_ j m (omega (arith, less, other)) within here
          ];
        }
      where
        same_replica : (m n : ReplicaState) → Some m ≡ Some n → m ≡ n
        same_replica m n e = let same : m ≡ n = cc in same

    asked_next : (k : ℕ) (mid now : WorldState S) → AskedBelow k mid → HandsOn members (prepare_to k ∷ []) mid now
        → AskedBelow (suc k) now
    asked_next k mid now h (skips e es w_ now_ not (ends last)) = asked_another k mid not h
    asked_next k mid now h (takes e es w_ new now_ among took (ends last)) = asked_member k mid now among h took

    -- the prepares to the nodes below a number came to those of them that are members
    pub asked_below : (k : ℕ) (now : WorldState S) → HandsOn members (to_all node k (Prepare ballot slot)) w now → AskedBelow k now
    asked_below zero now h = asked_none now h
    asked_below (suc k) now h =
        let two = hands_apart members (to_all node k (Prepare ballot slot)) (prepare_to k ∷ []) w now h in
        asked_next k two.mid now (asked_below k two.mid two.first) two.then

  -- ---- the answers, one by one
  -- each is a member's
  pub record IsOneOf (e : Envelope) : Type 0 where
    pub member : ℕ
    pub replica : ReplicaState
    pub among : Contains members member
    pub here : replica_at w member ≡ Some replica
    pub is : IsAnswer node ballot slot member replica e

  pub answer_of_one : (k : ℕ) (es : List Envelope) → Answers k es → (e : Envelope) → Contains es e → IsOneOf e
  answer_of_one _ _ none e among = absurd (in_none e among)
  answer_of_one _ es (passed k es_ not h) e among = answer_of_one k es h e among
  answer_of_one _ _ (answered k es f m within here is h) e among = elim (Contains-append_cases es (f ∷ []) e among) [
    | inl before ↦ answer_of_one k es h e before
    | inr last ↦ elim (in_cons f e [] last) [
      | inl same ↦ subst (λ (x : Envelope). IsOneOf x) same (record { member = k; replica = m; among = within; here = here; is = is })
      | inr never ↦ absurd (in_none e never)
    ]
  ]

  -- each member has one
  pub record HasAnswered (es : List Envelope) (j : ℕ) (m : ReplicaState) : Type 0 where
    pub envelope : Envelope
    pub among : Contains es envelope
    pub is : IsAnswer node ballot slot j m envelope

  pub answer_of_each : (k : ℕ) (es : List Envelope) → Answers k es → (j : ℕ) (m : ReplicaState) → j < k → Contains members j → replica_at w j ≡ Some m
      → HasAnswered es j m
  answer_of_each _ _ none j m less among here = absurd (omega (arith, less))
  answer_of_each _ es (passed k es_ not h) j m less among here = elim (same_or_not j k) [
    | inl same ↦ absurd (not (subst (λ (i : ℕ). Contains members i) same among))
    | inr other ↦ answer_of_each k es h j m (omega (arith, less, other)) among here
  ]
  answer_of_each _ _ (answered k es f n within there is h) j m less among here = elim (same_or_not j k) [
    | inl same ↦ record {
      envelope = f;
      among = Contains-append_right es (f ∷ []) f (in_head f []);
      is = subst (λ (i : ℕ). IsAnswer node ballot slot i m f) (sym same)
          (subst (λ (x : ReplicaState). IsAnswer node ballot slot k x f)
          (same_replica n m (sym there ∙ (ap (λ (i : ℕ). replica_at w i) (sym same) ∙ here))) is);
    }
    | inr other ↦
        let one = answer_of_each k es h j m (omega (arith, less, other)) among here in
        record { envelope = one.envelope; among = Contains-append_left es (f ∷ []) one.envelope one.among; is = one.is }
  ]
    where
      same_replica : (m n : ReplicaState) → Some m ≡ Some n → m ≡ n
      same_replica m n e = let same : m ≡ n = cc in same

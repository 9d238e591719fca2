-- A node that has restored a text is the meaning of each list of commands that has it.
use Rattle.std.proofs.Common.{◌≡◌, ℕ, ◌<◌, ◌≤◌, ◌-◌, List, ◌++◌, length, Option, Some, None, IfSome, IfOk, OnOk, Result, Ok, Err, refl, sym, ap, ◌∙◌}
use Rattle.std.proofs.Common.{subst}
use Rattle.std.proofs.lemmas.Option.{same_Some}
use Rattle.synod.specs.declared.slot.TheConstants.{SLOTS}
use Rattle.sessions.specs.Machines.{MachineState}
use Rattle.sessions.specs.Snapshots.{IsSnapshot}
use Rattle.sessions.specs.Standing.{StandsFor}
use Rattle.sessions.specs.declared.command.Command.{Command}
use Rattle.sessions.proofs.Snapshots.{stands_for}
use Rattle.learner.specs.Learning.{Learning, prefix, skipped}
use Rattle.learner.specs.declared.learned.Learned.{Learned}
use Rattle.learner.proofs.PrefixLemmas.{skipped_grows, skipped_first}
use Rattle.wire.specs.declared.frames.envelope.Envelope.{Envelope}
use Rattle.node_model.specs.declared.fault.NodeFault.{NodeFault}
use Rattle.node_model.specs.declared.input.Input.{Input}
use Rattle.node_model.specs.Composition.{RestoresFrom, executed_from}
use Rattle.node_model.specs.Executing.{commands}
use Rattle.node_model.specs.Replicas.{ReplicaState, position}
use Rattle.node_model.specs.Nodes.{fetched_text}
use Rattle.node_model.specs.Outputs.{Response}
use Rattle.node_model.specs.Taking.{Takes, Hears, Restores, IsMachineOfText, learnt_from}
use Rattle.node_model.proofs.Hearings.{Hearing, heard_of}
use Rattle.node_model.proofs.Hearings.Hearing.{of_vote, of_decision, of_text, of_nothing}
use Rattle.node_model.proofs.Keeping.{restored_learner}

-- the machine of a text stands for each list of commands that has it
pub stands_for_text : (text : List ℕ) (machine : MachineState) (base : List Command) → IsMachineOfText text machine → IsSnapshot base text
    → StandsFor machine base
stands_for_text text machine base of has = stands_for machine base text has of.fits of.is

module _ (base : List Command) (old new : ReplicaState) (said : Response) where
  pub restores_meaning : (from target : ℕ) (machine : MachineState) → position old < target → length base ≡ target
      → StandsFor machine base → Restores old from target machine new said → RestoresFrom base old new said
  restores_meaning from target machine ahead many stands k =
      let l : Learning = skipped old.learner target in
      let learner : new.learner ≡ l = restored_learner old new said from target machine k in
      let there : k.m.learner ≡ l = ap (λ (m : ReplicaState). m.learner) k.begins in
      let first : l.first ≡ target = skipped_first old.learner target ahead in
      let whole : executed_from base new ≡ base ++ learnt_from k.m target =
      ap (λ (x : Learning). base ++ commands x.learnt x.first (prefix x - x.first)) learner
      ∙ ap (λ (n : ℕ). base ++ commands l.learnt n (prefix l - n)) first
      ∙ ap (λ (x : Learning). base ++ commands x.learnt target (prefix x - target)) (sym there) in
      record {
        meaning = record {
          begun = many ∙ sym first ∙ ap (λ (x : Learning). x.first) (sym learner);
          in_log = subst (λ (n : ℕ). n ≤ SLOTS) (sym first ∙ ap (λ (x : Learning). x.first) (sym learner)) k.in_log;
          stands = rw whole (k.stands.stands base stands);
        };
        position_ = subst (λ (x : Learning). prefix old.learner ≤ prefix x) (sym learner) (skipped_grows old.learner target);
        replies_ = λ e there. rw whole (k.replies.replies_ base stands many e there);
      }

  -- ---- each input
  restored_none : (target : ℕ) (C : Type 0) (r : Response) → said ≡ r → r.restored ≡ None → said.restored ≡ Some target → C
  restored_none target C r says none is =
      absurd (let clash : None ≡ Some target = sym none ∙ ap (λ (x : Response). x.restored) (sym says) ∙ is in cc)

  hears_none : (c : Command) (o : Option Learned) (l : Learning) (asks : List Envelope) (target : ℕ) (C : Type 0)
      → Hears old c o l asks new said → said.restored ≡ Some target → C
  hears_none c None l asks target C k is = restored_none target C _ k.1 refl is
  hears_none c (Some learned) l asks target C k is = restored_none target C _ k.says refl is

  hearing_restores : (i : Input) (target : ℕ) → Hearing old i new said → said.restored ≡ Some target
      → length base ≡ target → IsSnapshot base (fetched_text old i) → RestoresFrom base old new said
  hearing_restores i target (of_vote from to v at (o, l, heard, k)) is many has = hears_none v.command o l _ target _ k is
  hearing_restores i target (of_decision from to slot c at (o, l, heard, k)) is many has = hears_none c o l _ target _ k is
  hearing_restores i target (of_text h) is many has =
      let at : h.part.position ≡ target =
      same_Some h.part.position target (sym (ap (λ (r : Response). r.restored) h.whole.says) ∙ is) in
      restores_meaning h.from h.part.position h.machine h.ahead (many ∙ sym at)
      (stands_for_text (fetched_text old i) h.machine base h.text has) h.whole
  hearing_restores i target (of_nothing none) is many has =
      absurd (let clash : None ≡ Some target = sym none.restored ∙ is in cc)

  pub takes_restores : (i : Input) (target : ℕ) → Takes old i new said → said.restored ≡ Some target
      → length base ≡ target → IsSnapshot base (fetched_text old i) → RestoresFrom base old new said
  takes_restores i target k is many has = hearing_restores i target (heard_of old new said i k) is many has

-- ---- a node that was up, and took an input or not
with_target : (base : List Command) (i : Input) (m n : ReplicaState) (said : Response) (p : Option ReplicaState) (o : Option ℕ) → said.restored ≡ o
    → p ≡ Some n → Takes m i n said
    → IfSome o (λ target. length base ≡ target → IsSnapshot base (fetched_text m i)
    → IfSome p (λ (b : ReplicaState). RestoresFrom base m b said))
with_target base i m n said p None is here takes = tt
with_target base i m n said p (Some target) is here takes =
    λ many has. rw here (takes_restores base m n said i target takes is many has)

pub meaning_restored : (base : List Command) (i : Input) (o p : Option ReplicaState) (m n : ReplicaState) (r : Result Response NodeFault) (Same : Type 0)
    → o ≡ Some m → OnOk r Same → (Same → p ≡ Some n) → IfOk r (λ said. Takes m i n said)
    → IfSome o (λ (a : ReplicaState). IfOk r (λ said. IfSome said.restored (λ target. length base ≡ target
    → IsSnapshot base (fetched_text a i) → IfSome p (λ (b : ReplicaState). RestoresFrom base a b said))))
meaning_restored base i o p m n (Ok said) Same up same still takes =
    rw up (with_target base i m n said p said.restored refl (still same) takes)
meaning_restored base i o p m n (Err f) Same up same still takes = rw up tt

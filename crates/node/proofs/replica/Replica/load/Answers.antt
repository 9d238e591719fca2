use Rattle.std.proofs.Common.{◌≡◌, ℕ, ◌≤◌, List, Option, Some, None, MatchOption, IfSome, inl, inr, rules, refl, sym, ap, ◌∙◌, subst, arith}
use Rattle.stable.specs.Records.{Records}
use Rattle.stable.specs.declared.key.Key.TheVariants as key
use Rattle.acceptor.specs.Forms.{IsOfItsForm, AreOfTheirForm, HasDamagedRecord}
use Rattle.wire.specs.RecordForms.{IsRoundRecord}
use Rattle.synod.specs.declared.slot.TheConstants.{SLOTS}
use Rattle.learner.specs.Learning.{Learning, unlearnt_from}
use Rattle.node_model.specs.Loading.{LoadsRound}
use Rattle.proposer.specs.Proposing.{Proposing, loaded}
use Rattle.node_model.proofs.Learnt.{fresh_begins, loaded_means}
use Rattle.node.proofs.replica.Replica.load.Goals as goal

round_loaded : (found : Option (List ℕ)) (id nodes : ℕ) (p : Proposing)
    → MatchOption found (p ≡ loaded id nodes 0) (λ bytes. IsRoundRecord bytes p.round × (p ≡ loaded id nodes p.round))
    → LoadsRound found id nodes p
round_loaded None id nodes p h = h
round_loaded (Some bytes) id nodes p h = h

-- the round's record is one, so it is not damaged
round_sound : (found : Option (List ℕ)) (id nodes : ℕ) (p : Proposing)
    → MatchOption found (p ≡ loaded id nodes 0) (λ bytes. IsRoundRecord bytes p.round × (p ≡ loaded id nodes p.round))
    → ¬ (MatchOption found ⊥ (λ bytes. (round : ℕ) → ¬ IsRoundRecord bytes round))
round_sound None id nodes p h damaged = damaged
round_sound (Some bytes) id nodes p h damaged = damaged p.round h.0

records_sound : (records : Records) → AreOfTheirForm records → ¬ (HasDamagedRecord records)
records_sound records forms d = d.3 (subst (λ o. IfSome o (IsOfItsForm d.0)) d.2 (forms d.0))

-- no key was stray, and each record that was read is of its form
pub returns-clause-sound : goal.returns-clause-sound
returns-clause-sound g c = λ honest damaged.
    let law = g.met.S.Stable.laws in
    let still = law.reads_honest _ _ c.in_ok-proposer.ensures.reads honest in
    let same = law.reads_contents _ _ (law.looks_reads _ _ c.in_ok-acceptor.ensures.looks) still in
    elim damaged [
      | inl stray ↦ c.in_ok-acceptor.ensures.no_stray still stray
      | inr (inl record_) ↦ records_sound _ (c.in_ok-acceptor.ensures.form still) record_
      | inr (inr round) ↦ round_sound _ _ _ _ (rw same at (c.in_ok-proposer.ensures.round honest)) round
    ]

-- the proposer is loaded from what the acceptor was loaded from, which was only read
pub returns-clause-loads : goal.returns-clause-loads
returns-clause-loads g c = λ honest.
    let law = g.met.S.Stable.laws in
    let still = law.reads_honest _ _ c.in_ok-proposer.ensures.reads honest in
    let same = law.reads_contents _ _ (law.looks_reads _ _ c.in_ok-acceptor.ensures.looks) still in
    let round = round_loaded _ _ _ _ (c.in_ok-proposer.ensures.round honest) in
    record {
      number = search rules;
      of_all = search rules;
      acceptor = c.in_ok-acceptor.ensures.told still;
      learner = c.start_at-learner.ensures ∙ ap (unlearnt_from c.args.nodes) c.floor.ensures.value;
      proposer = subst (λ records. LoadsRound (records key.Round) c.args.id c.args.nodes c.in_ok-proposer.proposer) same round;
      machine = c.in_ok-acceptor.ensures.machine still;
      fetching = refl;
    }

pub returns-clause-looks : goal.returns-clause-looks
returns-clause-looks g c =
    g.met.S.Stable.laws.looks_then_reads _ _ _ c.in_ok-acceptor.ensures.looks c.in_ok-proposer.ensures.reads

pub returns-clause-settled : goal.returns-clause-settled
returns-clause-settled g c =
    g.met.S.Stable.laws.reads_settled _ _ c.in_ok-proposer.ensures.reads c.in_ok-acceptor.ensures.settled

pub returns-clause-meaning : goal.returns-clause-meaning
returns-clause-meaning g c = λ honest base is. loaded_means _ c.args.id c.args.nodes _ base (returns-clause-loads g c honest) is

begins_fresh : (learner : Learning) (nodes first : ℕ) → learner ≡ unlearnt_from nodes first → first ≤ SLOTS
    → (learner ≡ unlearnt_from nodes learner.first) × (learner.first ≤ SLOTS)
begins_fresh learner nodes first e within =
    let at : learner.first ≡ first = ap (λ (l : Learning). l.first) e in
    (e ∙ ap (unlearnt_from nodes) (sym at), omega (arith, at, within))

pub returns-clause-fresh : goal.returns-clause-fresh
returns-clause-fresh g c =
    let begins = begins_fresh _ c.args.nodes _ c.start_at-learner.ensures c.floor.ensures.in_log in record {
      learner = begins.0;
      first_in_log = begins.1;
      proposer = c.in_ok-proposer.ensures.own;
      fetching = refl;
    }

pub returns-clause-position : goal.returns-clause-position
returns-clause-position g c = fresh_begins c.args.id c.args.nodes _ (returns-clause-fresh g c)

pub returns-clause-restored : goal.returns-clause-restored
returns-clause-restored g c = c.in_ok-acceptor.ensures.restored

pub returns-clause-own : goal.returns-clause-own
returns-clause-own g c = record {
  number = search rules;
  of_all = search rules;
  learner = ap (λ (l : Learning). l.nodes) c.start_at-learner.ensures;
  proposer = (
    ap (λ (p : Proposing). p.id) c.in_ok-proposer.ensures.own,
    ap (λ (p : Proposing). p.nodes) c.in_ok-proposer.ensures.own,
  );
}

-- what the proposer finds in the storage that the acceptor only read, it would have found there before
pub returns-in_err-proposer-clause-device : goal.returns-in_err-proposer-clause-device
returns-in_err-proposer-clause-device g c = λ device.
    let law = g.met.S.Stable.laws in
    law.reads_read_fails _ _ _ (law.looks_reads _ _ c.in_ok-acceptor.ensures.looks) (c.in_err-proposer.ensures.device (search rules))

pub returns-in_err-proposer-clause-memory : goal.returns-in_err-proposer-clause-memory
returns-in_err-proposer-clause-memory g c = λ memory.
    g.met.S.Stable.laws.looks_then_reads _ _ _ c.in_ok-acceptor.ensures.looks (c.in_err-proposer.ensures.memory (search rules))

pub returns-in_err-proposer-clause-damaged : goal.returns-in_err-proposer-clause-damaged
returns-in_err-proposer-clause-damaged g c = λ damaged.
    g.met.S.Stable.laws.looks_then_reads _ _ _ c.in_ok-acceptor.ensures.looks (c.in_err-proposer.ensures.damaged_reads (search rules))

pub returns-in_err-proposer-clause-damaged_record : goal.returns-in_err-proposer-clause-damaged_record
returns-in_err-proposer-clause-damaged_record g c = λ honest damaged.
    let law = g.met.S.Stable.laws in
    let still = law.reads_honest _ _ (c.in_err-proposer.ensures.damaged_reads (search rules)) honest in
    let same = law.reads_contents _ _ (law.looks_reads _ _ c.in_ok-acceptor.ensures.looks) still in
    inr (inr (rw same at (c.in_err-proposer.ensures.damaged honest (search rules))))

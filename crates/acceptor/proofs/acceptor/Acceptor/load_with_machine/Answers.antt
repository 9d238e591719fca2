use Rattle.std.proofs.Common.{rules, refl, arith, ◌<◌, ◌∙◌, sym, subst, length, inr, List}
use Rattle.std.proofs.lemmas.Option.{none-some}
use Rattle.stable.specs.Records.{KeysAscend}
use Rattle.stable.specs.declared.key.Key.{Key}
use Rattle.acceptor.proofs.CheckpointLemmas.{begins_with_none, machine_as_before}
use Rattle.acceptor.proofs.LoadLemmas.{take_all, says_more, begins_more, forms_at, says_all, begins_all, forms_all}
use Rattle.acceptor.proofs.RecordLemmas.{RecordsSay-same, RecordsSay-holds, RecordsSay-nothing}
use Rattle.acceptor.proofs.acceptor.Acceptor.load_with_machine.Goals as goal

pub loop-key-init : goal.loop-key-init
loop-key-init g c = (
  g.met.S.Stable.laws.reads_none c.keys.new.self,
  λ honest. RecordsSay-same _ _ _ (λ k. refl) (RecordsSay-holds _ _ _ refl refl refl c.new.ensures.items c.in_ok-votes.ensures RecordsSay-nothing),
  λ honest q has. absurd cc,
  λ honest. begins_with_none _ _ refl c.new-machine.ensures.stands,
  machine_as_before _ _ _ c.new.ensures.items (c.new-machine.ensures.features, c.new-machine.ensures.sessions),
)

-- no vote is held yet
pub invariant_of-loaded : goal.invariant_of-loaded
invariant_of-loaded g c =
    record { bounded = λ s v held. absurd (none-some v (sym (c.in_ok-votes.ensures s) ∙ held)); in_log = omega arith }

-- a read that fails comes after reads that did not
pub returns-in_err-take_in-clause-device : goal.returns-in_err-take_in-clause-device
returns-in_err-take_in-clause-device g c = λ device.
    let law = g.met.S.Stable.laws in
    let before = law.reads_reads _ _ _ (law.looks_reads _ _ c.in_ok-keys.ensures.ok) c.loop-key.invariant.0 in
    law.reads_read_fails _ _ _ before (c.in_err-take_in.ensures.device (search rules))

pub returns-in_err-take_in-clause-memory : goal.returns-in_err-take_in-clause-memory
returns-in_err-take_in-clause-memory g c = λ memory.
    let law = g.met.S.Stable.laws in
    let later = law.reads_reads _ _ _ c.loop-key.invariant.0 (c.in_err-take_in.ensures.memory (search rules)) in
    law.looks_then_reads _ _ _ c.in_ok-keys.ensures.ok later

pub returns-in_err-take_in-clause-damaged : goal.returns-in_err-take_in-clause-damaged
returns-in_err-take_in-clause-damaged g c = λ damaged.
    let law = g.met.S.Stable.laws in
    let later = law.reads_reads _ _ _ c.loop-key.invariant.0 (c.in_err-take_in.ensures.damaged (search rules)) in
    law.looks_then_reads _ _ _ c.in_ok-keys.ensures.ok later

pub returns-in_err-take_in-clause-damaged_record : goal.returns-in_err-take_in-clause-damaged_record
returns-in_err-take_in-clause-damaged_record g c = λ honest damaged.
    let law = g.met.S.Stable.laws in
    let reads = c.in_err-take_in.ensures.damaged (search rules) in
    let still = law.reads_honest _ _ reads honest in
    let before = law.reads_reads _ _ _ (law.looks_reads _ _ c.in_ok-keys.ensures.ok) c.loop-key.invariant.0 in
    let same = law.reads_contents _ _ before still in
    inr (rw same at (c.in_err-take_in.ensures.damaged_record honest (search rules)))

-- the next key is none of those before, and its record is taken in
pub loop-key-preserved : goal.loop-key-preserved
loop-key-preserved g c =
    let law = g.met.S.Stable.laws in
    let keys = c.deref-key-items.result.now in
    let i = c.loop-key.key-index in
    let lt : i < length keys = omega arith in
    let read = law.reads_reads _ _ _ (law.looks_reads _ _ c.in_ok-keys.ensures.ok) c.loop-key.invariant.0 in (
      law.reads_reads _ _ _ c.loop-key.invariant.0 c.in_ok-take_in.ensures.reads,
      λ honest.
          let still = law.reads_honest _ _ c.in_ok-take_in.ensures.reads honest in
          let listed = law.reads_honest _ _ c.loop-key.invariant.0 still in
          let same = law.reads_contents _ _ read still in
          let sorted = subst (λ (xs : List Key). KeysAscend xs) (sym c.deref-key-items.ensures.value)
          (c.in_ok-keys.ensures.ascending listed) in
          says_more _ _ keys i c.key-item.result _ _ sorted lt c.key-item.is same (c.in_ok-take_in.ensures.told honest)
          (c.loop-key.invariant.1 still),
      λ honest.
          let still = law.reads_honest _ _ c.in_ok-take_in.ensures.reads honest in
          let same = law.reads_contents _ _ read still in
          forms_at _ _ keys i c.key-item.result lt c.key-item.is same (c.loop-key.invariant.2 still) (c.in_ok-take_in.ensures.form honest),
      λ honest.
          let still = law.reads_honest _ _ c.in_ok-take_in.ensures.reads honest in
          let listed = law.reads_honest _ _ c.loop-key.invariant.0 still in
          let same = law.reads_contents _ _ read still in
          let sorted = subst (λ (xs : List Key). KeysAscend xs) (sym c.deref-key-items.ensures.value)
          (c.in_ok-keys.ensures.ascending listed) in
          begins_more _ _ keys i c.key-item.result _ _ sorted lt c.key-item.is same (c.in_ok-take_in.ensures.machine honest)
          (c.loop-key.invariant.3 still),
      c.in_ok-take_in.ensures.restored c.loop-key.invariant.4,
    )

-- what the listed keys hold is all that is held
pub returns-clause-told : goal.returns-clause-told
returns-clause-told g c = λ honest.
    let law = g.met.S.Stable.laws in
    let listed = law.reads_honest _ _ c.loop-key.invariant.0 honest in
    let says = c.loop-key.invariant.1 honest in
    let whole = take_all c.deref-key-items.result.now c.loop-key.key-index (omega arith) ∙ c.deref-key-items.ensures.value in
    let all = rw whole at says in
    says_all _ c.in_ok-keys.keys.items _ (c.in_ok-keys.ensures.told listed) all

pub returns-clause-form : goal.returns-clause-form
returns-clause-form g c = λ honest.
    let law = g.met.S.Stable.laws in
    let listed = law.reads_honest _ _ c.loop-key.invariant.0 honest in
    let forms = c.loop-key.invariant.2 honest in
    let whole = take_all c.deref-key-items.result.now c.loop-key.key-index (omega arith) ∙ c.deref-key-items.ensures.value in
    let all = rw whole at forms in
    forms_all _ c.in_ok-keys.keys.items (c.in_ok-keys.ensures.told listed) all

pub returns-clause-machine : goal.returns-clause-machine
returns-clause-machine g c = λ honest.
    let law = g.met.S.Stable.laws in
    let listed = law.reads_honest _ _ c.loop-key.invariant.0 honest in
    let begins = c.loop-key.invariant.3 honest in
    let whole = take_all c.deref-key-items.result.now c.loop-key.key-index (omega arith) ∙ c.deref-key-items.ensures.value in
    let all = rw whole at begins in
    begins_all _ c.in_ok-keys.keys.items _ (c.in_ok-keys.ensures.told listed) all

pub returns-clause-restored : goal.returns-clause-restored
returns-clause-restored g c = c.loop-key.invariant.4

-- the keys were told, so that none is stray
pub returns-clause-no_stray : goal.returns-clause-no_stray
returns-clause-no_stray g c = λ honest.
    let law = g.met.S.Stable.laws in
    c.in_ok-keys.ensures.no_stray (law.reads_honest _ _ c.loop-key.invariant.0 honest)

pub returns-clause-looks : goal.returns-clause-looks
returns-clause-looks g c = g.met.S.Stable.laws.looks_then_reads _ _ _ c.in_ok-keys.ensures.ok c.loop-key.invariant.0

pub returns-clause-settled : goal.returns-clause-settled
returns-clause-settled g c = g.met.S.Stable.laws.reads_settled _ _ c.loop-key.invariant.0 c.in_ok-keys.ensures.settled

-- a way out is answered whole: its clauses are found together
pub returns-in_err-keys : goal.returns-in_err-keys
returns-in_err-keys g c = search rules

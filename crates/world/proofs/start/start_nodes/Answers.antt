use Rattle.std.proofs.Common.{◌≡◌, ◌∷◌, [], length, map, refl, sym, ap, subst, ◌∙◌, append_assoc, arith, rules, vec_len, ℕ, inr}
use Rattle.std.proofs.lemmas.List.{length-append, length-map}
use Rattle.std.proofs.lemmas.Result.{err_from_is_err_and}
use Rattle.std.specs.Vec.Iter.{into_iter_items}
use Rattle.stable.specs.Storages.{scripted}
use Rattle.node.specs.Seen.{state_of}
use Rattle.world_model.specs.Flushing.{IsStarted, HaveStarted}
use Rattle.world_model.specs.Starting.{AreOver}
use Rattle.world.proofs.StartLemmas.{all_taken, whole_taken, none_started, none_over, one_more_started, one_over_more}
use Rattle.world.proofs.UsedStorages.{one_of_all}
use Rattle.world.proofs.start.start_nodes.Goals as goal

pub loop-store-init : goal.loop-store-init
loop-store-init g c = record {
  parts = refl;
  counted = search rules;
  started = none_started (scripted g.S.Stable) c.args.count c.in_ok-nodes.nodes.items c.in_ok-nodes.ensures.items;
  over = none_over g.S.Stable (map state_of c.in_ok-nodes.nodes.items);
}

-- memory is (record { started = tt; over = tt; few = tt; used = λ e. absurd (cc); faults = inr refl })
pub returns-in_err-nodes : goal.returns-in_err-nodes
returns-in_err-nodes g c =
    let exit = err_from_is_err_and c.from_residual.result c.from_residual.ensures.1 in
    rw (exit.1, exit.2) (record { started = tt; over = tt; few = tt; used = λ e. absurd (cc); faults = inr refl })

-- a node has not started
pub returns-in_err-node : goal.returns-in_err-node
returns-in_err-node g c =
    let at = c.loop-store in
    let exit = err_from_is_err_and c.from_residual-in_err-node.result c.from_residual-in_err-node.ensures.1 in
    rw (exit.1, exit.2) (record {
      started = tt;
      over = tt;
      few = tt;
      used = λ e. one_of_all g.S.Stable c.args.stores.items at.yielded (into_iter_items at.store-iterator) _ c.in-Some.store
          (at.invariant.parts ∙ c.into_iter-store-iterator.ensures.into_iter_gives.0) c.in-Some.ensures.steps.0
          (c.in_err-node.ensures.used e);
      faults = c.in_err-node.ensures.faults;
    })

pub returns-in_err-push : goal.returns-in_err-push
returns-in_err-push g c =
    let exit = err_from_is_err_and c.from_residual-in_err-push.result c.from_residual-in_err-push.ensures.1 in
    rw (exit.1, exit.2) (record { started = tt; over = tt; few = tt; used = λ e. absurd (cc); faults = inr refl })

pub loop-store-preserved : goal.loop-store-preserved
loop-store-preserved g c =
    let at = c.loop-store in
    let store = c.in-Some.store in
    let node = c.in_ok-node.node in
    let steps : into_iter_items at.store-iterator ≡ store ∷ into_iter_items c.next.new.self = c.in-Some.ensures.steps.0 in
    let place : c.node-id.result ≡ length at.yielded =
    let begun = at.invariant.started.all in
    let mapped = length-map at.nodes.items state_of in
    search rules in
    record {
      parts = append_assoc at.yielded (store ∷ []) _ ∙ rw (← steps) at.invariant.parts;
      counted = let was = at.invariant.counted in
          let gone = c.in-Some.ensures.steps.1 in
          let short = ap length steps in
          omega arith;
      started = subst (λ (k : ℕ). HaveStarted (scripted g.S.Stable) k c.args.count (map state_of c.push.new.self.items))
          (sym (length-append at.yielded (store ∷ [])))
          (one_more_started (scripted g.S.Stable) (length at.yielded) c.args.count at.nodes.items c.push.new.self.items node
          c.in_ok-push.ensures.items at.invariant.started
          (subst (λ (k : ℕ). IsStarted (scripted g.S.Stable) k c.args.count (state_of node)) place c.in_ok-node.ensures.started));
      over = one_over_more g.S.Stable at.yielded at.nodes.items c.push.new.self.items store node c.in_ok-push.ensures.items
          at.invariant.started.all at.invariant.over c.in_ok-node.ensures.over;
    }

-- all have started
pub returns : goal.returns
returns g c =
    let at = c.loop-store in
    let parts = at.invariant.parts ∙ c.into_iter-store-iterator.ensures.into_iter_gives.0 in
    let whole = all_taken at.yielded (into_iter_items at.store-iterator) c.args.stores.items _ (vec_len c.args.stores) c.args.count
    parts at.invariant.counted c.in-None.ensures.steps.0 c.args.stores.ok.0 c.requires.one_each in
    record {
      started = subst (λ (k : ℕ). HaveStarted (scripted g.S.Stable) k c.args.count (map state_of at.nodes.items)) whole
          at.invariant.started;
      over = subst (λ ss. AreOver g.S.Stable ss (map state_of at.nodes.items))
          (whole_taken at.yielded (into_iter_items at.store-iterator) c.args.stores.items _
          parts at.invariant.counted c.in-None.ensures.steps.0) at.invariant.over;
      few = omega (
        arith,
        at.nodes.ok.0,
        length-map at.nodes.items state_of,
        at.invariant.started.all,
        whole,
        c.count.ensures.value,
        c.count.ensures.odd,
      );
      used = tt;
      faults = tt;
    }

pub overflow_cast-len : goal.overflow_cast-len
overflow_cast-len g c =
    let at = c.loop-store in
    let all = ap length (at.invariant.parts ∙ c.into_iter-store-iterator.ensures.into_iter_gives.0) in
    omega (
      arith,
      all,
      length-append at.yielded (into_iter_items at.store-iterator),
      at.nodes.ok.0,
      length-map at.nodes.items state_of,
      at.invariant.started.all,
      c.args.stores.ok.0,
      c.requires.one_each,
      c.count.ensures.value,
      c.count.ensures.odd,
      c.len.ensures,
    )

pub node-id-requires : goal.node-id-requires
node-id-requires g c =
    let at = c.loop-store in
    let all = ap length (at.invariant.parts ∙ c.into_iter-store-iterator.ensures.into_iter_gives.0) in
    let more = ap length c.in-Some.ensures.steps.0 in
    omega (
      arith,
      all,
      more,
      length-append at.yielded (into_iter_items at.store-iterator),
      at.nodes.ok.0,
      length-map at.nodes.items state_of,
      at.invariant.started.all,
      c.args.stores.ok.0,
      c.requires.one_each,
      c.len.ensures,
    )

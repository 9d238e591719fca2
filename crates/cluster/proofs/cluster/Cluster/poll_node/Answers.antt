use Rattle.std.proofs.Common.{Err, ◌+◌, ◌-◌, ◌^◌, option_map, MatchOption, min, sym, ap, subst, ◌∙◌, inl, inr}
use Rattle.std.proofs.lemmas.Result.{err_from_is_err_and}
use Rattle.stable.specs.Memory.{in_memory}
use Rattle.stable.specs.Storages.{scripted}
use Rattle.world.specs.Seen.{world_of}
use Rattle.world_model.specs.Worlds.{DeliversFrame}
use Rattle.cluster.specs.Clusters.{HasPassed, sendings}
use Rattle.cluster.specs.ClusterViews.{pumped_of, world_in}
use Rattle.cluster.specs.Lowest.{IsLowestFrame, IsStranger}
use Rattle.cluster.proofs.Pumping.{polled_nothing, polled_stranger, polled_frame, same_pumped, was_sent}
use Rattle.cluster.proofs.cluster.Cluster.poll_node.Goals as goal

-- nothing has come
pub returns-in_default-clause-polls : goal.returns-in_default-clause-polls
returns-in_default-clause-polls g c =
    polled_nothing (scripted in_memory) g.T.Transport (pumped_of c.args.self.now) (pumped_of c.polled.new.self) c.args.self.now.transport
    c.polled.new.self.transport c.args.node (option_map (λ v. v.items) c.polled.result) c.polled.ensures.same
    (ap (λ o. option_map (λ v. v.items) o) c.in_default.is) c.polled.ensures.polled

-- a stranger
pub returns-in_default-2-clause-polls : goal.returns-in_default-2-clause-polls
returns-in_default-2-clause-polls g c =
    let worlds = ap (λ p. p.world) c.polled.ensures.same in
    let counts = ap (λ p. p.strangers) c.polled.ensures.same in
    polled_stranger (scripted in_memory) g.T.Transport (pumped_of c.args.self.now) _ c.args.self.now.transport
    c.polled.new.self.transport c.args.node (option_map (λ v. v.items) c.polled.result) c.in-Some.datagram.items c.in_ok-frame.field-0
    (ap (λ o. option_map (λ v. v.items) o) c.in-Some.is)
    (subst (λ w. MatchOption c.in_ok-frame.field-0 (IsStranger w.frames c.args.node c.in-Some.datagram.items)
    (IsLowestFrame w.frames c.args.node c.in-Some.datagram.items)) worlds c.in_ok-frame.ensures.found)
    c.in_default-2.is
    (same_pumped (world_of c.lowest.new.self.world) (world_in c.args.self.now) c.saturating_add-self.result
    (min (c.args.self.now.strangers + 1) (2 ^ 64 - 1)) (c.in_ok-frame.ensures.world ∙ worlds)
    (c.saturating_add-self.ensures ∙ ap (λ n. min (n + 1) (2 ^ 64 - 1)) counts))
    c.polled.ensures.polled

-- a frame that was sent, so that memory alone can be wanting
pub returns-in_err-step-clause-faults : goal.returns-in_err-step-clause-faults
returns-in_err-step-clause-faults g c =
    let exit = err_from_is_err_and c.from_residual-in_err-step.result c.from_residual-in_err-step.ensures.1 in
    let worlds = ap (λ p. p.world) c.polled.ensures.same in
    let sent = was_sent (scripted in_memory) g.T.Transport (world_of c.lowest.new.self.world).frames c.args.node c.in-Some.datagram.items
    c.in_ok-frame.field-0 c.in-Some-2.frame
    (subst (λ w. MatchOption c.in_ok-frame.field-0 (IsStranger w.frames c.args.node c.in-Some.datagram.items)
    (IsLowestFrame w.frames c.args.node c.in-Some.datagram.items)) (sym c.in_ok-frame.ensures.world) c.in_ok-frame.ensures.found)
    c.in-Some-2.is in
    rw (exit.1, exit.2) (elim c.in_err-step.ensures.faults [
      | inl message ↦ absurd (sent (c.in_err-step.ensures.no_frame.0 (ap Err message)))
      | inr (inl node) ↦ absurd (c.in_err-step.ensures.no_node.0 (ap Err node))
      | inr (inr memory) ↦ memory
    ])

-- and it is delivered
pub returns-clause-polls : goal.returns-clause-polls
returns-clause-polls g c =
    let worlds = ap (λ p. p.world) c.polled.ensures.same in
    let counts = ap (λ p. p.strangers) c.polled.ensures.same in
    let world = c.in_ok-frame.ensures.world ∙ worlds in
    polled_frame (scripted in_memory) g.T.Transport (pumped_of c.args.self.now) (pumped_of c.step.new.self) c.args.self.now.transport
    c.polled.new.self.transport c.step.new.self.transport c.args.node (option_map (λ v. v.items) c.polled.result)
    c.in-Some.datagram.items c.in_ok-frame.field-0 c.in-Some-2.frame
    (ap (λ o. option_map (λ v. v.items) o) c.in-Some.is)
    (subst (λ w. MatchOption c.in_ok-frame.field-0 (IsStranger w.frames c.args.node c.in-Some.datagram.items)
    (IsLowestFrame w.frames c.args.node c.in-Some.datagram.items)) worlds c.in_ok-frame.ensures.found)
    c.in-Some-2.is
    (subst (λ w. DeliversFrame (scripted in_memory) w c.in-Some-2.frame (world_in c.step.new.self)) world c.in_ok-step.ensures.steps)
    (c.in_ok-step.ensures.no_strangers ∙ counts)
    c.polled.ensures.polled
    (subst (λ w. HasPassed g.T.Transport c.polled.new.self.transport (sendings w (world_in c.step.new.self)) c.step.new.self.transport)
    world c.in_ok-step.ensures.sends)

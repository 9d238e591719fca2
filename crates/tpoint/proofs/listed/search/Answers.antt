use Rattle.std.proofs.Common.{◌≡◌, ◌+◌, ◌-◌, ◌/◌, ◌<◌, ◌≤◌, length, true, false, get_or, refl, sym, subst, ◌∙◌, ap, arith, rules}
use Rattle.std.specs.Ordering.{is_gt}
use Rattle.std.specs.List.{AllWithin}
use Rattle.tpoint.proofs.Halving.{Narrowed, unnarrowed, has_probe, passed_more, to_come_more, number_passed, after_told, not_after_told}
use Rattle.tpoint.proofs.listed.search.Goals as goal

pub loop-low-init : goal.loop-low-init
loop-low-init g c =
    let ts = g.L.Listed.instants c.args.list.now in
    let start = g.L.Listed.probes c.args.list.now in (
      refl,
      subst (λ high. Narrowed ts c.args.t 0 high start start) (sym c.len-high.ensures.value)
          (unnarrowed ts c.args.t start c.len-high.ensures.listed.not_too_many),
    )

pub compare-requires-clause-in_list : goal.compare-requires-clause-in_list
compare-requires-clause-in_list g c =
    let within = c.loop-low.invariant.1.within in
    let more = c.loop-low-test.true in
    let same = ap length c.loop-low.invariant.0 in
    omega arith

pub compare-requires-clause-room : goal.compare-requires-clause-room
compare-requires-clause-room g c =
    let probe = has_probe _ _ _ _ _ _ c.loop-low.invariant.1 c.loop-low-test.true in
    let room = c.requires.room in
    omega arith

pub loop-low-preserved-then-is_gt : goal.loop-low-preserved-then-is_gt
loop-low-preserved-then-is_gt g c =
    let l = c.loop-low in
    let ts = g.L.Listed.instants c.args.list.now in
    let start = g.L.Listed.probes c.args.list.now in
    let middle = l.low + (l.high - l.low) / 2 in
    let told : is_gt c.compare.result ≡ true = search rules in
    let later : c.args.t < get_or (g.L.Listed.instants l.list) middle 0 =
    after_told _ _ (subst (λ o. is_gt o ≡ true) c.compare.ensures.order told) in
    let n = to_come_more ts c.args.t l.low l.high start (g.L.Listed.probes l.list) middle c.len-high.ensures.listed l.invariant.1
    (omega (arith, c.loop-low-test.true)) (omega (arith, c.loop-low-test.true)) (omega (arith, c.loop-low-test.true))
    (subst (λ us. c.args.t < get_or us middle 0) l.invariant.0 later) in (
      c.compare.ensures.same ∙ l.invariant.0,
      subst (λ made. Narrowed ts c.args.t l.low middle start made) (sym c.compare.ensures.counted) n,
    )

pub loop-low-preserved : goal.loop-low-preserved
loop-low-preserved g c =
    let l = c.loop-low in
    let ts = g.L.Listed.instants c.args.list.now in
    let start = g.L.Listed.probes c.args.list.now in
    let middle = l.low + (l.high - l.low) / 2 in
    let told : is_gt c.compare.result ≡ false = search rules in
    let reached : get_or (g.L.Listed.instants l.list) middle 0 ≤ c.args.t =
    not_after_told _ _ (subst (λ o. is_gt o ≡ false) c.compare.ensures.order told) in
    let n = passed_more ts c.args.t l.low l.high start (g.L.Listed.probes l.list) middle c.len-high.ensures.listed l.invariant.1
    (omega (arith, c.loop-low-test.true)) (omega (arith, c.loop-low-test.true)) (omega (arith, c.loop-low-test.true))
    (subst (λ us. get_or us middle 0 ≤ c.args.t) l.invariant.0 reached) in (
      c.compare.ensures.same ∙ l.invariant.0,
      subst (λ made. Narrowed ts c.args.t (middle + 1) l.high start made) (sym c.compare.ensures.counted) n,
    )

pub returns-clause-number : goal.returns-clause-number
returns-clause-number g c =
    let n = c.loop-low.invariant.1 in
    let ordered = n.ordered in
    let within = n.within in
    let met : c.loop-low.high ≡ c.loop-low.low = omega (arith, c.loop-low-test.false) in
    let ts = g.L.Listed.instants c.args.list.now in
    sym (number_passed ts c.args.t c.loop-low.low n.passed
    (subst (λ h. AllWithin (λ s. c.args.t < s) ts h (length ts)) met n.to_come) (omega arith))

pub returns-clause-passed : goal.returns-clause-passed
returns-clause-passed g c = c.loop-low.invariant.1.passed

pub returns-clause-to_come : goal.returns-clause-to_come
returns-clause-to_come g c =
    let n = c.loop-low.invariant.1 in
    let ordered = n.ordered in
    let met : c.loop-low.high ≡ c.loop-low.low = omega (arith, c.loop-low-test.false) in
    let ts = g.L.Listed.instants c.args.list.now in
    subst (λ h. AllWithin (λ s. c.args.t < s) ts h (length ts)) met n.to_come

pub returns-clause-same : goal.returns-clause-same
returns-clause-same g c = c.loop-low.invariant.0

pub returns-clause-few : goal.returns-clause-few
returns-clause-few g c = omega (arith, c.loop-low.invariant.1.few)

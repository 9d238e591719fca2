use Rattle.std.proofs.Common.{◌≡◌, ◌∙◌, false, sym, rules}
use Rattle.tpoint.specs.declared.interp.Interp.TheVariants.{Step}
use Rattle.restrict.specs.Cuts.{StopsBefore}
use Rattle.restrict.proofs.InsideLemmas.{value_itself, value_just_before}
use Rattle.restrict.proofs.period_cut.value_up_to_end.Goals.{then-end_in-via-then-end_in, then-end_in-via-else-end_in+then-ne}
use Rattle.restrict.proofs.period_cut.value_up_to_end.Goals as goal

pub returns-then-end_in : goal.returns-then-end_in
returns-then-end_in c =
    let s = c.args.seq.now in
    let p = c.args.period.now in
    let free : ¬ StopsBefore s p c.end-end.result =
    λ stops.
    elim c.then-end_in.branch [
      | then-end_in-via-then-end_in w ↦
          let counts = sym w.if-end_in.true ∙ c.end_in.ensures.value ∙ stops.not_in in absurd (cc)
      | then-end_in-via-else-end_in+then-ne w ↦
          let other : ¬ (s.interp ≡ Step) = search rules in other stops.is_step
    ] in
    value_itself s p c.end-end.result c.in_ok-x.field-0-0 c.in_ok-x.x c.in_ok-x.y c.end-end.ensures.value free c.in_ok-x.ensures

pub returns : goal.returns
returns c =
    let s = c.args.seq.now in
    let p = c.args.period.now in
    let not_in : p.end_in ≡ false = sym c.end_in.ensures.value ∙ c.if-end_in.false in
    let is_step : s.interp ≡ Step = search rules in
    value_just_before s p c.end-end.result c.last_whole.result c.in_ok-x.field-0-0 c.in_ok-x-2.field-0-0 c.in_ok-x.x c.in_ok-x.y
    c.in_ok-x-2.x c.in_ok-x-2.y c.end_in.ensures.has_instant c.end-end.ensures.value c.last_whole.ensures.value is_step not_in
    c.in_ok-x.ensures c.in_ok-x-2.ensures

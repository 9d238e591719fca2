use Rattle.std.proofs.Common.{◌≡◌, ◌+◌, ◌++◌, ◌∷◌, [], ℕ, List, take, ap, sym, subst, ◌∙◌, arith}
use Rattle.std.specs.Prelude.{pos}
use Rattle.std.specs.List.{flat_map}
use Rattle.std.proofs.lemmas.List.{take_more, flat_map_more}
use Rattle.std.proofs.lemmas.List.Elements.{All-more}
use Rattle.std.proofs.lemmas.Grind.{common_steps}
use Rattle.tpoint.specs.Instants.{IsInstant}
use Rattle.tpoint.specs.declared.point.Point.{Point}
use Rattle.fields.specs.Spelling.{triple_bytes}
use Rattle.fields.proofs.writer.push_triples.Goals as goal

-- one triple more
pub loop-point-preserved : goal.loop-point-preserved
loop-point-preserved c =
    let p = c.point-item.result in
    let i = c.loop-point.point-index in
    let points = c.args.points.now in
    let longer : take (i + 1) points ≡ take i points ++ p ∷ [] =
    take_more points i p (omega arith) ∙ ap (λ (q : Point). take i points ++ q ∷ []) (sym c.point-item.is) in
    let spelled = c.in_ok-push_triple.ensures.spelled
    ∙ ap (λ (bytes : List ℕ). bytes ++ triple_bytes p) c.loop-point.invariant.0
    ∙ flat_map_more triple_bytes c.args.out.now.items (take i points) p
    ∙ ap (λ (ps : List Point). c.args.out.now.items ++ flat_map triple_bytes ps) (sym longer) in
    let instant : IsInstant (pos p.t) = c.in_ok-push_triple.ensures.instant in (
      spelled,
      All-more (λ (q : Point). IsInstant (pos q.t)) points i p (omega arith) c.loop-point.invariant.1
          (subst (λ (q : Point). IsInstant (pos q.t)) c.point-item.is instant),
    )

pub returns-clause-instants : goal.returns-clause-instants
returns-clause-instants c = grind (arith, common_steps)

pub returns-clause-spelled : goal.returns-clause-spelled
returns-clause-spelled c = grind (arith, common_steps)

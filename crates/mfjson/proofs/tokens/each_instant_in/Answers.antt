-- Reading one datetime after another.
use Rattle.std.proofs.Common.{refl, subst}
use Rattle.mfjson.specs.Document.{SaysInstant}
use Rattle.mfjson.specs.Tokens.{ItemsAreRead, TokensSay}
use Rattle.mfjson.proofs.TokenLemmas.{one_more}
use Rattle.mfjson.proofs.tokens.each_instant_in.Goals as goal

pub loop-item-init : goal.loop-item-init
loop-item-init c = (
  c.new-last.ensures,
  λ j begins.
      let inside = c.in_ok-items.ensures j begins in
      (inside.0, inside.1, inside.0, inside.2, rw c.new-instants.ensures.items refl),
)

pub loop-item-preserved : goal.loop-item-preserved
loop-item-preserved c = (
  c.instant_in.ensures.last,
  λ j begins.
      let so_far = c.loop-item.invariant.1 j begins in
      let next = c.in-Some.ensures.value so_far.2 so_far.3 in
      let here = subst (ItemsAreRead (λ item t. TokensSay 0 SaysInstant item t) so_far.0 c.loop-item.instants.items) next.2 so_far.4 in
      let more = one_more _ so_far.0 c.loop-item.instants.items next.0 next.1 c.in_ok-instant.instant c.in-Some.item here next.3
      c.in_ok-instant.ensures.value in
      (so_far.0, so_far.1, next.1, next.4, rw c.in-Ok.ensures.items more),
)

pub returns : goal.returns
returns c =
    record {
      read = λ j begins.
          let so_far = c.loop-item.invariant.1 j begins in
          let over = c.in_default.ensures.value so_far.2 so_far.3 in
          (so_far.0, so_far.1, subst (ItemsAreRead _ so_far.0 c.loop-item.instants.items) over so_far.4);
    }

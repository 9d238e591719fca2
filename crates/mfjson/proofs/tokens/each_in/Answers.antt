-- Reading one element after another.
use Rattle.std.proofs.Common.{refl, subst, Some}
use Rattle.std.proofs.lemmas.Fn.{says_at}
use Rattle.std.specs.Fn.{FnReturnsAt}
use Rattle.mfjson.specs.Tokens.{ItemsAreRead}
use Rattle.mfjson.proofs.TokenLemmas.{one_more}
use Rattle.mfjson.proofs.tokens.each_in.Goals as goal

pub loop-item-init : goal.loop-item-init
loop-item-init g c = λ j begins.
    let inside = c.in_ok-items.ensures j begins in
    (inside.0, inside.1, inside.0, inside.2, rw c.new-values.ensures.items refl)

pub loop-item-preserved : goal.loop-item-preserved
loop-item-preserved g c = λ j begins.
    let so_far = c.loop-item.invariant j begins in
    let next = c.in-Some.ensures.value so_far.2 so_far.3 in
    let read = says_at g.F.Fn c.read.ensures c.in_ok-value.was in
    let here = subst (ItemsAreRead (λ item x. FnReturnsAt g.F.Fn c.args.read item (Some x)) so_far.0 c.loop-item.values.items) next.2 so_far.4 in
    let more = one_more _ so_far.0 c.loop-item.values.items next.0 next.1 c.in_ok-value.value c.in-Some.item here next.3 read in
    (so_far.0, so_far.1, next.1, next.4, rw c.in-Ok.ensures.items more)

pub returns : goal.returns
returns g c =
    record {
      read = λ j begins.
          let so_far = c.loop-item.invariant j begins in
          let over = c.in_default.ensures.value so_far.2 so_far.3 in
          (so_far.0, so_far.1, subst (ItemsAreRead _ so_far.0 c.loop-item.values.items) over so_far.4);
    }

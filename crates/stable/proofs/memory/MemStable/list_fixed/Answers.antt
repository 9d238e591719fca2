use Rattle.std.proofs.Common.{rules, arith, ◌<◌, ◌+◌, subst}
use Rattle.stable.specs.Listing.{ListsTo}
use Rattle.stable.specs.Memory.{stored}
use Rattle.stable.proofs.KeyLemmas.{fixed_place}
use Rattle.stable.proofs.memory.MemStable.list_fixed.Goals as goal

-- the key is the next of the fixed ones
pub loop-place-preserved : goal.loop-place-preserved
loop-place-preserved c =
    let low : c.loop-place.place < 3 = omega (arith, c.loop-place-test.true) in
    subst (λ n. ListsTo (stored c.args.self.now) (n + 1) c.list.new.keys.items)
    (fixed_place c.loop-place.place c.index-place.result low) c.in_ok-list.ensures

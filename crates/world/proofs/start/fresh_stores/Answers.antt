use Rattle.std.proofs.Common.{◌≡◌, All, List, sym, subst, arith}
use Rattle.std.proofs.lemmas.List.Elements.{All-push}
use Rattle.stable.specs.Memory.{stored}
use Rattle.stable.specs.Records.{no_records}
use Rattle.stable.specs.declared.memory.MemStable.{MemStable}
use Rattle.world.proofs.start.fresh_stores.Goals as goal

pub loop-preserved : goal.loop-preserved
loop-preserved c = record {
  made = omega (arith, c.in_ok-push.ensures.len, c.loop.invariant.made);
  empty = subst (λ (l : List MemStable). All (λ s. stored s ≡ no_records) l) (sym c.in_ok-push.ensures.items)
      (All-push (λ (s : MemStable). stored s ≡ no_records) c.loop.stores.items c.new.result c.loop.invariant.empty c.new.ensures.empty);
}

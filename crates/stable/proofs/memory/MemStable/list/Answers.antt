use Rattle.std.proofs.Common.{rules, arith, ◌≡◌, ◌+◌, ◌++◌, ◌∷◌, [], ◌∙◌, sym, subst, IsSome}
use Rattle.stable.specs.Listing.{ListsTo}
use Rattle.stable.specs.Memory.{stored}
use Rattle.stable.specs.Records.{rank}
use Rattle.stable.proofs.MemoryLemmas.{one_more, found_some, between_none}
use Rattle.stable.proofs.memory.MemStable.list.Goals as goal

-- the key is the next of the list
pub returns-in_ok-push : goal.returns-in_ok-push
returns-in_ok-push c =
    let records = stored c.args.self.now in
    let key = c.args.key.now in
    let some : IsSome (records key) =
    found_some c.record.result (records key) c.record.ensures (sym c.is_some.ensures ∙ c.if-is_some.true) in
    let longer : c.push.new.self.items ≡ c.args.keys.now.items ++ key ∷ [] = search rules in
    subst (ListsTo records (rank key + 1)) (sym longer)
    (one_more records (rank key) c.args.keys.now.items c.requires key (omega arith) some (between_none records (rank key)))

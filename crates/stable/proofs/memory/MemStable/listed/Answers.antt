use Rattle.std.proofs.Common.{rules, arith, ◌≡◌, ◌+◌, ◌<◌, ◌++◌, ◌∷◌, [], sym, subst}
use Rattle.std.proofs.lemmas.Result.{err_from_is_err_and}
use Rattle.stable.specs.Listing.{ListsTo}
use Rattle.stable.specs.Memory.{stored}
use Rattle.stable.specs.declared.key.Key.TheVariants.{Vote}
use Rattle.stable.proofs.MemoryLemmas.{none_listed, vote_listed, next_place, all_listed, no_votes}
use Rattle.stable.proofs.memory.MemStable.listed.Goals as goal

pub list_fixed-requires : goal.list_fixed-requires
list_fixed-requires c = subst (ListsTo (stored c.args.self.now) 0) (sym c.new-keys.ensures.items) (none_listed (stored c.args.self.now))

-- the next vote is listed
pub loop-from-preserved : goal.loop-from-preserved
loop-from-preserved c =
    let self = c.args.self.now in
    let slot = c.in-Some-first_from.slot in
    let before : ListsTo (stored self) (c.in-Some.first + 3) c.loop-from.keys.items = rw c.in-Some.is at c.loop-from.invariant in
    let longer : c.push.new.self.items ≡ c.loop-from.keys.items ++ Vote slot ∷ [] = search rules in
    let number : c.value.result ≡ slot = search rules in
    let low : c.value.result < 65536 = search rules in
    let lt : slot < 65536 = omega (arith, number, low) in
    let listed = vote_listed self c.in-Some.first slot c.in-Some-first_from.field-0-1.now c.loop-from.keys.items before
    c.in-Some-first_from.ensures in
    next_place (stored self) c.push.new.self.items slot c.value.result c.new-from.result number lt c.new-from.ensures.valid
    c.new-from.ensures.value (subst (ListsTo (stored self) (slot + 3 + 1)) (sym longer) listed)

-- the list could not grow
pub returns-in_err-list_fixed : goal.returns-in_err-list_fixed
returns-in_err-list_fixed c =
    rw ((err_from_is_err_and c.from_residual.result c.from_residual.ensures.1).1) (record { told = tt; ascending = tt })

pub returns-in_err-push : goal.returns-in_err-push
returns-in_err-push c =
    let exit = err_from_is_err_and c.from_residual-in_err-push.result c.from_residual-in_err-push.ensures.1 in
    rw (exit.1) (record { told = tt; ascending = tt })

-- no vote is left
pub returns-in_default-first_from : goal.returns-in_default-first_from
returns-in_default-first_from c =
    let self = c.args.self.now in
    let listed : ListsTo (stored self) (c.in-Some.first + 3) c.loop-from.keys.items = rw c.in-Some.is at c.loop-from.invariant in record {
      told = all_listed (stored self) (c.in-Some.first + 3) c.loop-from.keys.items listed
          (no_votes self c.in-Some.first c.in_default-first_from.ensures);
      ascending = listed.ascending;
    }

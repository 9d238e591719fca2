use Rattle.std.proofs.Common.{rules, ℕ, List, ◌≡◌, ◌+◌, ◌<◌, ◌++◌, ◌∷◌, [], None, MatchOption, length, sym, subst}
use Rattle.slot_table.proofs.ValueLemmas.{where_refused}
use Rattle.slot_table.specs.Values.{value_at, IsEmptyFrom}
use Rattle.synod.specs.declared.ballot.Ballot.{Ballot}
use Rattle.synod.specs.declared.vote.Vote.{Vote}
use Rattle.sessions.specs.declared.command.Command.{Command}
use Rattle.wire.specs.Promises.{Promised}
use Rattle.acceptor.specs.AcceptedValues.{vote_at}
use Rattle.acceptor.specs.Ranges.{IsPromiseFrom}
use Rattle.acceptor.proofs.RangeLemmas.{IsToldTo, held, so_far, all_looked_at, one_told, nothing_more, told_to_next}
use Rattle.acceptor.proofs.RangeLemmas.{found_from, has_one_before, full_promise, last_promise}
use Rattle.acceptor.proofs.votes.Votes.promise.Goals as goal
use Rattle.acceptor.proofs.votes.Votes.promise.Goals.{After-last, After-unwrap, in-Some+in_default-first_from, in_default}

-- a promise of these parts
abbrev telling : Ballot → ℕ → ℕ → List (Vote Command) → Promised
telling ballot first last told = record { ballot = ballot; first = first; last = last; entries = told }

-- the fifth vote has others before it
pub unwrap-requires : goal.unwrap-requires
unwrap-requires c =
    let votes = c.args.self.now.by_slot in
    let slot = c.in-Some-first_from.slot in
    let told = c.loop-from.entries.items in
    let four : length told ≡ 4 = search rules in
    let one_before : MatchOption c.before-then-len-eq-MOST_ENTRIES.result (slot ≡ 0) (λ s. s + 1 ≡ slot) = search rules in
    let before = so_far votes c.args.first c.loop-from.from c.in-Some.next told c.in-Some.is c.loop-from.invariant in
    has_one_before votes c.args.first c.before-then-len-eq-MOST_ENTRIES.result c.in-Some.next slot c.in-Some-first_from.cast.now told before
    c.in-Some-first_from.ensures four one_before

-- what a promise tells that ends right before the fifth vote
full : (c : After-unwrap) → IsPromiseFrom (held c.args.self.now.by_slot c.args.first) c.args.ballot c.args.first
    (telling c.args.ballot c.args.first c.unwrap.result c.loop-from.entries.items)
full c =
    let votes = c.args.self.now.by_slot in
    let slot = c.in-Some-first_from.slot in
    let told = c.loop-from.entries.items in
    let four : length told ≡ 4 = search rules in
    let at : c.unwrap.result + 1 ≡ slot = search rules in
    let low : slot < 65536 = search rules in
    let before = so_far votes c.args.first c.loop-from.from c.in-Some.next told c.in-Some.is c.loop-from.invariant in
    full_promise votes c.args.first c.args.ballot c.in-Some.next slot c.unwrap.result c.in-Some-first_from.cast.now told
    before c.in-Some-first_from.ensures four at low c.requires

pub unwrap-requires-then-len-eq-MOST_ENTRIES : goal.unwrap-requires-then-len-eq-MOST_ENTRIES
unwrap-requires-then-len-eq-MOST_ENTRIES c =
    c.new.ensures.valid.1 (full (goal.at.unwrap-requires-then-len-eq-MOST_ENTRIES c).After-unwrap).may_be_said

pub returns-then-len-eq-MOST_ENTRIES-clause-tells : goal.returns-then-len-eq-MOST_ENTRIES-clause-tells
returns-then-len-eq-MOST_ENTRIES-clause-tells c =
    let is : c.unwrap-then-len-eq-MOST_ENTRIES.result ≡ telling c.args.ballot c.args.first c.unwrap.result c.loop-from.entries.items
    = search rules in
    rw is (full (goal.at.returns-then-len-eq-MOST_ENTRIES-clause-tells c).After-unwrap)

-- the vote at hand, for which memory was refused, stands at the first slot or at a later one
pub returns-in_err-push-clause-stands : goal.returns-in_err-push-clause-stands
returns-in_err-push-clause-stands c =
    let votes = c.args.self.now.by_slot in
    let told = c.loop-from.entries.items in
    let before = so_far votes c.args.first c.loop-from.from c.in-Some.next told c.in-Some.is c.loop-from.invariant in
    where_refused c.from_residual-in_err-push.result (found_from votes c.args.first c.in-Some.next c.in-Some-first_from.slot
    c.in-Some-first_from.cast.now told before c.in-Some-first_from.ensures)

-- the next vote is told
pub loop-from-preserved : goal.loop-from-preserved
loop-from-preserved c =
    let votes = c.args.self.now.by_slot in
    let slot = c.in-Some-first_from.slot in
    let cast = c.in-Some-first_from.cast.now in
    let told = c.loop-from.entries.items in
    let entry : c.new-in-Some.result ≡ vote_at slot cast = search rules in
    let room : length told < 4 = search rules in
    let longer : c.push.new.self.items ≡ told ++ vote_at slot cast ∷ [] = search rules in
    let number : c.value.result ≡ slot = search rules in
    let lt : slot < 65536 = search rules in
    let before = so_far votes c.args.first c.loop-from.from c.in-Some.next told c.in-Some.is c.loop-from.invariant in
    let more = one_told votes c.args.first c.in-Some.next slot cast told before c.in-Some-first_from.ensures room in
    told_to_next votes c.args.first c.push.new.self.items slot c.value.result c.new-from.result number lt c.new-from.ensures.valid
    c.new-from.ensures.value (subst (IsToldTo (held votes c.args.first) c.args.first (slot + 1)) (sym longer) more)

-- no vote is left to tell
all_told : (c : After-last) → IsToldTo (held c.args.self.now.by_slot c.args.first) c.args.first 65536 c.loop-from.entries.items
all_told c =
    let votes = c.args.self.now.by_slot in
    let told = c.loop-from.entries.items in
    elim c.match-from.branch [
      | in-Some+in_default-first_from w ↦
          let empty : IsEmptyFrom (value_at votes) w.in-Some.next = search rules in
          let low : w.in-Some.next < 65536 = search rules in
          nothing_more votes c.args.first w.in-Some.next told
          (so_far votes c.args.first c.loop-from.from w.in-Some.next told w.in-Some.is c.loop-from.invariant) empty low
      | in_default w ↦
          let none : c.loop-from.from ≡ None = search rules in
          all_looked_at votes c.args.first c.loop-from.from told none c.loop-from.invariant
    ]

-- what a promise tells then
whole : (c : After-last) → IsPromiseFrom (held c.args.self.now.by_slot c.args.first) c.args.ballot c.args.first
    (telling c.args.ballot c.args.first c.last.result c.loop-from.entries.items)
whole c =
    let low : c.args.first < 65536 = search rules in
    last_promise c.args.self.now.by_slot c.args.first c.args.ballot c.last.result c.loop-from.entries.items (all_told c) c.last.ensures low
    c.requires

pub unwrap-requires-2 : goal.unwrap-requires-2
unwrap-requires-2 c = c.new-2.ensures.valid.1 (whole (goal.at.unwrap-requires-2 c).After-last).may_be_said

pub returns-clause-tells : goal.returns-clause-tells
returns-clause-tells c =
    let is : c.unwrap-2.result ≡ telling c.args.ballot c.args.first c.last.result c.loop-from.entries.items
    = search rules in
    rw is (whole (goal.at.returns-clause-tells c).After-last)

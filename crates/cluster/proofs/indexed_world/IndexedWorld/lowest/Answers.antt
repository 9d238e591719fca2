use Rattle.std.proofs.Common.{◌<◌, length, rules, arith, refl, sym, ap, ◌∙◌}
use Rattle.cluster.proofs.Indexing.{another_there, lowest_there, none_there, there_within}
use Rattle.cluster.proofs.indexed_world.IndexedWorld.lowest.Goals as goal

-- the index has none
pub returns-in_default-clause-found : goal.returns-in_default-clause-found
returns-in_default-clause-found c =
    let same = ap (λ w. w.frames) c.in_ok-catch_up.ensures.world in
    none_there _ _ _ same refl c.catch_up.new.self.numbers _ c.catch_up.new.self.exact c.in_ok-catch_up.ensures.all
    c.args.node c.args.datagram.now.items (sym c.number.ensures ∙ c.in_default.is)

-- what it has is a frame's number
pub bounds-frames-number : goal.bounds-frames-number
bounds-frames-number c =
    let same = ap (λ w. w.frames) c.in_ok-catch_up.ensures.world in
    there_within _ _ c.frames.result.now same c.frames.ensures c.catch_up.new.self.numbers _ c.catch_up.new.self.exact
    c.in_ok-catch_up.ensures.all c.args.node c.args.datagram.now.items c.in-Some.number (sym c.number.ensures ∙ c.in-Some.is)

pub offset_bounds-frames-number : goal.offset_bounds-frames-number
offset_bounds-frames-number c =
    let same = ap (λ w. w.frames) c.in_ok-catch_up.ensures.world in
    let less : c.in-Some.number < length c.frames.result.now =
    there_within _ _ c.frames.result.now same c.frames.ensures c.catch_up.new.self.numbers _ c.catch_up.new.self.exact
    c.in_ok-catch_up.ensures.all c.args.node c.args.datagram.now.items c.in-Some.number (sym c.number.ensures ∙ c.in-Some.is) in
    search (rules, arith, less)

-- it goes to another node
pub returns-then-ne-clause-found : goal.returns-then-ne-clause-found
returns-then-ne-clause-found c =
    let same = ap (λ w. w.frames) c.in_ok-catch_up.ensures.world in
    another_there _ _ c.frames.result.now same c.frames.ensures c.catch_up.new.self.numbers _ c.catch_up.new.self.exact
    c.in_ok-catch_up.ensures.all c.args.node c.args.datagram.now.items c.in-Some.number c.index-frames-number.result
    (sym c.number.ensures ∙ c.in-Some.is) c.index-frames-number.is (search rules)

-- it goes to the node
pub returns-clause-found : goal.returns-clause-found
returns-clause-found c =
    let same = ap (λ w. w.frames) c.in_ok-catch_up.ensures.world in
    lowest_there _ _ c.frames.result.now same c.frames.ensures c.catch_up.new.self.numbers _ c.catch_up.new.self.exact
    c.in_ok-catch_up.ensures.all c.args.node c.args.datagram.now.items c.in-Some.number c.index-frames-number.result
    (sym c.number.ensures ∙ c.in-Some.is) c.index-frames-number.is (search rules)

use Rattle.std.proofs.Common.{◌∙◌, ap, insert}
use Rattle.proposer.proofs.Placing.{placed_by_count}
use Rattle.proposer.proofs.window.Window.place.Goals as goal

pub returns : goal.returns
returns c = rw (← c.self.view_is) (c.insert.ensures.items
    ∙ ap (λ i. insert c.self.inside.places.items i (record { slot = c.args.slot; command = c.args.command }))
    c.count_below-before.ensures.count
    ∙ rw (← c.self.view_is) (placed_by_count (record { slot = c.args.slot; command = c.args.command }) c.self.inside.places.items))

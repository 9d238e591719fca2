use Rattle.std.proofs.Common.{◌≡◌, ◌∙◌, ◌++◌, ◌∷◌, [], ◌≤◌, ◌<◌, ℕ, List, Bool, true, take, length, length-append, slice_index_or, sym, ap, subst, arith}
use Rattle.std.proofs.lemmas.List.{get_or_read, length-take-le}
use Rattle.diagram.specs.Places.{HaveRoom, further}
use Rattle.diagram.specs.Shown.{StandWhereSet}
use Rattle.diagram.proofs.FlagLemmas.{place_if, room_if, room_more, stand_if}
use Rattle.diagram.proofs.ListLemmas.{take_so_far}
use Rattle.diagram.proofs.layout.stack.Goals as goal

-- the next step stands below those so far, if it is shown
pub loop-index-preserved : goal.loop-index-preserved
loop-index-preserved c =
    let flags = c.args.shown.items in
    let texts = c.args.texts.items in
    let so_far = c.loop-index.invariant in
    let index = c.loop-index.index in
    let ends = c.loop-index.ends.items in
    let low = c.loop-index.height in
    let flag : Bool = c.index-is_shown.result.now in
    let high = c.stand_below-height.result in
    let within : index < length flags = omega arith in
    let lower : low ≤ high = c.stand_below-height.ensures.lower in
    let up : 0 < high = omega (arith, so_far.high, lower) in
    let far : flag ≡ true → further low 450 ≤ high =
    λ e. omega (arith, c.stand_below-height.ensures.shown e, c.row_of.ensures) in
    let read : c.index.result.now ≡ slice_index_or texts index 0 =
    get_or_read texts index c.index.result.now (omega (arith, within, c.requires)) c.index.ensures 0 in
    let lines : slice_index_or texts (length ends) 0 ≡ c.index.result.now =
    ap (λ (n : ℕ). slice_index_or texts n 0) so_far.long ∙ sym read in
    let grown : c.push.new.self.items ≡ ends ++ place_if flag high ∷ [] =
    c.in_ok-push.ensures.items ∙ ap (λ (e : ℕ). ends ++ e ∷ []) c.place_if.ensures in
    let long : length ends ≡ length (take index flags) = omega (arith, length-take-le index flags (omega arith)) in
    let more = take_so_far flags index flag within c.index-is_shown.ensures in record {
      high = up;
      long = omega (arith, ap length grown, length-append ends (place_if flag high ∷ []));
      stand = subst (λ (fs : List Bool). StandWhereSet fs c.push.new.self.items high) more
          (subst (λ (es : List ℕ). StandWhereSet (take index flags ++ flag ∷ []) es high) (sym grown)
          (stand_if ends low (take index flags) long so_far.stand flag high lower up far));
      room = subst (λ (es : List ℕ). HaveRoom texts es) (sym grown)
          (room_more texts ends low (place_if flag high) so_far.stand.stacked.inside so_far.room
          (room_if flag low high c.row_of.result (slice_index_or texts (length ends) 0) c.index.result.now
          c.stand_below-height.ensures.shown lines c.row_of.ensures));
    }

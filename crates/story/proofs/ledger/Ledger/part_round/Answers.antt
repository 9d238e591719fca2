-- Frame by frame, a round is parted into steps.
use Rattle.std.proofs.Common.{◌≡◌, ◌<◌, ◌≤◌, ◌∙◌, List, drop, length, get_or, true, subst, refl, ap, arith}
use Rattle.wire.specs.declared.frames.envelope.Envelope.{Envelope}
use Rattle.world.specs.Seen.{world_of}
use Rattle.std.proofs.lemmas.Option.{slice_get-get_or}
use Rattle.story.specs.Ledgers.{counted}
use Rattle.story.specs.Noting.{FrameIsNoted}
use Rattle.story.proofs.SendingLemmas.{made_noted, of_round}
use Rattle.story.proofs.NotingLemmas.{none_parted, one_more_parted}
use Rattle.story.proofs.PassingLemmas.{passages_same}
use Rattle.story.proofs.ledger.Ledger.part_round.Goals as goal

pub loop-index-init : goal.loop-index-init
loop-index-init c = record {
  kept = c.requires.kept;
  still = record { lines = refl; fault = refl; world = refl };
  made = c.requires.made;
  noted = none_parted (world_of c.args.self.now.world) c.args.first c.args.self.now.steps.items;
}

pub loop-index-preserved : goal.loop-index-preserved
loop-index-preserved c =
    let within : c.loop-index.index < length (world_of c.args.self.now.world).waiting =
    omega (arith, ap length c.frames-end.ensures, c.requires.kept.searched.one_each, c.loop-index-test.true) in
    let before = c.loop-index.invariant.still in
    let now = c.in_ok-note_frame.ensures.still in record {
      kept = c.in_ok-note_frame.ensures.kept;
      still = record {
        lines = now.lines ∙ before.lines;
        fault = now.fault ∙ before.fault;
        world = now.world ∙ before.world;
      };
      made = made_noted (world_of c.args.self.now.world) c.loop-index.index c.args.first c.loop-index.self.steps.items
          c.note_frame.new.self.steps.items (get_or (world_of c.args.self.now.world).waiting c.loop-index.index true)
          (slice_get-get_or (world_of c.args.self.now.world).waiting c.loop-index.index true within)
          (subst (λ w. FrameIsNoted w c.loop-index.index c.loop-index.self.steps.items c.note_frame.new.self.steps.items) before.world
          c.in_ok-note_frame.ensures.noted) c.loop-index.invariant.made;
      noted = one_more_parted (world_of c.args.self.now.world) c.args.first (world_of c.loop-index.self.world) c.loop-index.index
          c.args.self.now.steps.items c.loop-index.self.steps.items c.note_frame.new.self.steps.items before.world within
          c.loop-index.invariant.noted c.in_ok-note_frame.ensures.noted;
    }

pub returns-clause-kept : goal.returns-clause-kept
returns-clause-kept c =
    let is_late : c.as_slice.result.now ≡ drop c.args.first (world_of c.loop-index.self.world).frames =
    c.as_slice.ensures.value ∙ c.in-Ok.ensures ∙ ap (λ (es : List Envelope). drop c.args.first es) c.frames.ensures in
    let before = c.loop-index.invariant.kept in
    let within : (counted c.loop-index.self).frames ≤ length (world_of c.args.self.now.world).frames =
    omega (arith, before.within.frames, ap (λ w. length w.frames) c.loop-index.invariant.still.world) in
    let round = of_round c.loop-index.self.steps.items c.args.first (length (world_of c.args.self.now.world).frames) within
    c.loop-index.invariant.made in
    let late = c.send_late.ensures in record {
      lines = before.lines;
      counts = before.counts;
      within = before.within;
      passages = late.count ∙ before.passages;
      came = passages_same _ _ _ late.came before.came;
      sent = late.sent.kept _ _ is_late before.counts round before.came before.sent;
      searched = before.searched;
    }

-- What a learner makes of the news of a vote, from what becomes of its slot.
use Rattle.std.proofs.Common.{◌≡◌, ℕ, ◌<◌, ◌≤◌, Bool, true, false, Option, Some, None, refl, ap, ◌∙◌}
use Rattle.synod.specs.Records.{put}
use Rattle.synod.specs.declared.vote.Vote.{Vote}
use Rattle.sessions.specs.declared.command.Command.{Command}
use Rattle.learner.specs.Learning.{Learning, Heard, NewsCounts, HearsVote, with_heard, with_learnt}
use Rattle.learner.specs.Learning as learning
use Rattle.learner.specs.Places.{Turns}
use Rattle.learner.specs.Places as places
use Rattle.learner.specs.Slots.{SlotHears}
use Rattle.learner.proofs.SlotLemmas.{put_same, nothing_learnt}

module _ (old : Learning) (from : ℕ) (v : Vote Command) (learnt_then : ℕ → Option Command) (heard_then : ℕ → Heard)
    (run : from < old.nodes) (kept : old.first ≤ v.slot) where
  abbrev after : Learning
  after = record old { learnt = learnt_then; heard = heard_then }

  abbrev Reaches : Bool → Type 0
  Reaches learns = SlotHears old.nodes old.learnt old.heard from v learns learnt_then heard_then

  counts : old.learnt v.slot ≡ None → old.heard v.slot v.ballot from ≡ None → NewsCounts old from v
  counts none once = record { of_the_run = run; in_time = record { kept = kept; unlearnt = none }; once = once }

  pub hears_nothing_new : Reaches false → HearsVote old from v None after
  hears_nothing_new h = of_turn h.turns
    where
      of_turn : Turns old.nodes from v.ballot v.command (old.learnt v.slot) (old.heard v.slot) false
          (learnt_then v.slot) (heard_then v.slot)
          → HearsVote old from v None after
      of_turn (places.ignores never e l k) =
          let same : heard_then ≡ old.heard = h.heard_elsewhere ∙ put_same old.heard v.slot (heard_then v.slot) k in
          learning.ignores (λ c. never c.in_time.unlearnt c.once) refl (λ p. record old { learnt = nothing_learnt h p; heard = same p })
      of_turn (places.keeps none once few e l k) =
          let more : heard_then ≡ (with_heard old from v).heard = h.heard_elsewhere ∙ ap (put old.heard v.slot) k in
          learning.hears (counts none once) few refl (λ p. record old { learnt = nothing_learnt h p; heard = more p })
      of_turn (places.decides none once most e l k) = absurd (let bad : false ≡ true = e in cc)

  pub hears_the_last : Reaches true → HearsVote old from v (Some (record { slot = v.slot })) after
  hears_the_last h = of_turn h.turns
    where
      of_turn : Turns old.nodes from v.ballot v.command (old.learnt v.slot) (old.heard v.slot) true
          (learnt_then v.slot) (heard_then v.slot)
          → HearsVote old from v (Some (record { slot = v.slot })) after
      of_turn (places.ignores never e l k) = absurd (let bad : true ≡ false = e in cc)
      of_turn (places.keeps none once few e l k) = absurd (let bad : true ≡ false = e in cc)
      of_turn (places.decides none once most e l k) =
          let learnt : learnt_then ≡ (with_learnt old v.slot v.command).learnt = h.learnt_elsewhere ∙ ap (put old.learnt v.slot) l in
          let heard : heard_then ≡ (with_learnt old v.slot v.command).heard = h.heard_elsewhere ∙ ap (put old.heard v.slot) k in
          learning.learns (counts none once) most refl (λ p. record old { learnt = learnt p; heard = heard p })

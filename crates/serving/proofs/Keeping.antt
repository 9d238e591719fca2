-- What a process does by its clock, and of its records.
use Rattle.std.proofs.Common.{◌≡◌, ◌||◌, ℕ, nat_lt, [], Bool, false, IsTrue, ◌∙◌, ap, subst, sym}
use Rattle.stable.specs.declared.stable.Stable.{Ghosts}
use Rattle.node_model.specs.declared.input.Input.TheVariants as input
use Rattle.serving.specs.Knowing.{IsPosition}
use Rattle.serving.specs.Learning.{Known}
use Rattle.serving.specs.Moves.{IsGivenWhere, KeepsTime, Moves, Taking, Telling}
use Rattle.serving.specs.Moves.Move.{keeps_records, looks}
use Rattle.serving.specs.Processes.{HasLooked, ProcessState, is_asked_in}
use Rattle.serving.specs.Resting.{IsCheckpointed}
use Rattle.serving.specs.Staying.{WasGiven}
use Rattle.serving.specs.Timings.{IsCampaignDue, IsTickDue, TimingState, campaigned, position_seen}
use Rattle.serving.proofs.Learning.{position_known}
use Rattle.serving.proofs.Moving.{moves_one, moves_to}

pub has_looked : {S : Type 0} (now : ℕ) (p : ProcessState S) (position : ℕ) (asked : Bool) (knows : TimingState)
    → IsPosition p.life.node position → asked ≡ is_asked_in p → knows ≡ position_seen position asked now p.timing
    → HasLooked (record p { timing = knows })
has_looked now p position asked knows at is seen =
    let horizon : (position_seen position asked now p.timing).horizon ≡ p.timing.horizon =
    ap (λ (k : Known). k.horizon) (position_known position asked now p.timing) in
    subst (λ (t : TimingState). HasLooked (record p { timing = t })) (sym seen) (record {
      position = at;
      wanting = ap (λ (b : Bool). b || nat_lt position p.timing.horizon) is
          ∙ ap (λ (h : ℕ). is_asked_in p || nat_lt position h) (sym horizon);
    })

pub never_so : (b : Bool) → IsTrue b → b ≡ false → ⊥
never_so b is not_so = absurd (cc)

module _ {S : Type 0} (storages : Ghosts S) where
  -- a checkpoint, and then a trim
  pub moves_given_twice : (now : ℕ) (p q r : ProcessState S) → ¬ IsCheckpointed p.life.node → WasGiven storages p.life input.Checkpoint q.life
      → WasGiven storages q.life input.Trim r.life → q ≡ record p { life = q.life } → r ≡ record q { life = r.life }
      → Moves storages now Taking p [] [] r
  moves_given_twice now p q r is checkpoint trim one two =
      moves_to storages now p (record p { life = r.life }) r [] []
      (moves_one storages now p (record p { life = r.life }) [] []
      (keeps_records p r.life (record { due = is; between = q.life; checkpoints = checkpoint; trims = trim })))
      (two ∙ ap (λ (x : ProcessState S). record x { life = r.life }) one)

  -- it looks at its node's position
  pub moves_looking : (now : ℕ) (p : ProcessState S) (position : ℕ) (asked : Bool) (knows : TimingState) → IsPosition p.life.node position
      → asked ≡ is_asked_in p → knows ≡ position_seen position asked now p.timing → Moves storages now Telling p [] [] (record p { timing = knows })
  moves_looking now p position asked knows at is seen =
      moves_to storages now p (record p { timing = position_seen position (is_asked_in p) now p.timing }) (record p { timing = knows }) [] []
      (moves_one storages now p (record p { timing = position_seen position (is_asked_in p) now p.timing }) [] [] (looks p position at))
      (ap (λ (t : TimingState). record p { timing = t }) (seen ∙ ap (λ (b : Bool). position_seen position b now p.timing) is))

  -- it campaigns and ticks where that is due
  pub keeps_time_so : (now : ℕ) (p q r : ProcessState S) (position : ℕ) (asked : Bool) (looked : TimingState) → IsPosition p.life.node position
      → asked ≡ is_asked_in p → looked ≡ position_seen position asked now p.timing
      → IsGivenWhere storages (IsCampaignDue position asked now looked) input.Timeout (campaigned now looked) p.life looked q.life q.timing
      → IsGivenWhere storages (IsTickDue position asked now q.timing) input.Tick (record q.timing { ticked = now })
      q.life q.timing r.life r.timing
      → KeepsTime storages now p r.life r.timing
  keeps_time_so now p q r position asked looked at is seen campaigns ticks = record {
    position = position;
    at = at;
    looked = looked;
    looks = seen ∙ ap (λ (b : Bool). position_seen position b now p.timing) is;
    between = q.life;
    knew = q.timing;
    campaigns = subst (λ (b : Bool). IsGivenWhere storages (IsCampaignDue position b now looked) input.Timeout (campaigned now looked)
        p.life looked q.life q.timing) is campaigns;
    ticks = subst (λ (b : Bool). IsGivenWhere storages (IsTickDue position b now q.timing) input.Tick
        (record q.timing { ticked = now }) q.life q.timing r.life r.timing) is ticks;
  }

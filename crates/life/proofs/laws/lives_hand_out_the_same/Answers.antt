use Rattle.life.proofs.HandedLemmas.{handed_answers_one, handed_replies_one}
use Rattle.life.proofs.laws.lives_hand_out_the_same.Goals as goal

pub returns : goal.returns
returns g c = record {
  answers = handed_answers_one g.met.S.Stable.laws;
  replies = handed_replies_one g.met.S.Stable.laws;
}

use Rattle.world_model.proofs.Weaving.Woven.{lives_answer_one, lives_reply_one}
use Rattle.world_model.proofs.lives.lives_tell_the_same.Goals as goal

pub returns : goal.returns
returns g c = record { answers = lives_answer_one g.met.S.Stable.laws; replies = lives_reply_one g.met.S.Stable.laws }

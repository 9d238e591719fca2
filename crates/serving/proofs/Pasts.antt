-- One past, and what was done since.
use Rattle.std.proofs.Common.{◌≡◌, List, [], ◌++◌, append-nil, append_assoc}
use Rattle.world_model.specs.Lives.{Happening}
use Rattle.life.specs.Telling.{ToldLists, joined, nothing}
use Rattle.serving.specs.Tapes.{Carried, Talk}
use Rattle.serving.specs.Turns.{Past, later}

pub joined_nothing : (told : ToldLists) → joined told nothing ≡ told
joined_nothing told = λ i. record {
  frames = append-nil told.frames i;
  learnt = append-nil told.learnt i;
  replies = append-nil told.replies i;
  answers = append-nil told.answers i;
}

joined_twice : (a b c : ToldLists) → joined (joined a b) c ≡ joined a (joined b c)
joined_twice a b c = λ i. record {
  frames = append_assoc a.frames b.frames c.frames i;
  learnt = append_assoc a.learnt b.learnt c.learnt i;
  replies = append_assoc a.replies b.replies c.replies i;
  answers = append_assoc a.answers b.answers c.answers i;
}

pub later_nothing : (past : Past) → later past [] nothing [] [] ≡ past
later_nothing past = λ i. record {
  history = append-nil past.history i;
  handed = joined_nothing past.handed i;
  carried = append-nil past.carried i;
  talk = append-nil past.talk i;
}

pub later_twice : (past : Past) (h1 h2 : List Happening) (o1 o2 : ToldLists) (c1 c2 : List Carried) (t1 t2 : List Talk)
    → later (later past h1 o1 c1 t1) h2 o2 c2 t2 ≡ later past (h1 ++ h2) (joined o1 o2) (c1 ++ c2) (t1 ++ t2)
later_twice past h1 h2 o1 o2 c1 c2 t1 t2 = λ i. record {
  history = append_assoc past.history h1 h2 i;
  handed = joined_twice past.handed o1 o2 i;
  carried = append_assoc past.carried c1 c2 i;
  talk = append_assoc past.talk t1 t2 i;
}

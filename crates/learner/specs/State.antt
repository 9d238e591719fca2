-- What a learner in memory holds.
use Rattle.learner.specs.Learning.{Learning}
use Rattle.learner.specs.Known.{known_learnt, known_heard}
use Rattle.learner.specs.declared.learner.Learner.{Learner}

abbrev pub learning_of : Learner → Learning
learning_of l = record { nodes = l.nodes; first = l.first; learnt = known_learnt l.slots; heard = known_heard l.slots }

-- Whatever a node makes of an input that it takes is allowed.
use Rattle.std.proofs.Common.{ℕ, ◌<◌, ◌≤◌, List, sym, subst, arith}
use Rattle.synod.specs.Acts as act
use Rattle.synod.specs.Acts.{Local}
use Rattle.sessions.specs.declared.command.Command.{Command}
use Rattle.acceptor.specs.Accepting.{Accepting}
use Rattle.node_model.specs.declared.input.Input.{Input}
use Rattle.node_model.specs.Loading.{IsReplicaOf}
use Rattle.node_model.specs.Replicas.{ReplicaState}
use Rattle.node_model.specs.Outputs.{Response}
use Rattle.node_model.specs.Protocol.{input_of, ReplicaStands, MayComeTo, MayTake}
use Rattle.node_model.specs.Taking.{Takes}
use Rattle.node_model.proofs.AllowedCases.{tells_case, reports_case, answers_case, writes_case, proposes_case}
use Rattle.node_model.proofs.AllowedLearning.{vote_case, decided_case}
use Rattle.node_model.proofs.AllowedRestoring.{text_case}
use Rattle.node_model.proofs.Saying.{IsInput, Says, says_of}
use Rattle.node_model.proofs.Saying.Says.{tells, reports, answers, writes, proposes, hears_vote, hears_decided, makes_text}

module _ (old new : ReplicaState) (said : Response) (x : Local Command) (few : old.nodes ≤ 7) (there : old.id < old.nodes)
    (own : IsReplicaOf old.id old.nodes old) (stands : ReplicaStands old x) (i : Input) where
  some_node : 1 ≤ old.nodes
  some_node = omega (arith, there)

  -- it is allowed on what the input is to the protocol
  taken_as : (in' : act.Input Command) (submits : List Command) (a : Accepting) (round : ℕ) → IsInput old i in' submits a round
      → MayComeTo old.nodes old.id in' submits x new said → MayTake old.nodes old.id i x new said
  taken_as in' submits a round is h =
      subst (λ (l : List Command). MayComeTo old.nodes old.id (input_of old.id old.nodes i) l x new said) (sym is.submits_)
      (subst (λ (j : act.Input Command). MayComeTo old.nodes old.id j submits x new said) (sym is.input_) h)

  says_allowed : Says old i new said → MayTake old.nodes old.id i x new said
  says_allowed (tells in' f sends is fetches plain leaves says) =
      taken_as in' _ _ _ is (tells_case old new said x stands in' f sends plain leaves says)
  says_allowed (reports in' to slot c is of_run learnt leaves says) =
      taken_as in' _ _ _ is (reports_case old new said x stands in' to slot c learnt leaves says)
  says_allowed (answers in' to a answer is of_run h leaves says) =
      taken_as in' _ _ _ is (answers_case old new said x stands in' to a answer h leaves says)
  says_allowed (writes a is h leaves says) = taken_as _ _ _ _ is (writes_case old new said x stands a h leaves says)
  says_allowed (proposes in' submits round p asks is h plain leaves says) =
      taken_as in' submits _ _ is
      (proposes_case old new said x stands some_node few own.proposer.0 (sym own.proposer.1) in' submits round p asks h plain leaves says)
  says_allowed (hears_vote from to v comes is k) =
      taken_as _ _ _ _ is (vote_case old new said x stands some_node from v (sym own.learner) k)
  says_allowed (hears_decided from to slot c comes is of_run k) =
      taken_as _ _ _ _ is (decided_case old new said x stands some_node from slot c of_run k)
  says_allowed (makes_text in' is h) = taken_as in' _ _ _ is (text_case old new said x stands some_node in' i h)

-- the number of the node and that of all nodes are its own
pub taking_allowed : (nodes id : ℕ) (old new : ReplicaState) (input : Input) (said : Response) (x : Local Command) → nodes ≤ 7 → id < nodes
    → IsReplicaOf id nodes old → Takes old input new said → ReplicaStands old x → MayTake nodes id input x new said
taking_allowed nodes id old new input said x few there own h stands =
    let here : IsReplicaOf old.id old.nodes old = subst (λ (n : ℕ). IsReplicaOf old.id n old) (sym own.of_all)
    (subst (λ (i : ℕ). IsReplicaOf i nodes old) (sym own.number) own) in
    subst (λ (n : ℕ). MayTake n id input x new said) own.of_all
    (subst (λ (i : ℕ). MayTake old.nodes i input x new said) own.number
    (says_allowed old new said x (omega (arith, few, own.of_all)) (omega (arith, there, own.of_all, own.number)) here stands input
    (says_of old new said input h)))

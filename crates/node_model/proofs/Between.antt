-- What a node of a run sends goes between nodes of the run.
use Rattle.std.proofs.Common.{◌≡◌, ℕ, zero, suc, ◌<◌, ◌≤◌, List, [], ◌∷◌, ◌++◌, All, Option, Some, None}
use Rattle.std.proofs.Common.{Result, Ok, Err, IfOk, IfSome, not, refl, sym, subst, arith}
use Rattle.std.proofs.lemmas.List.Elements.{All-nil, All-append, All-push, All-filter}
use Rattle.stable.specs.declared.stable.Stable.{Ghosts}
use Rattle.sessions.specs.declared.command.Command.{Command}
use Rattle.acceptor.specs.declared.answer.Answer.{Answer}
use Rattle.acceptor.specs.declared.answer.Answer.TheVariants as answer
use Rattle.learner.specs.Learning.{Learning, prefix}
use Rattle.learner.specs.declared.learned.Learned.{Learned}
use Rattle.proposer.specs.declared.sends.Outgoing.{Outgoing}
use Rattle.proposer.specs.declared.sends.Recipients.{Recipients}
use Rattle.proposer.specs.declared.sends.Recipients.TheVariants.{All as ToAll, Others}
use Rattle.wire.specs.NodeSets.{has_node, no_nodes, with_node}
use Rattle.wire.specs.declared.frames.envelope.Envelope.{Envelope}
use Rattle.wire.specs.declared.frames.message.Message.{Message}
use Rattle.node_model.specs.declared.fault.NodeFault.{NodeFault}
use Rattle.node_model.specs.declared.input.Input.{Input}
use Rattle.node_model.specs.Loading.{IsMember}
use Rattle.node_model.specs.Replicas.{ReplicaState, position}
use Rattle.node_model.specs.Nodes.{NodeState, NodeSteps, TakesInput}
use Rattle.node_model.specs.Outputs.{Response}
use Rattle.node_model.specs.Sending.{IsBetween, to_one, to_all, to_recipients, to_others, envelopes_of, envelopes, answer_sends}
use Rattle.node_model.specs.Taking.{Takes, Hears}
use Rattle.node_model.proofs.Saying.{PlainSends, asks_one, Says, says_of}
use Rattle.node_model.proofs.Saying.PlainSends.{to_nobody, to_node, to_the_rest, brings_part}
use Rattle.node_model.proofs.Saying.Says.{tells, reports, answers as acceptor_answers, writes, proposes, hears_vote, hears_decided, makes_text}

-- ---- what is sent
module _ (nodes id : ℕ) (there : id < nodes) where
  abbrev Between : List Envelope → Type 0
  Between es = All (IsBetween nodes) es

  none : Between []
  none = All-nil (IsBetween nodes)

  one : (to : ℕ) (message : Message) → to < nodes → Between (to_one id to message)
  one to message of_run = All-push (IsBetween nodes) [] (record { from = id; to = to; message = message }) none
      (record { from = there; to = of_run })

  each : (n : ℕ) (message : Message) → n ≤ nodes → Between (to_all id n message)
  each zero message few = none
  each (suc n) message few =
      All-push (IsBetween nodes) (to_all id n message) (record { from = id; to = n; message = message })
      (each n message (omega (arith, few))) (record { from = there; to = omega (arith, few) })

  some_of : (r : Recipients) (es : List Envelope) → Between es → Between (to_recipients r es)
  some_of ToAll es h = h
  some_of (Others set) es h = All-filter (λ (e : Envelope). not (has_node set e.to)) (IsBetween nodes) es h

  outgoing : (o : Outgoing) → Between (envelopes_of id nodes o)
  outgoing o = some_of o.to (to_all id nodes o.message) (each nodes o.message (omega arith))

  all_outgoing : (os : List Outgoing) → Between (envelopes id nodes os)
  all_outgoing [] = none
  all_outgoing (o ∷ os) =
      All-append (IsBetween nodes) (envelopes_of id nodes o) (envelopes id nodes os) (outgoing o) (all_outgoing os)

  answers : (to : ℕ) (a : Answer) → to < nodes → Between (answer_sends id nodes to a)
  answers to (answer.Accepted v) of_run = each nodes _ (omega arith)
  answers to (answer.Promise p) of_run = one to _ of_run
  answers to (answer.Nack n) of_run = one to _ of_run
  answers to (answer.Behind floor) of_run = one to _ of_run

  others : (message : Message) → Between (to_others id nodes message)
  others message = some_of (Others (with_node no_nodes id)) (to_all id nodes message) (each nodes message (omega arith))

  both : (xs ys : List Envelope) → Between xs → Between ys → Between (xs ++ ys)
  both = All-append (IsBetween nodes)

-- ---- each shape
module _ (old new : ReplicaState) (said : Response) (there : old.id < old.nodes) where
  abbrev Sends : List Envelope → Type 0
  Sends es = All (IsBetween old.nodes) es

  says : (r : Response) → said ≡ r → Sends r.sends → Sends said.sends
  says r e h = subst (λ (x : Response). Sends x.sends) (sym e) h

  silent : Sends []
  silent = none old.nodes old.id there

  plain_sends : (es : List Envelope) → PlainSends old es → Sends es
  plain_sends _ to_nobody = silent
  plain_sends _ (to_node to m of_run plain) = one old.nodes old.id there to m of_run
  plain_sends _ (to_the_rest m plain) = others old.nodes old.id there m
  plain_sends _ (brings_part to p of_run is) = one old.nodes old.id there to _ of_run

  -- a proposer, and then questions
  goes_on : (os : List Outgoing) (asks : List Envelope) → PlainSends old asks → Sends (envelopes old.id old.nodes os ++ asks)
  goes_on os asks plain =
      both old.nodes old.id there (envelopes old.id old.nodes os) asks (all_outgoing old.nodes old.id there os) (plain_sends asks plain)

  hears_sends : (c : Command) (o : Option Learned) (l : Learning) (asks : List Envelope) → PlainSends old asks
      → Hears old c o l asks new said → Sends said.sends
  hears_sends c None l asks plain k = says _ k.1 silent
  hears_sends c (Some learned) l asks plain k = says _ k.says (goes_on _ asks plain)

  says_sends : (i : Input) → Says old i new said → Sends said.sends
  says_sends i (tells in' f sends is fetched plain leaves e) = says _ e (plain_sends sends plain)
  says_sends i (reports in' to slot c is of_run learnt leaves e) = says _ e (one old.nodes old.id there to _ of_run)
  says_sends i (acceptor_answers in' to a answer is of_run h leaves e) = says _ e (answers old.nodes old.id there to answer of_run)
  says_sends i (writes a is h leaves e) = says _ e silent
  says_sends i (proposes in' submits round p asks is h plain leaves e) = says _ e (goes_on p.1 asks plain)
  says_sends i (hears_vote from to v comes is (o, l, heard, k)) = hears_sends v.command o l [] to_nobody k
  says_sends i (hears_decided from to slot c comes is of_run (o, l, heard, k)) =
      hears_sends c o l _ (asks_one old from (prefix l) of_run) k
  says_sends i (makes_text in' is h) = says _ h.restored.says (goes_on _ _ (asks_one old h.from (position h.restored.m) h.sender))

  pub takes_sends : (i : Input) → Takes old i new said → Sends said.sends
  takes_sends i k = says_sends i (says_of old new said i k)

-- ---- a step of a node
module _ {S : Type 0} (storages : Ghosts S) (id nodes : ℕ) (old new : NodeState S) (i : Input) (is : IsMember id nodes old)
    (there : id < nodes) where
  abbrev Said : Result Response NodeFault → Type 0
  Said r = IfOk r (λ said. All (IsBetween nodes) said.sends)

  replica_between : (m : ReplicaState) (said : Response) → old.up ≡ Some m → TakesInput storages old m i said new
      → All (IsBetween nodes) said.sends
  replica_between m said up k =
      let own = is.up m up in
      subst (λ (n : ℕ). All (IsBetween n) said.sends) own.of_all
      (takes_sends m k.replica said (omega (arith, there, own.number, own.of_all)) i k.takes)

  either_between : (o : Option ReplicaState) (r : Result Response NodeFault) → old.up ≡ o → NodeSteps storages old i r new → Said r
  either_between None r e k = subst Said (sym (k.down e).0) tt
  either_between (Some m) (Ok said) e k = replica_between m said e
      (subst (λ (o : Option ReplicaState). IfSome o (λ (n : ReplicaState). TakesInput storages old n i said new)) e k.taken)
  either_between (Some m) (Err f) e k = tt

  pub steps_between : (r : Result Response NodeFault) → NodeSteps storages old i r new → Said r
  steps_between r k = either_between old.up r refl k

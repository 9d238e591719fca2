-- What an input is to a node's learner: news of a vote, news that a slot is decided, a text that is whole, or nothing.
use Rattle.std.proofs.Common.{◌≡◌, ◌≢◌, ℕ, ◌<◌, ◌==◌, ◌&&◌, not, nat_lt, true, List, [], Option, None, Some, refl, sym, ap, ◌∙◌, subst}
use Rattle.std.proofs.lemmas.Bool.{and_parts, ltb-true, eqb-true}
use Rattle.synod.specs.declared.vote.Vote.{Vote}
use Rattle.sessions.specs.Machines.{MachineState}
use Rattle.sessions.specs.declared.command.Command.{Command}
use Rattle.wire.specs.Parts.{Piece, joined}
use Rattle.wire.specs.declared.frames.envelope.Envelope.{Envelope}
use Rattle.wire.specs.declared.frames.message.Message.TheVariants.{Accepted, Decided, SnapPart}
use Rattle.node_model.specs.declared.input.Input.{Input}
use Rattle.node_model.specs.declared.input.Input.TheVariants as input
use Rattle.node_model.specs.Fetching.{Fetching, wants, is_wanted, is_as_long, is_held, text_with}
use Rattle.node_model.specs.Inputs.{Role, role_of}
use Rattle.node_model.specs.Inputs.Role.{Learner, Fetcher}
use Rattle.node_model.specs.Replicas.{ReplicaState, position}
use Rattle.node_model.specs.Nodes.{fetched_text}
use Rattle.node_model.specs.Outputs.{Response, sent}
use Rattle.node_model.specs.Taking.{Takes, HearsOfVote, HearsOfDecided, PartCounts, Restores, IsMachineOfText}
use Rattle.node_model.proofs.Saying.{MakesText, Says, says_of}
use Rattle.node_model.proofs.Saying.Says.{tells, reports, answers, writes, proposes, hears_vote, hears_decided, makes_text}

-- the learner and the machine stay, nothing is told as learnt or restored, and nobody is replied to
pub record LearnsNothing (old new : ReplicaState) (said : Response) : Type 0 where
  pub learner : new.learner ≡ old.learner
  pub machine : new.machine ≡ old.machine
  pub restored : said.restored ≡ None
  pub learnt : said.learnt ≡ None
  pub replies : said.replies ≡ []

-- the last part of a text has come that reaches further than the position, and this is the text's machine, which is restored
pub record HearsText (old : ReplicaState) (i : Input) (new : ReplicaState) (said : Response) : Type 0 where
  pub from : ℕ
  pub to : ℕ
  pub part : Piece
  pub is : i ≡ input.Message (record { from = from; to = to; message = SnapPart part })
  pub ahead : position old < part.position
  pub machine : MachineState
  pub text : IsMachineOfText (fetched_text old i) machine
  pub whole : Restores old from part.position machine new said

-- what the learner hears
pub data Hearing (old : ReplicaState) (i : Input) (new : ReplicaState) (said : Response) : Type 0 where
  of_vote : (from to : ℕ) (v : Vote Command) → i ≡ input.Message (record { from = from; to = to; message = Accepted v })
      → HearsOfVote old from v new said → Hearing old i new said
  of_decision : (from to slot : ℕ) (c : Command)
      → i ≡ input.Message (record { from = from; to = to; message = Decided slot c })
      → HearsOfDecided old from slot c new said → Hearing old i new said
  of_text : HearsText old i new said → Hearing old i new said
  of_nothing : LearnsNothing old new said → Hearing old i new said

-- for which role a message is
role_is : (e f : Envelope) (role : Role) → input.Message e ≡ input.Message f → role_of f.message ≡ role → role_of e.message ≡ role
role_is e f role same is = (let here : e ≡ f = cc in ap (λ (g : Envelope). role_of g.message) here ∙ is)

module _ (old new : ReplicaState) (said : Response) where
  -- it says no more than what it sends, and comes to a replica of the same learner and machine
  so : (then : ReplicaState) (sends : List Envelope) → new ≡ then → said ≡ sent sends → then.learner ≡ old.learner
      → then.machine ≡ old.machine → LearnsNothing old new said
  so then sends leaves says learner machine = record {
    learner = ap (λ (m : ReplicaState). m.learner) leaves ∙ learner;
    machine = ap (λ (m : ReplicaState). m.machine) leaves ∙ machine;
    restored = ap (λ (r : Response). r.restored) says;
    learnt = ap (λ (r : Response). r.learnt) says;
    replies = ap (λ (r : Response). r.replies) says;
  }

  -- ---- a part has come
  -- of which checkpoint it is, where it counts
  pub of_the_target : (p : Piece) (f : Fetching) → PartCounts old p f → (position old < p.position) × (f.target ≡ p.position)
  of_the_target p f counts =
      let g : Fetching = counts.before in
      let both : wants (Some g) (position old) p ≡ true =
      subst (λ (o : Option Fetching). wants o (position old) p ≡ true) counts.fetching_ counts.wanted in
      let parts = and_parts (nat_lt (position old) g.target) (is_wanted g p) both in
      let at : p.position ≡ g.target =
      eqb-true p.position g.target
      (and_parts (p.position == g.target) (is_as_long g p && not (is_held g p.number)) parts.1).0 in (
        subst (λ (n : ℕ). position old < n) (sym at) (ltb-true (position old) g.target parts.0),
        ap (λ (h : Fetching). h.target) counts.is ∙ sym at,
      )

  text_heard : (i : Input) → MakesText old i new said → HearsText old i new said
  text_heard i h =
      let at = of_the_target h.p h.fetched h.counts_ in
      let text : joined h.fetched.held ≡ fetched_text old i =
      ap (λ (f : Fetching). joined f.held) h.counts_.is
      ∙ sym (ap (λ (o : Option Fetching). text_with o (SnapPart h.p)) h.counts_.fetching_)
      ∙ sym (ap (fetched_text old) h.is) in
      record {
        from = h.from;
        to = h.to;
        part = h.p;
        is = h.is;
        ahead = at.0;
        machine = h.machine;
        text = subst (λ (t : List ℕ). IsMachineOfText t h.machine) text h.text;
        whole = subst (λ (n : ℕ). Restores old h.from n h.machine new said) at.1 h.restored;
      }

  says_heard : (i : Input) → Says old i new said → Hearing old i new said
  says_heard i (hears_vote from to v comes is k) = of_vote from to v comes k
  says_heard i (hears_decided from to slot c comes is sender k) = of_decision from to slot c comes k
  says_heard i (makes_text in' is h) = of_text (text_heard i h)
  says_heard i (tells in' f sends is fetches plain leaves says) = of_nothing (so _ _ leaves says refl refl)
  says_heard i (reports in' to slot c is there learnt leaves says) = of_nothing (so _ _ leaves says refl refl)
  says_heard i (answers in' to a answer is there h leaves says) = of_nothing (so _ _ leaves says refl refl)
  says_heard i (writes a is h leaves says) = of_nothing (so _ _ leaves says refl refl)
  says_heard i (proposes in' submits round p asks is h plain leaves says) = of_nothing (so _ _ leaves says refl refl)

  pub heard_of : (i : Input) → Takes old i new said → Hearing old i new said
  heard_of i k = says_heard i (says_of old new said i k)

  -- a message for another role is nothing to the learner, unless it brings a part of a text
  other_role : (e : Envelope) → role_of e.message ≢ Learner → role_of e.message ≢ Fetcher → Hearing old (input.Message e) new said
      → LearnsNothing old new said
  other_role e other apart (of_vote from to v is k) = absurd (other (role_is e _ Learner is refl))
  other_role e other apart (of_decision from to slot c is k) = absurd (other (role_is e _ Learner is refl))
  other_role e other apart (of_text h) = absurd (apart (role_is e _ Fetcher h.is refl))
  other_role e other apart (of_nothing none) = none

  pub learns_nothing : (e : Envelope) → role_of e.message ≢ Learner → role_of e.message ≢ Fetcher → Takes old (input.Message e) new said
      → LearnsNothing old new said
  learns_nothing e other apart k = other_role e other apart (heard_of (input.Message e) k)

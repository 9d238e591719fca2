-- What the sends of a node are to the protocol.
use Rattle.std.proofs.Common.{◌≡◌, ℕ, zero, suc, List, [], ◌∷◌, ◌++◌, map, filter, not, Bool, true, false, cond}
use Rattle.std.proofs.Common.{refl, sym, ap, ◌∙◌, subst}
use Rattle.std.specs.Prelude.{⊤}
use Rattle.std.proofs.lemmas.List.{map-append}
use Rattle.synod.specs.Messages as synod
use Rattle.synod.specs.Messages.{Frame, to_first}
use Rattle.synod.specs.Acts as act
use Rattle.synod.specs.Acts.{Membership, Local, Input, Does}
use Rattle.synod.proofs.Doing.{sending, does_nothing, does_one, does_then}
use Rattle.sessions.specs.declared.command.Command.{Command}
use Rattle.acceptor.specs.declared.answer.Answer.{Answer}
use Rattle.acceptor.specs.declared.answer.Answer.TheVariants as answer
use Rattle.acceptor.specs.Protocol.{answer_frames}
use Rattle.proposer.specs.declared.sends.Outgoing.{Outgoing}
use Rattle.proposer.specs.declared.sends.Recipients.{Recipients}
use Rattle.proposer.specs.declared.sends.Recipients.TheVariants.{All, Others}
use Rattle.proposer.specs.Protocol.{frames_to, frames_of, frames_of_all}
use Rattle.proposer.proofs.AllowedTick.{sending_nothing, sending_both}
use Rattle.wire.specs.NodeSets.{has_node, no_nodes, with_node}
use Rattle.wire.specs.declared.frames.envelope.Envelope.{Envelope}
use Rattle.wire.specs.declared.frames.message.Message.{Message}
use Rattle.wire.specs.declared.frames.message.Message.TheVariants.{Accepted}
use Rattle.node_model.specs.Protocol.{message_of, frame_of}
use Rattle.node_model.specs.Replicas.{ReplicaState}
use Rattle.node_model.specs.Sending.{to_one, to_all, to_others, to_recipients, envelopes_of, envelopes, answer_sends}
use Rattle.node_model.proofs.Saying.{PlainSends}
use Rattle.node_model.proofs.Saying.PlainSends.{to_nobody, to_node, to_the_rest, brings_part}

-- ---- which frames they are
-- a message to all nodes
frames_to_all : (from nodes : ℕ) (m : Message) → map frame_of (to_all from nodes m) ≡ to_first nodes from (message_of m)
frames_to_all from zero m = refl
frames_to_all from (suc n) m =
    map-append frame_of (to_all from n m) (to_one from n m)
    ∙ ap (λ l. l ++ map frame_of (to_one from n m)) (frames_to_all from n m)

-- the frames of those envelopes alone that go to other nodes
kept_frames : (b : Bool) (e : Envelope) (es : List Envelope)
    → map frame_of (cond b (e ∷ es) es) ≡ cond b (frame_of e ∷ map frame_of es) (map frame_of es)
kept_frames true e es = refl
kept_frames false e es = refl

frames_to_others : (set : List Bool) (es : List Envelope)
    → map frame_of (filter (λ e. not (has_node set e.to)) es) ≡ filter (λ f. not (has_node set f.receiver)) (map frame_of es)
frames_to_others set [] = refl
frames_to_others set (e ∷ es) =
    let others : List Envelope = filter (λ e. not (has_node set e.to)) es in
    kept_frames (not (has_node set e.to)) e others
    ∙ ap (λ l. cond (not (has_node set e.to)) (frame_of e ∷ l) l) (frames_to_others set es)

recipients_frames : (i nodes : ℕ) (to : Recipients) (es : List Envelope)
    → map frame_of (to_recipients to es) ≡ frames_to i nodes to (map frame_of es)
recipients_frames i nodes All es = refl
recipients_frames i nodes (Others set) es = frames_to_others set es

-- those of what a proposer sends
pub outgoing_frames : (i nodes : ℕ) (o : Outgoing) → map frame_of (envelopes_of i nodes o) ≡ frames_of i nodes o
outgoing_frames i nodes o =
    recipients_frames i nodes o.to (to_all i nodes o.message)
    ∙ ap (λ l. frames_to i nodes o.to l) (frames_to_all i nodes o.message)

pub proposer_frames : (i nodes : ℕ) (os : List Outgoing) → map frame_of (envelopes i nodes os) ≡ frames_of_all i nodes os
proposer_frames i nodes [] = refl
proposer_frames i nodes (o ∷ os) =
    map-append frame_of (envelopes_of i nodes o) (envelopes i nodes os)
    ∙ ap (λ l. l ++ map frame_of (envelopes i nodes os)) (outgoing_frames i nodes o)
    ∙ ap (λ l. frames_of i nodes o ++ l) (proposer_frames i nodes os)

-- those of an acceptor's answer
pub answered_frames : (i nodes to : ℕ) (a : Answer) → map frame_of (answer_sends i nodes to a) ≡ answer_frames i nodes to a
answered_frames i nodes to (answer.Promise p) = refl
answered_frames i nodes to (answer.Accepted v) = frames_to_all i nodes (Accepted v)
answered_frames i nodes to (answer.Nack n) = refl
answered_frames i nodes to (answer.Behind floor) = refl

-- ---- questions, and what answers them
-- the envelope is from the node, and safety says nothing of its message
pub record IsPlainFrom (i : ℕ) (e : Envelope) : Type 0 where
  pub sender : e.from ≡ i
  pub plain : message_of e.message ≡ synod.Plain

-- each envelope is
abbrev pub ArePlainFrom : ℕ → List Envelope → Type 0
ArePlainFrom i [] = ⊤
ArePlainFrom i (e ∷ es) = IsPlainFrom i e × ArePlainFrom i es

both_plain : (i : ℕ) (es gs : List Envelope) → ArePlainFrom i es → ArePlainFrom i gs → ArePlainFrom i (es ++ gs)
both_plain i [] gs p q = q
both_plain i (e ∷ es) gs p q = (p.0, both_plain i es gs p.1 q)

one_plain : (i to : ℕ) (m : Message) → message_of m ≡ synod.Plain → ArePlainFrom i (to_one i to m)
one_plain i to m plain = (record { sender = refl; plain = plain }, tt)

all_plain : (i nodes : ℕ) (m : Message) → message_of m ≡ synod.Plain → ArePlainFrom i (to_all i nodes m)
all_plain i zero m plain = tt
all_plain i (suc n) m plain = both_plain i (to_all i n m) (to_one i n m) (all_plain i n m plain) (one_plain i n m plain)

kept_plain : (i : ℕ) (b : Bool) (e : Envelope) (es : List Envelope) → IsPlainFrom i e → ArePlainFrom i es
    → ArePlainFrom i (cond b (e ∷ es) es)
kept_plain i true e es p q = (p, q)
kept_plain i false e es p q = q

some_plain : (i : ℕ) (test : Envelope → Bool) (es : List Envelope) → ArePlainFrom i es → ArePlainFrom i (filter test es)
some_plain i test [] p = tt
some_plain i test (e ∷ es) p = kept_plain i (test e) e (filter test es) p.0 (some_plain i test es p.1)

others_plain : (i nodes : ℕ) (m : Message) → message_of m ≡ synod.Plain → ArePlainFrom i (to_others i nodes m)
others_plain i nodes m plain =
    some_plain i (λ e. not (has_node (with_node no_nodes i) e.to)) (to_all i nodes m) (all_plain i nodes m plain)

pub are_plain : (old : ReplicaState) (es : List Envelope) → PlainSends old es → ArePlainFrom old.id es
are_plain old _ to_nobody = tt
are_plain old _ (to_node to m there is) = one_plain old.id to m is.plain
are_plain old _ (to_the_rest m is) = others_plain old.id old.nodes m is.plain
are_plain old _ (brings_part to p there is) = one_plain old.id to _ refl

-- ---- what may be sent
frame_is_plain : (i : ℕ) (e : Envelope) → IsPlainFrom i e → record { sender = i; receiver = e.to; message = synod.Plain } ≡ frame_of e
frame_is_plain i e p =
    ap (λ (m : synod.Message Command). record { sender = i; receiver = e.to; message = m }) (sym p.plain)
    ∙ ap (λ (a : ℕ). record { sender = a; receiver = e.to; message = message_of e.message }) (sym p.sender)

module _ (f : Membership Command) (i : ℕ) (input : Input Command) where
  pub says_sends : (x : Local Command) (es : List Envelope) → ArePlainFrom i es → Does f i input x (sending x (map frame_of es))
  says_sends x [] p = subst (Does f i input x) (sym (sending_nothing x)) (does_nothing f i input x)
  says_sends x (e ∷ es) p =
      let one : Does f i input x (sending x (frame_of e ∷ [])) =
      subst (λ (g : Frame Command). Does f i input x (sending x (g ∷ []))) (frame_is_plain i e p.0)
      (does_one f i input x (act.Says e.to) tt) in
      subst (Does f i input x) (sending_both x (frame_of e ∷ []) (map frame_of es))
      (does_then f i input one (says_sends (sending x (frame_of e ∷ [])) es p.1))

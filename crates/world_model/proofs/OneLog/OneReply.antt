-- Two replies at one position are one.
use Rattle.std.proofs.Common.{◌≡◌, ℕ, ◌+◌, List, Contains, sym, subst, ◌∙◌, arith}
use Rattle.std.proofs.Math.Logic.{∥∥₁_elim}
use Rattle.std.specs.Coded.{Coded-set, coded_ℕ}
use Rattle.sessions.specs.Meaning.{RepliesAt}
use Rattle.sessions.specs.SessionReplies.{outcome_code}
use Rattle.sessions.proofs.Executions.{one_reply}
use Rattle.sessions.specs.declared.command.Command.{Command}
use Rattle.world_model.specs.declared.lists.Answered.{Answered}
use Rattle.world_model.specs.declared.lists.LearntEntry.{LearntEntry}
use Rattle.world_model.specs.declared.lists.Replied.{Replied}
use Rattle.world_model.specs.declared.lists.Submitted.{Submitted}
use Rattle.world_model.specs.Explaining.{Explains, ExplainsReply}
use Rattle.world_model.specs.Safety.{IsSafe}
use Rattle.world_model.specs.Worlds.{WorldState}

same_place : (m n : ℕ) → m + 1 ≡ n + 1 → m ≡ n
same_place m n e = omega (arith, e)

one_code : (l : List Command) (submitted : List Submitted) (learnt : List LearntEntry) (replies : List Replied) (answers : List Answered)
    → Explains l submitted learnt replies answers → (a b : Replied) → Contains replies a → Contains replies b
    → a.position ≡ b.position → outcome_code a.reply ≡ outcome_code b.reply
one_code l submitted learnt replies answers explains a b ca cb position =
    let of_a : ExplainsReply l a = explains.replied a ca in
    let of_b : ExplainsReply l b = explains.replied b cb in
    let place : of_b.place ≡ of_a.place = same_place of_b.place of_a.place (sym of_b.below ∙ sym position ∙ of_a.below) in
    one_reply l of_a.place of_a.request of_b.request (outcome_code a.reply) (outcome_code b.reply) of_a.replies
    (subst (λ n. RepliesAt l n of_b.request (outcome_code b.reply)) place of_b.replies)

pub replies_one : {S : Type 0} (w : WorldState S) → ∥ IsSafe w ∥₁ → (a b : Replied) → Contains w.replies a → Contains w.replies b
    → a.position ≡ b.position → outcome_code a.reply ≡ outcome_code b.reply
replies_one w safe a b ca cb position =
    ∥∥₁_elim safe (Coded-set coded_ℕ (outcome_code a.reply) (outcome_code b.reply))
    (λ s. one_code s.explained.log w.submitted w.learnt w.replies w.answers s.explained.explains a b ca cb position)

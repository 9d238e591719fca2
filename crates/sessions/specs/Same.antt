-- When two requests, or two commands, are the same in every part.
use Rattle.std.specs.Prelude.{◌≡◌, ◌&&◌, Bool, true, false, nat_eq, refl}
use Rattle.std.specs.Bool.{Decides}
use Rattle.std.specs.Cmp.{IsEquivalence, decided, unsigned_Decides}
use Rattle.std.proofs.Common.{ap}
use Rattle.std.proofs.lemmas.Bool.Decides.{Decides-and}
use Rattle.store.specs.Same.{same_op, same_op_Decides}
use Rattle.sessions.specs.declared.submission.Submission.{Submission}
use Rattle.sessions.specs.declared.command.Command.{Command}
use Rattle.sessions.specs.declared.command.Command.TheVariants.{NoOp, Request}

abbrev pub same_submission : Submission → Submission → Bool
same_submission a b = nat_eq a.client b.client && (nat_eq a.number b.number && same_op a.op b.op)

abbrev pub same_command : Command → Command → Bool
same_command NoOp NoOp = true
same_command (Request a) (Request b) = same_submission a b
same_command _ _ = false

-- ---- these tests tell what is equal
same_submission_parts : (a b : Submission) → (a.client ≡ b.client) × ((a.number ≡ b.number) × (a.op ≡ b.op)) → a ≡ b
same_submission_parts a b h = λ i. record { client = h.0 i; number = h.1.0 i; op = h.1.1 i }

pub same_submission_Decides : (a b : Submission) → Decides (same_submission a b) (a ≡ b)
same_submission_Decides a b =
    let rest = Decides-and _ _ (unsigned_Decides a.number b.number) (same_op_Decides a.op b.op) in
    let parts = Decides-and _ _ (unsigned_Decides a.client b.client) rest in
    let of_client = λ (e : a ≡ b). ap (λ (r : Submission). r.client) e in
    let of_number = λ (e : a ≡ b). ap (λ (r : Submission). r.number) e in
    let of_op = λ (e : a ≡ b). ap (λ (r : Submission). r.op) e in
    (λ e. same_submission_parts a b (parts.0 e), λ e. parts.1 (of_client e, (of_number e, of_op e)))

pub same_submission_equiv : IsEquivalence same_submission
same_submission_equiv = decided same_submission same_submission_Decides

pub same_command_Decides : (a b : Command) → Decides (same_command a b) (a ≡ b)
same_command_Decides NoOp NoOp = (λ _. refl, λ _. refl)
same_command_Decides (Request a) (Request b) =
    let parts = same_submission_Decides a b in
    (λ e. cc (parts.0 e), λ e. parts.1 (cc))
same_command_Decides NoOp (Request b) = (λ e. absurd (cc), λ e. absurd (cc))
same_command_Decides (Request a) NoOp = (λ e. absurd (cc), λ e. absurd (cc))

pub same_command_equiv : IsEquivalence same_command
same_command_equiv = decided same_command same_command_Decides

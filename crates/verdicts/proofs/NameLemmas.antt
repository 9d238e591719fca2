-- Commands by name.
use Rattle.std.proofs.Common.{◌≡◌, ◌≢◌, ℕ, List, IsTrue, false, true, is_some, Option, None, Some, refl, sym, ap, subst}
use Rattle.sessions.specs.declared.submission.Submission.{Submission}
use Rattle.sessions.specs.declared.command.Command.{Command}
use Rattle.sessions.specs.declared.command.Command.TheVariants as command
use Rattle.verdicts.specs.Explaining.{IsAmong, name_of}
use Rattle.verdicts.specs.RequestIndex.{IsFound, IsOccurrence}
use Rattle.verdicts.specs.Placement.{IsOnly, IsSubmitted}
use Rattle.verdicts.specs.declared.request_index.Occurrence.{Occurrence}
use Rattle.verdicts.specs.declared.lines.Name.TheVariants.{NoOp, Request}
use Rattle.verdicts.proofs.IndexLemmas.{contains_from_get}

pub same_client : (a b c d : ℕ) → Request a b ≡ Request c d → a ≡ c
same_client a b c d e = cc

pub same_number : (a b c d : ℕ) → Request a b ≡ Request c d → b ≡ d
same_number a b c d e = cc

pub none_named : (requests : List Submission) (client number : ℕ) → IsFound requests client number None
    → (d : Command) → IsAmong requests d → name_of d ≢ Request client number
none_named requests client number none command.NoOp among e = cc
none_named requests client number none (command.Request r) among e = none r among (record {
  of_client = same_client r.client r.number client number e;
  of_number = same_number r.client r.number client number e;
})

pub same_name : (a b c d : ℕ) → a ≡ c → b ≡ d → Request a b ≡ Request c d
same_name a b c d e f = cc

module _ (requests : List Submission) (client number : ℕ) (o : Occurrence) (occ : IsOccurrence requests client number o)
    (clear : o.is_ambiguous ≡ false) where
  no_other : (d : Command) → IsAmong requests d → name_of d ≡ Request client number → d ≡ command.Request occ.first
  no_other command.NoOp among e = absurd (let h : NoOp ≡ Request client number = e in cc)
  no_other (command.Request r) among e =
      ap (λ (x : Submission). command.Request x) (occ.only clear r among (record {
        of_client = same_client r.client r.number client number e;
        of_number = same_number r.client r.number client number e;
      }))

  first_only : IsOnly requests (Request client number) (command.Request occ.first)
  first_only = record {
    among = contains_from_get requests o.first occ.first occ.there;
    named = same_name occ.first.client occ.first.number client number occ.is_of.of_client occ.is_of.of_number;
    only = no_other;
  }

  pub one_named : (r : Submission) → r ≡ occ.first → IsOnly requests (Request client number) (command.Request r)
  one_named r same = subst (λ (x : Submission). IsOnly requests (Request client number) (command.Request x)) (sym same) first_only

no_op_alone : (requests : List Submission) (d : Command) → IsAmong requests d → name_of d ≡ NoOp → d ≡ command.NoOp
no_op_alone requests command.NoOp among e = refl
no_op_alone requests (command.Request r) among e = absurd (let h : Request r.client r.number ≡ NoOp = e in cc)

pub no_op_named : (requests : List Submission) → IsOnly requests NoOp command.NoOp
no_op_named requests = record { among = tt; named = refl; only = no_op_alone requests }

-- a request is submitted exactly if it is found
pub submitted_found : (requests : List Submission) (client number : ℕ) (o : Option Occurrence) → IsFound requests client number o
    → (IsTrue (is_some o) → IsSubmitted requests (Request client number))
    × (IsSubmitted requests (Request client number) → IsTrue (is_some o))
submitted_found requests client number None f = (
  λ t. absurd (let h : false ≡ true = t in cc),
  λ s. absurd (none_named requests client number f s.command s.among s.named),
)
submitted_found requests client number (Some o) f = (
  λ t. record {
    command = command.Request f.first;
    among = contains_from_get requests o.first f.first f.there;
    named = same_name f.first.client f.first.number client number f.is_of.of_client f.is_of.of_number;
  },
  λ s. refl,
)

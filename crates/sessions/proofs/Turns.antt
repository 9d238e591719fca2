-- Whose turn it is: the request's whose number is one more than its client's last.
use Rattle.std.proofs.Common.{◌≡◌, ℕ, zero, suc, ◌+◌, ◌-◌, ◌<◌, ◌≤◌, ◌↔◌, ◌⊎◌, inl, inr, List, length, true, Option, Some, None, refl, sym}
use Rattle.std.proofs.Common.{ap, ◌∙◌, subst, arith, eqb-true}
use Rattle.std.proofs.lemmas.Bool.{cases_lt}
use Rattle.std.proofs.lemmas.Bool.Decides.{nat_tests}
use Rattle.sessions.specs.declared.submission.Submission.{Submission}
use Rattle.sessions.specs.Machines.{is_next}
use Rattle.sessions.specs.Meaning.{HasCounted, IsNext, IsRequestAt, Execution}
use Rattle.sessions.specs.Standing.{IsKeptOf}
use Rattle.sessions.specs.declared.command.Command.{Command}
use Rattle.sessions.specs.declared.command.Command.TheVariants.{Request}
use Rattle.sessions.specs.declared.session.Session.{Session}
use Rattle.sessions.proofs.Longer.{IsTurn}

-- ---- the numbers of a client count one after the other
module _ (l : List Command) (e : Execution l) (client : ℕ) where
  abbrev Counted : ℕ → Type 0
  Counted number = HasCounted l e.counts (length l) client number

  sooner : (n number : ℕ) → n ≤ length l → HasCounted l e.counts n client number → Counted number
  sooner n number h c = record {
    place = c.place;
    earlier = let below : c.place < n = c.earlier in omega (arith, below, h);
    counted = c.counted;
    request = c.request;
    there = c.there;
    of_client = c.of_client;
    of_number = c.of_number;
  }

  -- of a number that has counted, the one before has counted, or it is the first
  one_before : (number : ℕ) → Counted number → (number ≡ 1) ⊎ Counted (number - 1)
  one_before number c =
      let next : IsNext l e.counts c.place = (e.lawful c.place).0 c.counted in
      let same : next.request ≡ c.request = the_request next.request c.request next.there c.there in
      let of_number : next.request.number ≡ number = ap (λ (r : Submission). r.number) same ∙ c.of_number in
      let of_client : next.request.client ≡ client = ap (λ (r : Submission). r.client) same ∙ c.of_client in
      elim next.in_turn [
        | inl first ↦ inl (sym of_number ∙ first)
        | inr follows ↦ inr (sooner c.place (number - 1) (omega (arith, c.earlier))
            (subst (λ n. HasCounted l e.counts c.place client (n - 1)) of_number
            (subst (λ k. HasCounted l e.counts c.place k (next.request.number - 1)) of_client follows)))
      ]
    where
      the_request : (q r : Submission) → IsRequestAt l c.place q → IsRequestAt l c.place r → q ≡ r
      the_request q r f g = let both : Some (Request q) ≡ Some (Request r) = sym f ∙ g in cc

  -- and so has each lesser number
  each_before : (gap number : ℕ) → 1 ≤ number → Counted (number + gap) → Counted number
  each_before zero number h c = subst Counted (omega arith) c
  each_before (suc gap) number h c =
      elim (one_before (number + suc gap) c) [
        | inl first ↦ absurd (omega (arith, first, h))
        | inr before ↦ each_before gap number h (subst Counted (omega arith) before)
      ]

  pub each_lesser : (number last : ℕ) → 1 ≤ number → number ≤ last → Counted last → Counted number
  each_lesser number last h k c =
      each_before (last - number) number h (subst Counted (omega (arith, k)) c)

-- ---- whose turn it is
module _ (l : List Command) (e : Execution l) (r : Submission) where
  pub the_one : (q : Submission) → Request r ≡ Request q → q ≡ r
  the_one q h = cc

  pub turn_of : (o : Option Session) → IsKeptOf e r.client o → 1 ≤ r.number →
      (is_next o r.number ≡ true) ↔ IsTurn e (Request r)
  turn_of None none from_one = (forth, back)
    where
      forth : is_next None r.number ≡ true → IsTurn e (Request r)
      forth h = record {
        request = r;
        is = refl;
        once = none r.number;
        in_turn = inl (eqb-true r.number 1 h);
      }

      back : IsTurn e (Request r) → is_next None r.number ≡ true
      back t =
          let same : t.request ≡ r = the_one t.request t.is in
          elim t.in_turn [
            | inl first ↦
                let one : r.number ≡ 1 = sym (ap (λ (q : Submission). q.number) same) ∙ first in grind (arith, nat_tests, one)
            | inr follows ↦
                absurd (none (r.number - 1)
                (subst (λ (q : Submission). HasCounted l e.counts (length l) q.client (q.number - 1)) same follows))
          ]
  turn_of (Some s) kept from_one = (forth, back)
    where
      forth : is_next (Some s) r.number ≡ true → IsTurn e (Request r)
      forth h =
          let next : r.number ≡ s.number + 1 = eqb-true r.number (s.number + 1) h in
          let before : s.number ≡ r.number - 1 = omega (arith, next) in
          record {
            request = r;
            is = refl;
            once = λ c. absurd (let h : r.number ≤ s.number = kept.last r.number c in omega (arith, next, h));
            in_turn = inr (subst (λ n. HasCounted l e.counts (length l) r.client n) before kept.counted);
          }

      back : IsTurn e (Request r) → is_next (Some s) r.number ≡ true
      back t =
          let same : t.request ≡ r = the_one t.request t.is in
          let once : HasCounted l e.counts (length l) r.client r.number → ⊥ =
          subst (λ (q : Submission). HasCounted l e.counts (length l) q.client q.number → ⊥) same t.once in
          let above : s.number < r.number = elim (cases_lt s.number r.number) [
            | inl below ↦ below
            | inr above ↦ absurd (once (each_lesser l e r.client r.number s.number from_one above kept.counted))
          ] in
          let next : r.number ≡ s.number + 1 = elim t.in_turn [
            | inl first ↦
                let one : r.number ≡ 1 = sym (ap (λ (q : Submission). q.number) same) ∙ first in omega (arith, one, above)
            | inr follows ↦
                let h : r.number - 1 ≤ s.number =
                kept.last (r.number - 1)
                (subst (λ (q : Submission). HasCounted l e.counts (length l) q.client (q.number - 1)) same follows) in
                omega (arith, h, above)
          ] in
          grind (arith, nat_tests, next)

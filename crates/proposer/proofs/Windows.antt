-- A window that is filled slot by slot.
use Rattle.std.proofs.Common.{◌≡◌, ◌≢◌, ℕ, zero, suc, ◌+◌, ◌++◌, ◌∷◌, [], ◌-◌, ◌<◌, List, Bool, true, false, Option, Some, None, IfSome}
use Rattle.std.proofs.Common.{IsSome, IsSomeAnd, is_some, ◌||◌, if◌then◌else◌, nat_le, length, refl, sym, ap, ◌∙◌, subst, arith}
use Rattle.std.specs.List.{list_any}
use Rattle.sessions.specs.declared.submission.Submission.{Submission}
use Rattle.sessions.specs.declared.command.Command.{Command}
use Rattle.proposer.specs.declared.window.Proposal.{Proposal}
use Rattle.proposer.specs.declared.window.TheConstants.{MOST_OPEN}
use Rattle.proposer.specs.Campaigning.{Campaigning, Filling, stepped, IsStep, going_on, filled, is_at, proposing, choice}

goes_case : (o : Option Filling) (f g : Filling) (rest : Filling → Filling) → IsStep o true f g → rest g ≡ going_on o f rest
goes_case None f g rest h = absurd (cc (h.0))
goes_case (Some x) f g rest h = ap rest h.1

stops_case : (o : Option Filling) (f g : Filling) (rest : Filling → Filling) → IsStep o false f g → g ≡ going_on o f rest
stops_case None f g rest h = h.1
stops_case (Some x) f g rest h = absurd (cc (h.0))

-- what is sent is never taken back
keeps_case : (o : Option Filling) (f : Filling) (rest : Filling → Filling) → f.sent ≢ [] → IfSome o (λ g. g.sent ≢ [])
    → ((g : Filling) → g.sent ≢ [] → (rest g).sent ≢ []) → (going_on o f rest).sent ≢ []
keeps_case None f rest some there keeps = some
keeps_case (Some g) f rest some there keeps = keeps g there

-- a step that sends is gone on from
opens_case : (o : Option Filling) (f : Filling) (rest : Filling → Filling) → IsSomeAnd o (λ g. g.sent ≢ [])
    → ((g : Filling) → g.sent ≢ [] → (rest g).sent ≢ []) → (going_on o f rest).sent ≢ []
opens_case None f rest there keeps = absurd there
opens_case (Some g) f rest there keeps = keeps g there

-- a list with one more is not empty
one_more_there : {A : Type 0} (xs : List A) (x : A) → xs ++ x ∷ [] ≢ []
one_more_there [] x = λ e. absurd (cc e)
one_more_there (y ∷ ys) x = λ e. absurd (cc e)

-- to say twice that a proposal is open says no more than once
absorbs : (a h : Bool) → ((h || a) || h) ≡ (a || h)
absorbs true true = refl
absorbs true false = refl
absorbs false true = refl
absorbs false false = refl

module _ (k : Campaigning) (waiting : List Submission) (learnt_to : ℕ) (learnt : ℕ → Option Command) where
  -- whether the slot's proposal is open may be told along with whether the slot is learnt
  told_along : (a : Bool) (number : ℕ) (f : Filling)
      → stepped k waiting learnt_to (list_any (is_at number) f.proposals || a) number f ≡ stepped k waiting learnt_to a number f
  told_along a number f =
      ap (λ (x : Bool). if x then Some f
      else if nat_le MOST_OPEN (length f.proposals) then None
      else proposing k.ballot number f (choice k waiting learnt_to number f.proposals))
      (absorbs a (list_any (is_at number) f.proposals))

  -- what a step of the campaign as it is by now comes to, it comes to as the campaign was
  same_stepped : (now : Campaigning) (proposals : List Proposal) (slot number : ℕ) (l : Bool) (f : Filling)
      → now ≡ record k { proposals = proposals } → slot ≡ number → l ≡ (list_any (is_at number) f.proposals || is_some (learnt number))
      → stepped now waiting learnt_to l slot f ≡ stepped k waiting learnt_to (is_some (learnt number)) number f
  same_stepped now proposals slot number l f same at known =
      ap (λ (n : Campaigning). stepped n waiting learnt_to l slot f) same
      ∙ ap (λ (s : ℕ). stepped k waiting learnt_to l s f) at
      ∙ ap (λ (x : Bool). stepped k waiting learnt_to x number f) known
      ∙ told_along (is_some (learnt number)) number f

  -- a step of the campaign as it is by now is a step of the campaign as it was
  same_step : (now : Campaigning) (proposals : List Proposal) (slot number : ℕ) (l b c : Bool) (f g : Filling)
      → now ≡ record k { proposals = proposals } → slot ≡ number → l ≡ (list_any (is_at number) f.proposals || is_some (learnt number))
      → b ≡ c
      → IsStep (stepped now waiting learnt_to l slot f) b f g
      → IsStep (stepped k waiting learnt_to (is_some (learnt number)) number f) c f g
  same_step now proposals slot number l b c f g same at known goes h =
      let was = subst (λ (o : Option Filling). IsStep o b f g) (same_stepped now proposals slot number l f same at known) h in
      subst (λ (x : Bool). IsStep (stepped k waiting learnt_to (is_some (learnt number)) number f) x f g) goes was

  one_more : (limit number : ℕ) (f : Filling) → number < limit
      → filled k waiting learnt_to learnt (limit - number) number f
      ≡ going_on (stepped k waiting learnt_to (is_some (learnt number)) number f) f
      (λ g. filled k waiting learnt_to learnt (limit - (number + 1)) (number + 1) g)
  one_more limit number f below =
      ap (λ (n : ℕ). filled k waiting learnt_to learnt n number f)
      (let e : limit - number ≡ suc (limit - (number + 1)) = omega arith in e)

  pub goes_on : (now : Campaigning) (proposals : List Proposal) (slot number limit : ℕ) (l b : Bool) (f g : Filling)
      → now ≡ record k { proposals = proposals } → slot ≡ number → l ≡ (list_any (is_at number) f.proposals || is_some (learnt number))
      → b ≡ true → number < limit
      → IsStep (stepped now waiting learnt_to l slot f) b f g
      → filled k waiting learnt_to learnt (limit - (number + 1)) (number + 1) g
      ≡ filled k waiting learnt_to learnt (limit - number) number f
  goes_on now proposals slot number limit l b f g same at known goes below h =
      goes_case _ f g _ (same_step now proposals slot number l b true f g same at known goes h) ∙ sym (one_more limit number f below)

  pub stops : (now : Campaigning) (proposals : List Proposal) (slot number limit : ℕ) (l b : Bool) (f g : Filling)
      → now ≡ record k { proposals = proposals } → slot ≡ number → l ≡ (list_any (is_at number) f.proposals || is_some (learnt number))
      → b ≡ false → number < limit
      → IsStep (stepped now waiting learnt_to l slot f) b f g
      → g ≡ filled k waiting learnt_to learnt (limit - number) number f
  stops now proposals slot number limit l b f g same at known goes below h =
      stops_case _ f g _ (same_step now proposals slot number l b false f g same at known goes h) ∙ sym (one_more limit number f below)

  -- a window whose places are all taken: a slot is passed over, or the filling stops
  passes : (settled : Bool) (number : ℕ) (f : Filling) (rest : Filling → Filling) → nat_le MOST_OPEN (length f.proposals) ≡ true
      → rest f ≡ f
      → going_on (if settled then Some f else if nat_le MOST_OPEN (length f.proposals) then None
      else proposing k.ballot number f (choice k waiting learnt_to number f.proposals)) f rest ≡ f
  passes true number f rest full same = same
  passes false number f rest full same = rw full refl

  -- such a window stays as it is
  pub full_stays : (n number : ℕ) (f : Filling) → nat_le MOST_OPEN (length f.proposals) ≡ true
      → filled k waiting learnt_to learnt n number f ≡ f
  full_stays zero number f full = refl
  full_stays (suc n) number f full =
      passes (is_some (learnt number) || list_any (is_at number) f.proposals) number f
      (λ g. filled k waiting learnt_to learnt n (number + 1) g) full (full_stays n (number + 1) f full)

  -- where something was sent before a step, something was sent after it
  sent_after : (settled full : Bool) (number : ℕ) (f : Filling) (c : Option Command) → f.sent ≢ []
      → IfSome (if settled then Some f else if full then None else proposing k.ballot number f c) (λ g. g.sent ≢ [])
  sent_after true full number f c some = some
  sent_after false true number f c some = tt
  sent_after false false number f None some = tt
  sent_after false false number f (Some c) some = one_more_there f.sent _

  -- and so it is to the end of the filling
  sent_stays : (n number : ℕ) (f : Filling) → f.sent ≢ [] → (filled k waiting learnt_to learnt n number f).sent ≢ []
  sent_stays zero number f some = some
  sent_stays (suc n) number f some =
      keeps_case _ f _ some
      (sent_after (is_some (learnt number) || list_any (is_at number) f.proposals) (nat_le MOST_OPEN (length f.proposals)) number f
      (choice k waiting learnt_to number f.proposals) some)
      (sent_stays n (number + 1))

  -- where a step opens a proposal, the filling sends something
  pub opens : (now : Campaigning) (proposals : List Proposal) (slot number limit : ℕ) (l : Bool) (f : Filling)
      → now ≡ record k { proposals = proposals } → slot ≡ number → l ≡ (list_any (is_at number) f.proposals || is_some (learnt number))
      → number < limit
      → IsSomeAnd (stepped now waiting learnt_to l slot f) (λ g. g.sent ≢ [])
      → (filled k waiting learnt_to learnt (limit - number) number f).sent ≢ []
  opens now proposals slot number limit l f same at known below h =
      let was = subst (λ (o : Option Filling). IsSomeAnd o (λ g. g.sent ≢ [])) (same_stepped now proposals slot number l f same at known) h
      in
      subst (λ (x : Filling). x.sent ≢ []) (sym (one_more limit number f below))
      (opens_case _ f _ was (sent_stays (limit - (number + 1)) (number + 1)))

-- a step for which there is a command sends it
some_sent : {A : Type 0} (xs : List A) (x : A) → (xs ++ x ∷ []) ≢ []
some_sent [] x e = absurd (cc e)
some_sent (y ∷ ys) x e = absurd (cc e)

sends_choice : (k : Campaigning) (slot : ℕ) (f : Filling) (o : Option Command) → IsSome o
    → IsSomeAnd (proposing k.ballot slot f o) (λ (g : Filling). g.sent ≢ [])
sends_choice k slot f None there = absurd (cc)
sends_choice k slot f (Some command) there = some_sent f.sent _

pub step_sends : (k : Campaigning) (waiting : List Submission) (learnt_to slot : ℕ) (learnt : Bool) (f : Filling)
    → (learnt || list_any (is_at slot) f.proposals) ≡ false → nat_le MOST_OPEN (length f.proposals) ≡ false
    → IsSome (choice k waiting learnt_to slot f.proposals)
    → IsSomeAnd (stepped k waiting learnt_to learnt slot f) (λ (g : Filling). g.sent ≢ [])
step_sends k waiting learnt_to slot learnt f unsettled room there =
    rw (unsettled, room) (sends_choice k slot f (choice k waiting learnt_to slot f.proposals) there)

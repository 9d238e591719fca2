-- What comes to a process from the nodes, its own among them, as moves.
use Rattle.std.proofs.Common.{◌≡◌, ◌≢◌, ℕ, List, [], ◌∷◌, ◌++◌, Bool, true, false, MatchBool, Option, Some, None, Ok, Err, refl, sym, ap, subst, ◌∙◌}
use Rattle.stable.specs.declared.stable.Stable.{Ghosts}
use Rattle.wire.specs.FrameReading.{frame_in}
use Rattle.node_model.specs.declared.fault.NodeFault.{NodeFault}
use Rattle.life.specs.Lives.{LifeState, TakesBack}
use Rattle.life.specs.declared.fault.LifeFault.{LifeFault}
use Rattle.life.specs.declared.fault.LifeFault.TheVariants.{Memory, Node}
use Rattle.serving.specs.Moves.{IsPacketTaken, Moves, Taking, TakesOwn}
use Rattle.serving.specs.Moves.Move.{finds_nothing, takes_own, takes_packet}
use Rattle.serving.specs.Packets.{IsMessageTaken, IsTakenOver}
use Rattle.serving.specs.Processes.{ProcessState}
use Rattle.serving.specs.Refusals.{IsRefusal, IsRefused}
use Rattle.serving.specs.Resting.{IsReading}
use Rattle.serving.specs.Serving.{Passes}
use Rattle.serving.specs.Tapes.{Arrived, Carried, NothingCame, polled}
use Rattle.serving.specs.Timings.{TimingState}
use Rattle.serving.specs.Turns.{handed_on}
use Rattle.serving.proofs.Moving.{moves_one, moves_same, moves_then, moves_to}
use Rattle.serving.proofs.Passing.{passes_as}

same_line : (a b : List ℕ) → handed_on a ≡ handed_on b → a ≡ b
same_line a b e = cc

module _ {S : Type 0} (storages : Ghosts S) where
  -- ---- its own frames
  -- the one that has waited longest, if any waits
  abbrev pub IsTakenBack : LifeState S → Bool → LifeState S → Type 0
  IsTakenBack old taken new = MatchBool taken (TakesOwn storages old new) ((old.own ≡ []) × (new ≡ old))

  pub taken_back : (old new : LifeState S) (taken : Bool) → TakesBack storages old (Ok taken) new → IsTakenBack old taken new
  taken_back old new true h = record { result = Ok h.0; takes = h.1; goes_on = λ fault is. absurd (cc) }
  taken_back old new false h = h

  pub refused_back : (old new : LifeState S) (fault : LifeFault) (refused : Option NodeFault) → TakesBack storages old (Err fault) new
      → IsRefusal (Err fault) (Ok refused) → TakesOwn storages old new
  refused_back old new (Node fault) (Some other) h refusal = record {
    result = Err fault;
    takes = h;
    goes_on = λ f is. let same : other ≡ f = cc in subst IsRefused same refusal.1;
  }
  refused_back old new (Node fault) None h refusal = absurd (cc)
  refused_back old new Memory (Some other) h refusal = absurd (cc)
  refused_back old new Memory None h refusal = absurd (cc)

  -- none is left
  pub none_own : (old new : LifeState S) (taken : Bool) → IsTakenBack old taken new → taken ≡ false → new.own ≡ []
  none_own old new true h is = absurd (cc)
  none_own old new false h is = ap (λ (l : LifeState S). l.own) h.1 ∙ h.0

  module _ (now : ℕ) where
    pub own_moves : (p q : ProcessState S) (taken : Bool) → IsTakenBack p.life taken q.life → q ≡ record p { life = q.life }
        → Moves storages now Taking p [] [] q
    own_moves p q true h same =
        let moved : ProcessState S = record p { life = q.life } in
        moves_to storages now p moved q [] [] (moves_one storages now p moved [] [] (takes_own p q.life h)) same
    own_moves p q false h same =
        moves_same storages now p q (same ∙ ap (λ (l : LifeState S). record p { life = l }) h.1)

    -- ---- packets
    packet_moves : (p q : ProcessState S) (bytes : List ℕ) → IsPacketTaken storages p.nodes now bytes p.life p.timing q.life q.timing
        → q ≡ record p { life = q.life; timing = q.timing } → Moves storages now Taking p (Arrived bytes ∷ []) [] q
    packet_moves p q bytes taken same =
        let moved : ProcessState S = record p { life = q.life; timing = q.timing } in
        moves_to storages now p moved q (Arrived bytes ∷ []) []
        (moves_one storages now p moved (Arrived bytes ∷ []) [] (takes_packet p bytes q.life q.timing taken)) same

    -- a request that is handed on
    pub request_moves : (p q : ProcessState S) (bytes line : List ℕ) → bytes ≡ handed_on line → q ≡ record p { life = q.life }
        → IsTakenOver storages line p.life q.life → Moves storages now Taking p (Arrived bytes ∷ []) [] q
    request_moves p q bytes line is same taken =
        let knows : q.timing ≡ p.timing = ap (λ (r : ProcessState S). r.timing) same in
        packet_moves p q bytes (record {
          request = λ other h. (
            subst (λ (l : List ℕ). IsTakenOver storages l p.life q.life) (same_line line other (sym is ∙ h)) taken,
            knows,
          );
          message = λ none. absurd (none line is);
        })
        (same ∙ ap (λ (t : TimingState). record p { life = q.life; timing = t }) (sym knows))

    -- a message, or nothing that is known
    pub message_moves : (p q : ProcessState S) (bytes : List ℕ) → ((line : List ℕ) → bytes ≢ handed_on line)
        → q ≡ record p { life = q.life; timing = q.timing }
        → IsMessageTaken storages now (frame_in p.nodes bytes) p.life p.timing q.life q.timing
        → Moves storages now Taking p (Arrived bytes ∷ []) [] q
    message_moves p q bytes other same taken =
        packet_moves p q bytes (record { request = λ line is. absurd (other line is); message = λ h. taken }) same

    -- ---- over the network
    module _ {N : Type 0} (carried : N → List Carried) (Carries : N → Type 0) where
      -- bytes came, and then the node took its own frames
      pub nodes_reads : (p q r : ProcessState S) (n m : N) (came : List Carried) (bytes : List ℕ) → came ≡ Arrived bytes ∷ []
          → (Carries m → carried m ≡ carried n ++ came) → (Carries m → Carries n) → Moves storages now Taking p (Arrived bytes ∷ []) [] q
          → Moves storages now Taking q [] [] r
          → Passes carried Carries (λ xs. Moves storages now Taking p xs [] r × IsReading polled xs true) n m
      nodes_reads p q r n m came bytes is tape told h own = record {
        passed = Arrived bytes ∷ [];
        are = (moves_then storages now p q r (Arrived bytes ∷ []) [] [] [] h own, (Arrived bytes, refl, refl));
        passes = passes_as carried Carries n m came (Arrived bytes ∷ []) tape told is;
      }

      pub nodes_reads_nothing : (p : ProcessState S) (n m : N) (came : List Carried) → came ≡ NothingCame ∷ []
          → (Carries m → carried m ≡ carried n ++ came) → (Carries m → Carries n)
          → Passes carried Carries (λ xs. Moves storages now Taking p xs [] p × IsReading polled xs false) n m
      nodes_reads_nothing p n m came is tape told = record {
        passed = NothingCame ∷ [];
        are = (moves_one storages now p p (NothingCame ∷ []) [] (finds_nothing p), (NothingCame, refl, refl));
        passes = passes_as carried Carries n m came (NothingCame ∷ []) tape told is;
      }

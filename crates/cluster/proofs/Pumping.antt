-- A pump: polls, passes, and how they end.
use Rattle.std.proofs.Common.{◌≡◌, ◌⊎◌, ℕ, zero, suc, ◌+◌, ◌-◌, ◌<◌, ◌≤◌, List, [], ◌∷◌, ◌++◌, length, map, Option, Some, None, MatchOption}
use Rattle.std.proofs.Common.{Result, Ok, Err, IfErr, refl, sym, ap, subst, ◌∙◌, inl, inr, add-one, arith}
use Rattle.std.proofs.lemmas.List.{drop_all}
use Rattle.std.proofs.lemmas.Option.{slice_get_within}
use Rattle.stable.specs.Script.{Script}
use Rattle.stable.specs.declared.stable.Stable.{Ghosts}
use Rattle.events.specs.declared.fault.WorldFault.{WorldFault}
use Rattle.events.specs.declared.fault.WorldFault.TheVariants as fault
use Rattle.world_model.specs.Worlds.{WorldState, DeliversFrame}
use Rattle.cluster.specs.Clusters.{HasPassed, Pumped, sending, sendings}
use Rattle.cluster.specs.Lowest.{IsLowestFrame, IsStranger}
use Rattle.cluster.specs.Passages.{Passage, Polled}
use Rattle.cluster.specs.Pumps.{Polls, PollsBelow, IsPass, Passes, PumpBreaksOff, BreaksPump, Pumps, OnlyDelivers}
use Rattle.cluster.specs.Pumps.{poll_passed, with_stranger, nothing_came, stranger_came, frame_came, no_poll, one_poll, no_pass}
use Rattle.cluster.specs.Pumps.{idle_pass, busy_pass, no_deliver, one_deliver}
use Rattle.cluster.specs.declared.cluster.TheConstants.{MOST_IDLE_PASSES, MOST_PUMPED}
use Rattle.cluster.specs.declared.transport.Transport.{Ghosts as Transports}
use Rattle.cluster.proofs.Clustering.{nothing_passes, then_passes}

-- ---- frames
-- where nothing was sent nothing is given to the transport
pub nothing_sent : {S : Type 0} (w : WorldState S) → sendings w w ≡ []
nothing_sent w = ap (λ fs. map sending fs) (drop_all (length w.frames) w.frames (omega arith))

-- equal worlds, and equal counts
pub same_pumped : {S : Type 0} (v w : WorldState S) (a b : ℕ) → v ≡ w → a ≡ b
    → ◌≡◌ {A = Pumped S} (record { world = v; strangers = a }) (record { world = w; strangers = b })
same_pumped {S} v w a b worlds counts =
    let first : ◌≡◌ {A = Pumped S} (record { world = v; strangers = a }) (record { world = w; strangers = a }) =
    ap (λ (x : WorldState S). record { world = x; strangers = a }) worlds in
    first ∙ ap (λ n. record { world = w; strangers = n }) counts

module _ {S T : Type 0} (storages : Ghosts (Script S)) (transport : Transports T) where
  -- ---- one poll
  no_sends : (w : WorldState S) (t u : T) (p : Passage) → HasPassed transport t (p ∷ []) u → HasPassed transport t (p ∷ sendings w w) u
  no_sends w t u p h = subst (λ (l : List Passage). HasPassed transport t (p ∷ l) u) (sym (nothing_sent w)) h

  pub polled_nothing : (old new : Pumped S) (t u : T) (node : ℕ) (datagram : Option (List ℕ)) → new ≡ old → datagram ≡ None
      → HasPassed transport t (Polled node datagram ∷ []) u
      → (d : Option (List ℕ)) × Polls storages old node d 0 new × HasPassed transport t (poll_passed storages node d old.world new.world) u
  polled_nothing old new t u node datagram same none h =
      subst (λ (p : Pumped S). (d : Option (List ℕ)) × Polls storages old node d 0 p
      × HasPassed transport t (poll_passed storages node d old.world p.world) u) (sym same) (
        None,
        nothing_came,
        no_sends old.world t u (Polled node None)
            (subst (λ (d : Option (List ℕ)). HasPassed transport t (Polled node d ∷ []) u) none h),
      )

  pub polled_stranger : (old new : Pumped S) (t u : T) (node : ℕ) (datagram : Option (List ℕ)) (bytes : List ℕ) (found : Option ℕ)
      → datagram ≡ Some bytes
      → MatchOption found (IsStranger old.world.frames node bytes) (IsLowestFrame old.world.frames node bytes) → found ≡ None
      → new ≡ with_stranger storages old
      → HasPassed transport t (Polled node datagram ∷ []) u
      → (d : Option (List ℕ)) × Polls storages old node d 0 new × HasPassed transport t (poll_passed storages node d old.world new.world) u
  polled_stranger old new t u node datagram bytes None some strange none same h =
      subst (λ (p : Pumped S). (d : Option (List ℕ)) × Polls storages old node d 0 p
      × HasPassed transport t (poll_passed storages node d old.world p.world) u) (sym same) (
        Some bytes,
        stranger_came bytes strange,
        no_sends old.world t u (Polled node (Some bytes))
            (subst (λ (d : Option (List ℕ)). HasPassed transport t (Polled node d ∷ []) u) some h),
      )
  polled_stranger old new t u node datagram bytes (Some k) some strange none same h = absurd (cc)

  pub polled_frame : (old new : Pumped S) (t between u : T) (node : ℕ) (datagram : Option (List ℕ)) (bytes : List ℕ)
      (found : Option ℕ) (k : ℕ)
      → datagram ≡ Some bytes
      → MatchOption found (IsStranger old.world.frames node bytes) (IsLowestFrame old.world.frames node bytes) → found ≡ Some k
      → DeliversFrame storages old.world k new.world → new.strangers ≡ old.strangers
      → HasPassed transport t (Polled node datagram ∷ []) between → HasPassed transport between (sendings old.world new.world) u
      → (d : Option (List ℕ)) × Polls storages old node d 1 new × HasPassed transport t (poll_passed storages node d old.world new.world) u
  polled_frame old new t between u node datagram bytes None k some lowest here delivers same one two = absurd (cc)
  polled_frame old new t between u node datagram bytes (Some j) k some lowest here delivers same one two =
      let is : j ≡ k = cc in
      let all : record old { world = new.world } ≡ new = ap (λ n. record { world = new.world; strangers = n }) (sym same) in (
        Some bytes,
        subst (λ (p : Pumped S). Polls storages old node (Some bytes) 1 p) all
            (frame_came bytes k new.world (subst (λ n. IsLowestFrame old.world.frames node bytes n) is lowest) delivers),
        then_passes transport t between u (Polled node (Some bytes) ∷ []) (sendings old.world new.world)
            (subst (λ (d : Option (List ℕ)). HasPassed transport t (Polled node d ∷ []) between) some one) two,
      )

  -- a frame that was found was sent
  pub was_sent : (frames : _) (node : ℕ) (bytes : List ℕ) (found : Option ℕ) (k : ℕ)
      → MatchOption found (IsStranger frames node bytes) (IsLowestFrame frames node bytes) → found ≡ Some k → length frames ≤ k → ⊥
  was_sent frames node bytes None k lowest here past = absurd (cc)
  was_sent frames node bytes (Some j) k lowest here past =
      let is : j ≡ k = cc in
      let less = slice_get_within frames j lowest.frame lowest.sent in
      omega (arith, less, past, is)

  -- ---- a pass
  pub none_polled : (old : Pumped S) (t : T)
      → (passed : List Passage) × PollsBelow storages old 0 passed 0 old × HasPassed transport t passed t
  none_polled old t = ([], no_poll, nothing_passes transport t)

  one_more : (old now new : Pumped S) (k made more : ℕ) (passed : List Passage) (datagram : Option (List ℕ))
      → PollsBelow storages old k passed made now → Polls storages now k datagram more new
      → PollsBelow storages old (k + 1) (passed ++ poll_passed storages k datagram now.world new.world) (made + more) new
  one_more old now new k made more passed datagram before polls =
      subst (λ n. PollsBelow storages old n (passed ++ poll_passed storages k datagram now.world new.world) (made + more) new)
      (sym (add-one k)) (one_poll k made more passed datagram now new before polls)

  pub one_polled : (old now new : Pumped S) (t between u : T) (k made more : ℕ)
      → ((passed : List Passage) × PollsBelow storages old k passed made now × HasPassed transport t passed between)
      → ((d : Option (List ℕ)) × Polls storages now k d more new
      × HasPassed transport between (poll_passed storages k d now.world new.world) u)
      → (passed : List Passage) × PollsBelow storages old (k + 1) passed (made + more) new × HasPassed transport t passed u
  one_polled old now new t between u k made more before poll = (
    before.0 ++ poll_passed storages k poll.0 now.world new.world,
    one_more old now new k made more before.0 poll.0 before.1 poll.1,
    then_passes transport t between u before.0 (poll_passed storages k poll.0 now.world new.world) before.2 poll.2,
  )

  pub hits_limit : (old now new : Pumped S) (t between u : T) (k made more left : ℕ) → k < length old.world.nodes → made < left → more ≤ 1
      → made + more ≡ left
      → ((passed : List Passage) × PollsBelow storages old k passed made now × HasPassed transport t passed between)
      → ((d : Option (List ℕ)) × Polls storages now k d more new
      × HasPassed transport between (poll_passed storages k d now.world new.world) u)
      → (passed : List Passage) × PumpBreaksOff storages left old passed fault.FlushLimit new × HasPassed transport t passed u
  hits_limit old now new t between u k made more left begun less few all before poll =
      let one : more ≡ 1 = omega (arith, less, few, all) in (
        before.0 ++ poll_passed storages k poll.0 now.world new.world,
        record {
          node = k;
          before = before.0;
          made = made;
          between = now;
          part = record { begun = begun; polls = before.1 };
          datagram = poll.0;
          last = subst (λ n. Polls storages now k poll.0 n new) one poll.1;
          all_made = omega (arith, all, one);
          passed_ = refl;
        },
        then_passes transport t between u before.0 (poll_passed storages k poll.0 now.world new.world) before.2 poll.2,
      )

  pub wants_memory : (old now new : Pumped S) (t between u : T) (k made left : ℕ) (f : WorldFault) → k < length old.world.nodes
      → made < left
      → f ≡ fault.Memory → new ≡ now
      → ((passed : List Passage) × PollsBelow storages old k passed made now × HasPassed transport t passed between)
      → ((bytes : List ℕ) × HasPassed transport between (Polled k (Some bytes) ∷ []) u)
      → (passed : List Passage) × PumpBreaksOff storages left old passed f new × HasPassed transport t passed u
  wants_memory old now new t between u k made left f begun less memory same before lost =
      subst (λ w. (passed : List Passage) × PumpBreaksOff storages left old passed w new × HasPassed transport t passed u) (sym memory) (
        before.0 ++ Polled k (Some lost.0) ∷ [],
        record {
          node = k;
          before = before.0;
          made = made;
          part = record { begun = begun; polls = subst (λ (p : Pumped S). PollsBelow storages old k before.0 made p) (sym same) before.1 };
          some_left = less;
          bytes = lost.0;
          passed_ = refl;
        },
        then_passes transport t between u before.0 (Polled k (Some lost.0) ∷ []) before.2 lost.1,
      )

  pub all_polled : (old new : Pumped S) (t u : T) (k count made : ℕ) → k ≡ count → count ≡ length old.world.nodes
      → ((passed : List Passage) × PollsBelow storages old k passed made new × HasPassed transport t passed u)
      → (passed : List Passage) × IsPass storages old passed made new × HasPassed transport t passed u
  all_polled old new t u k count made all nodes before =
      (before.0, subst (λ n. PollsBelow storages old n before.0 made new) (all ∙ nodes) before.1, before.2)

  -- ---- passes
  pub none_passed : (old : Pumped S) (t : T)
      → (passed : List Passage) × Passes storages old 0 passed 0 old × HasPassed transport t passed t
  none_passed old t = ([], no_pass, nothing_passes transport t)

  one_longer : (old now new : Pumped S) (idle made next : ℕ) (more : ℕ) (passed further : List Passage) → idle < MOST_IDLE_PASSES
      → made + more < MOST_PUMPED → (more ≡ 0 → next ≡ idle + 1) → (0 < more → next ≡ 0) → Passes storages old idle passed made now
      → IsPass storages now further more new → Passes storages old next (passed ++ further) (made + more) new
  one_longer old now new idle made next zero passed further few less still reset before pass =
      subst (λ n. Passes storages old n (passed ++ further) (made + 0) new) (sym (add-one idle) ∙ sym (still refl))
      (subst (λ n. Passes storages old (suc idle) (passed ++ further) n new) (let e : made ≡ made + 0 = omega arith in e)
      (idle_pass idle made passed further now new before few pass))
  one_longer old now new idle made next (suc n) passed further few less still reset before pass =
      let some : 0 < suc n = omega arith in
      subst (λ m. Passes storages old m (passed ++ further) (made + suc n) new) (sym (reset some))
      (busy_pass idle made (suc n) passed further now new before few pass some less)

  pub one_passed : (old now new : Pumped S) (t between u : T) (idle made next more : ℕ) → idle < MOST_IDLE_PASSES
      → made + more < MOST_PUMPED → (more ≡ 0 → next ≡ idle + 1) → (0 < more → next ≡ 0)
      → ((passed : List Passage) × Passes storages old idle passed made now × HasPassed transport t passed between)
      → ((passed : List Passage) × IsPass storages now passed more new × HasPassed transport between passed u)
      → (passed : List Passage) × Passes storages old next passed (made + more) new × HasPassed transport t passed u
  one_passed old now new t between u idle made next more few less still reset before pass = (
    before.0 ++ pass.0,
    one_longer old now new idle made next more before.0 pass.0 few less still reset before.1 pass.1,
    then_passes transport t between u before.0 pass.0 before.2 pass.2,
  )

  -- a pass breaks off
  pub broken_off : (old now new : Pumped S) (t between u : T) (idle made : ℕ) (f : WorldFault) → idle < MOST_IDLE_PASSES
      → ((passed : List Passage) × Passes storages old idle passed made now × HasPassed transport t passed between)
      → ((passed : List Passage) × PumpBreaksOff storages (MOST_PUMPED - made) now passed f new × HasPassed transport between passed u)
      → (passed : List Passage) × BreaksPump storages old passed f new × HasPassed transport t passed u
  broken_off old now new t between u idle made f few before breaks = (
    before.0 ++ breaks.0,
    record {
      idle = idle;
      before = before.0;
      made = made;
      between = now;
      passes = before.1;
      goes_on = few;
      last = breaks.0;
      breaks = breaks.1;
      passed_ = refl;
    },
    then_passes transport t between u before.0 breaks.0 before.2 breaks.2,
  )

  -- as many as end a pump were idle
  pub all_passed : (old new : Pumped S) (t u : T) (idle made : ℕ) → idle ≡ MOST_IDLE_PASSES
      → ((passed : List Passage) × Passes storages old idle passed made new × HasPassed transport t passed u)
      → (passed : List Passage) × Passes storages old MOST_IDLE_PASSES passed made new × HasPassed transport t passed u
  all_passed old new t u idle made all before =
      (before.0, subst (λ n. Passes storages old n before.0 made new) all before.1, before.2)

-- ---- the world alone
module _ {S : Type 0} (storages : Ghosts (Script S)) where
  then_delivers : (a b c : WorldState S) → OnlyDelivers storages a b → OnlyDelivers storages b c → OnlyDelivers storages a c
  then_delivers a b c one no_deliver = one
  then_delivers a b c one (one_deliver k between _ rest delivers) =
      one_deliver k between c (then_delivers a b between one rest) delivers

  poll_delivers : (old new : Pumped S) (node made : ℕ) (d : Option (List ℕ)) → Polls storages old node d made new
      → OnlyDelivers storages old.world new.world
  poll_delivers old new node made d nothing_came = no_deliver
  poll_delivers old new node made d (stranger_came bytes strange) = no_deliver
  poll_delivers old new node made d (frame_came bytes k world lowest delivers) = one_deliver k old.world world no_deliver delivers

  polls_deliver : (old new : Pumped S) (n made : ℕ) (passed : List Passage) → PollsBelow storages old n passed made new
      → OnlyDelivers storages old.world new.world
  polls_deliver old new n made passed no_poll = no_deliver
  polls_deliver old new n made passed (one_poll node before more earlier d between _ polls last) =
      then_delivers old.world between.world new.world (polls_deliver old between node before earlier polls)
      (poll_delivers between new node more d last)

  passes_deliver : (old new : Pumped S) (idle made : ℕ) (passed : List Passage) → Passes storages old idle passed made new
      → OnlyDelivers storages old.world new.world
  passes_deliver old new idle made passed no_pass = no_deliver
  passes_deliver old new idle made passed (idle_pass i m p q between _ before few pass) =
      then_delivers old.world between.world new.world (passes_deliver old between i m p before)
      (polls_deliver between new (length between.world.nodes) 0 q pass)
  passes_deliver old new idle made passed (busy_pass i m more p q between _ before few pass some less) =
      then_delivers old.world between.world new.world (passes_deliver old between i m p before)
      (polls_deliver between new (length between.world.nodes) more q pass)

  break_delivers : (left : ℕ) (old new : Pumped S) (passed : List Passage) (f : WorldFault) → PumpBreaksOff storages left old passed f new
      → OnlyDelivers storages old.world new.world
  break_delivers left old new passed fault.FlushLimit h =
      then_delivers old.world h.between.world new.world (polls_deliver old h.between h.node h.made h.before h.part.polls)
      (poll_delivers h.between new h.node 1 h.datagram h.last)
  break_delivers left old new passed fault.Memory h = polls_deliver old new h.node h.made h.before h.part.polls
  break_delivers left old new passed fault.NoSuchFrame h = absurd h
  break_delivers left old new passed fault.NoSuchNode h = absurd h
  break_delivers left old new passed fault.NotEmpty h = absurd h

  -- a pump makes no change to its world but Delivers
  pub pump_delivers : (old new : Pumped S) (passed : List Passage) (result : Result ℕ WorldFault) → Pumps storages old passed result new
      → OnlyDelivers storages old.world new.world
  pump_delivers old new passed (Ok made) h = passes_deliver old new MOST_IDLE_PASSES made passed h
  pump_delivers old new passed (Err f) h =
      then_delivers old.world h.between.world new.world (passes_deliver old h.between h.idle h.made h.before h.passes)
      (break_delivers (MOST_PUMPED - h.made) h.between new h.last f h.breaks)

  break_faults : (left : ℕ) (old new : Pumped S) (passed : List Passage) (f : WorldFault) → PumpBreaksOff storages left old passed f new
      → (f ≡ fault.FlushLimit) ⊎ (f ≡ fault.Memory)
  break_faults left old new passed fault.FlushLimit h = inl refl
  break_faults left old new passed fault.Memory h = inr refl
  break_faults left old new passed fault.NoSuchFrame h = absurd h
  break_faults left old new passed fault.NoSuchNode h = absurd h
  break_faults left old new passed fault.NotEmpty h = absurd h

  pub pump_faults : (old new : Pumped S) (passed : List Passage) (result : Result ℕ WorldFault) → Pumps storages old passed result new
      → IfErr result (λ f. (f ≡ fault.FlushLimit) ⊎ (f ≡ fault.Memory))
  pump_faults old new passed (Ok made) h = tt
  pump_faults old new passed (Err f) h = break_faults (MOST_PUMPED - h.made) h.between new h.last f h.breaks

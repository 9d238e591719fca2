-- A turn that breaks off did so much of a turn, in its order.
use Rattle.std.proofs.Common.{◌≡◌, ◌⊎◌, ◌<◌, ◌≤◌, ℕ, ◌+◌, Bool, List, [], ◌∷◌, ◌++◌, All, length, take, get_or, Option, Some, None, IsSome, inl, inr, refl, sym, ap, subst, ◌∙◌, arith, append-nil, append_assoc}
use Rattle.std.specs.List.{HoldsAt}
use Rattle.std.proofs.lemmas.Option.{slice_get-get_or}
use Rattle.std.proofs.lemmas.List.Elements.{All-cons, All-nil}
use Rattle.stable.specs.declared.stable.Stable.{Ghosts}
use Rattle.wire.specs.declared.frames.envelope.Envelope.{Envelope}
use Rattle.node_model.specs.Nodes.{NodeState}
use Rattle.node_model.specs.Replicas.{ReplicaState}
use Rattle.node_model.specs.declared.fault.NodeFault.TheVariants as node_fault
use Rattle.node_model.specs.declared.input.Input.TheVariants as input
use Rattle.world_model.specs.declared.lists.Replied.{Replied}
use Rattle.life.specs.Lives.{LifeState}
use Rattle.life.specs.Telling.{nothing}
use Rattle.serving.specs.Ending.{EndsAt, IsAsked, IsGiven, IsOfOthers}
use Rattle.serving.specs.Moves.{AreRepliesTold, HandsOnSome, HasTaken, IsBrokenOff, IsEnded, IsGivenWhere, KeepsTime, LetsOutSome, Moves, StopsBehind, StopsGoingOn, StopsHandingOn, StopsKeepingRecords, StopsKeepingTime, StopsTaking, StopsTelling, Taking, TakesAll, Telling, TellsOrNot}
use Rattle.serving.specs.Moves.IsBrokenOff.{at_the_time, behind_the_time, while_taking, while_telling}
use Rattle.serving.specs.Moves.IsEnded.{at_once, on_its_way}
use Rattle.serving.specs.Moves.LetsOutSome.{some_frames, some_replies}
use Rattle.serving.specs.Moves.Moves.{none}
use Rattle.serving.specs.Moves.StopsKeepingTime.{at_campaign, at_tick}
use Rattle.serving.specs.Moves.StopsTelling.{behind, handing_on, letting_out}
use Rattle.serving.specs.Knowing.{IsPosition}
use Rattle.serving.specs.Outgoing.{AreFramesOf, ArePacketsOf, IsArrival}
use Rattle.serving.specs.Owing.{reply_told}
use Rattle.serving.specs.Processes.{ProcessState, is_asked_in}
use Rattle.serving.specs.Requesting.{HandsOnFirst, RequestState}
use Rattle.serving.specs.Resting.{HasRead, IsFull}
use Rattle.serving.specs.Serving.{Passes, PassesBoth}
use Rattle.serving.specs.Tapes.{Arrived, Carried, HasPassed, IsHeard, Talk, polled, read}
use Rattle.serving.specs.Timings.{IsCampaignDue, IsTickDue, TimingState, campaigned, leader_in, position_seen}
use Rattle.serving.specs.declared.claims.Claim.{Claim}
use Rattle.serving.specs.declared.fault.TurnFault.{TurnFault}
use Rattle.serving.specs.declared.fault.TurnFault.TheVariants as turn_fault
use Rattle.serving.proofs.Moving.{moves_then}
use Rattle.serving.proofs.MovesOut.{never_empty, packet_of_first}
use Rattle.serving.proofs.Passing.{passes_as, passes_none, passes_then}

-- ---- of what is let out
module _ {N : Type 0} (carried : N → List Carried) (Carries : N → Type 0) where
  -- nothing more passed
  pub passes_stopped : (AreSo : List Carried → Type 0) (n m o : N) → Passes carried Carries AreSo n m → HasPassed carried Carries m [] o
      → Passes carried Carries AreSo n o
  passes_stopped AreSo n m o h k = record {
    passed = h.passed ++ [];
    are = subst AreSo (sym (append-nil h.passed)) h.are;
    passes = passes_then carried Carries n m o h.passed [] h.passes k;
  }

  pub so_many_frames : (frames : List Envelope) (count : ℕ) (n m : N) → Passes carried Carries (AreFramesOf (take count frames)) n m
      → Passes carried Carries (λ sent. (k : ℕ) × AreFramesOf (take k frames) sent) n m
  so_many_frames frames count n m h = record { passed = h.passed; are = (count, h.are); passes = h.passes }

  pub so_many_packets : (leader : Option ℕ) (own nodes : ℕ) (packet : List ℕ) (upto : ℕ) (n m : N) → upto ≤ nodes
      → Passes carried Carries (ArePacketsOf leader own packet upto) n m
      → Passes carried Carries (λ sent. (k : ℕ) × (k ≤ nodes) × ArePacketsOf leader own packet k sent) n m
  so_many_packets leader own nodes packet upto n m among h =
      record { passed = h.passed; are = (upto, among, h.are); passes = h.passes }

module _ {D : Type 0} (talk : D → List Talk) (Talks : D → Type 0) where
  pub so_many_replies : (claims left : List Claim) (replies : List Replied) (i : ℕ) (replied : Replied) (d e f : D) → i < length replies
      → replied ≡ get_or replies i replied → Passes talk Talks (λ said. AreRepliesTold claims (take i replies) said left) d e
      → Passes talk Talks (λ said. (k : ℕ) × (said ≡ reply_told replied (take k left))) e f
      → Passes talk Talks (λ said. (sent : List Carried) (frames : List Envelope) → AreFramesOf frames sent
      → LetsOutSome frames replies claims sent said) d f
  so_many_replies claims left replies i replied d e f lt at h k = record {
    passed = h.passed ++ k.passed;
    are = λ sent frames all. subst (λ (xs : List Talk). LetsOutSome frames replies claims sent (h.passed ++ xs)) (sym k.are.1)
        (some_replies sent i k.are.0 h.passed left replied all h.are
        (slice_get-get_or replies i replied lt ∙ ap (λ (r : Replied). Some r) (sym at)));
    passes = passes_then talk Talks d e f h.passed k.passed h.passes k.passes;
  }

module _ {N D : Type 0} (carried : N → List Carried) (Carries : N → Type 0) (talk : D → List Talk) (Talks : D → Type 0) where
  pub lets_out_frames : (frames : List Envelope) (replies : List Replied) (claims : List Claim) (n m : N) (d : D)
      → Passes carried Carries (λ sent. (k : ℕ) × AreFramesOf (take k frames) sent) n m
      → PassesBoth carried Carries talk Talks (LetsOutSome frames replies claims) n d m d
  lets_out_frames frames replies claims n m d h = record {
    sent = h.passed;
    said = [];
    are = some_frames h.are.0 h.passed h.are.1;
    carries = h.passes;
    talks = passes_none talk Talks d;
  }

  pub lets_out_replies : (frames : List Envelope) (replies : List Replied) (claims : List Claim) (n m : N) (d e : D)
      → Passes carried Carries (AreFramesOf frames) n m
      → Passes talk Talks (λ said. (sent : List Carried) (all : List Envelope) → AreFramesOf all sent
      → LetsOutSome all replies claims sent said) d e
      → PassesBoth carried Carries talk Talks (LetsOutSome frames replies claims) n d m e
  lets_out_replies frames replies claims n m d e h k = record {
    sent = h.passed;
    said = k.passed;
    are = k.are h.passed frames h.are;
    carries = h.passes;
    talks = k.passes;
  }

-- a node that isn't up is down
pub down_unless_up : (up : Option ReplicaState) → (IsSome up → ⊥) → up ≡ None
down_unless_up (Some m) never = absurd (never refl)
down_unless_up None never = refl

-- what is behind nothing is nothing
nothing_behind : {A : Type 0} (xs ys : List A) → [] ≡ xs ++ ys → ys ≡ []
nothing_behind [] ys is = sym is
nothing_behind (x ∷ xs) ys is = absurd (cc)

module _ {S : Type 0} (storages : Ghosts S) where
  module _ (now : ℕ) where
    -- ---- while it takes
    stops_at : (p q : ProcessState S) (came last : List Carried) (heard end : List Talk) (fault : TurnFault) (n : NodeState S)
        → Moves storages now Taking p came heard q → length last + length end ≤ 1 → All IsArrival last → All IsHeard end
        → (p.life.own ≡ [] → (last ≡ []) ⊎ (q.life.own ≡ [])) → EndsAt storages IsOfOthers q.life.node fault n
        → StopsTaking storages now p (came ++ last) (heard ++ end) fault n
    stops_at p q came last heard end fault n moves one came_so heard_so own ends = record {
      between = q;
      came_before = came;
      heard_before = heard;
      takes = moves;
      last_came = last;
      last_heard = end;
      one = one;
      came_so = came_so;
      heard_so = heard_so;
      all_came = refl;
      all_heard = refl;
      own = own;
      ends = ends;
    }

    -- behind moves, at once
    pub stops_behind : (p q : ProcessState S) (came : List Carried) (heard : List Talk) (fault : TurnFault) (n : NodeState S)
        → Moves storages now Taking p came heard q → EndsAt storages IsOfOthers q.life.node fault n
        → StopsTaking storages now p came heard fault n
    stops_behind p q came heard fault n moves ends =
        subst (λ (xs : List Carried). StopsTaking storages now p xs heard fault n) (append-nil came)
        (subst (λ (xs : List Talk). StopsTaking storages now p (came ++ []) xs fault n) (append-nil heard)
        (stops_at p q came [] heard [] fault n moves (omega arith) (All-nil IsArrival) (All-nil IsHeard) (λ own. inl refl) ends))

    pub stops_then : (p q : ProcessState S) (came more : List Carried) (heard told : List Talk) (fault : TurnFault) (n : NodeState S)
        → Moves storages now Taking p came heard q → (p.life.own ≡ [] → (more ≡ []) ⊎ (q.life.own ≡ []))
        → StopsTaking storages now q more told fault n → StopsTaking storages now p (came ++ more) (heard ++ told) fault n
    stops_then p q came more heard told fault n moves own h = record {
      between = h.between;
      came_before = came ++ h.came_before;
      heard_before = heard ++ h.heard_before;
      takes = moves_then storages now p q h.between came h.came_before heard h.heard_before moves h.takes;
      last_came = h.last_came;
      last_heard = h.last_heard;
      one = h.one;
      came_so = h.came_so;
      heard_so = h.heard_so;
      all_came = ap (λ (xs : List Carried). came ++ xs) h.all_came ∙ sym (append_assoc came h.came_before h.last_came);
      all_heard = ap (λ (xs : List Talk). heard ++ xs) h.all_heard ∙ sym (append_assoc heard h.heard_before h.last_heard);
      own = λ before.
          elim (own before) [
            | inl quiet ↦ inl (nothing_behind h.came_before h.last_came (sym quiet ∙ h.all_came))
            | inr none_waits ↦ h.own none_waits
          ];
      ends = h.ends;
    }

    -- ---- while it keeps the time
    pub stops_campaigning : (p : ProcessState S) (position : ℕ) (asked : Bool) (looked : TimingState) (fault : TurnFault) (n : NodeState S)
        → IsPosition p.life.node position → asked ≡ is_asked_in p → looked ≡ position_seen position asked now p.timing
        → IsCampaignDue position asked now looked → EndsAt storages (IsGiven input.Timeout) p.life.node fault n
        → StopsKeepingTime storages now p fault n
    stops_campaigning p position asked looked fault n at is seen due ends =
        at_campaign position at
        (subst (λ (b : Bool). IsCampaignDue position b now (position_seen position b now p.timing)) is
        (subst (λ (t : TimingState). IsCampaignDue position asked now t) seen due)) ends

    pub stops_ticking : (p q : ProcessState S) (position : ℕ) (asked : Bool) (looked : TimingState) (fault : TurnFault) (n : NodeState S)
        → IsPosition p.life.node position → asked ≡ is_asked_in p → looked ≡ position_seen position asked now p.timing
        → IsGivenWhere storages (IsCampaignDue position asked now looked) input.Timeout (campaigned now looked)
        p.life looked q.life q.timing
        → IsTickDue position asked now q.timing → EndsAt storages (IsGiven input.Tick) q.life.node fault n
        → StopsKeepingTime storages now p fault n
    stops_ticking p q position asked looked fault n at is seen campaigns due ends =
        at_tick position looked q.timing q.life at (seen ∙ ap (λ (b : Bool). position_seen position b now p.timing) is)
        (subst (λ (b : Bool). IsGivenWhere storages (IsCampaignDue position b now looked) input.Timeout (campaigned now looked)
        p.life looked q.life q.timing) is campaigns)
        (subst (λ (b : Bool). IsTickDue position b now q.timing) is due) ends

    -- ---- over the network
    module _ {N : Type 0} (carried : N → List Carried) (Carries : N → Type 0) where
      abbrev pub NodesStop : ProcessState S → N → N → TurnFault → NodeState S → Type 0
      NodesStop p n m fault end = Passes carried Carries (λ came. StopsTaking storages now p came [] fault end) n m

      -- one thing came, as a call's clauses have it
      pub nodes_stop_at : (p : ProcessState S) (n m : N) (fault : TurnFault) (end : NodeState S) (passed : List Carried) (x : Carried)
          → passed ≡ x ∷ [] → IsArrival x → (Carries m → carried m ≡ carried n ++ passed) → (Carries m → Carries n)
          → EndsAt storages IsOfOthers p.life.node fault end → NodesStop p n m fault end
      nodes_stop_at p n m fault end passed x is so tape told ends = record {
        passed = x ∷ [];
        are = stops_at p p [] (x ∷ []) [] [] fault end (none p) (omega arith) (All-cons IsArrival x [] so (All-nil IsArrival))
            (All-nil IsHeard) (λ own. inr own) ends;
        passes = passes_as carried Carries n m passed (x ∷ []) tape told is;
      }

      -- bytes came, and then it stopped taking its own frames
      pub nodes_stop_own : (p q : ProcessState S) (n m : N) (fault : TurnFault) (end : NodeState S) (passed : List Carried) (bytes : List ℕ)
          → passed ≡ Arrived bytes ∷ [] → (Carries m → carried m ≡ carried n ++ passed) → (Carries m → Carries n)
          → Moves storages now Taking p (Arrived bytes ∷ []) [] q → StopsTaking storages now q [] [] fault end
          → NodesStop p n m fault end
      nodes_stop_own p q n m fault end passed bytes is tape told moves stops = record {
        passed = Arrived bytes ∷ [];
        are = stops_then p q (Arrived bytes ∷ []) [] [] [] fault end moves (λ own. inl refl) stops;
        passes = passes_as carried Carries n m passed (Arrived bytes ∷ []) tape told is;
      }

      pub nodes_stop_then : (AreRead : List Carried → Type 0) (p q : ProcessState S) (n m o : N) (fault : TurnFault) (end : NodeState S)
          → Passes carried Carries (λ came. Moves storages now Taking p came [] q × AreRead came) n m
          → (p.life.own ≡ [] → q.life.own ≡ []) → NodesStop q m o fault end → NodesStop p n o fault end
      nodes_stop_then AreRead p q n m o fault end h own k = record {
        passed = h.passed ++ k.passed;
        are = stops_then p q h.passed k.passed [] [] fault end h.are.0 (λ before. inr (own before)) k.are;
        passes = passes_then carried Carries n m o h.passed k.passed h.passes k.passes;
      }

    -- ---- over the desk
    module _ {D : Type 0} (talk : D → List Talk) (Talks : D → Type 0) where
      abbrev pub ClientsStop : ProcessState S → D → D → TurnFault → NodeState S → Type 0
      ClientsStop p d e fault end = Passes talk Talks (λ said. StopsTaking storages now p [] said fault end) d e

      pub clients_stop_at : (p : ProcessState S) (d e : D) (fault : TurnFault) (end : NodeState S) (passed : List Talk) (x : Talk)
          → passed ≡ x ∷ [] → IsHeard x → (Talks e → talk e ≡ talk d ++ passed) → (Talks e → Talks d)
          → EndsAt storages IsOfOthers p.life.node fault end → ClientsStop p d e fault end
      clients_stop_at p d e fault end passed x is so tape told ends = record {
        passed = x ∷ [];
        are = stops_at p p [] [] [] (x ∷ []) fault end (none p) (omega arith) (All-nil IsArrival)
            (All-cons IsHeard x [] so (All-nil IsHeard)) (λ own. inl refl) ends;
        passes = passes_as talk Talks d e passed (x ∷ []) tape told is;
      }

      pub clients_stop_then : (AreRead : List Talk → Type 0) (p q : ProcessState S) (d e f : D) (fault : TurnFault) (end : NodeState S)
          → Passes talk Talks (λ said. Moves storages now Taking p [] said q × AreRead said) d e → ClientsStop q e f fault end
          → ClientsStop p d f fault end
      clients_stop_then AreRead p q d e f fault end h k = record {
        passed = h.passed ++ k.passed;
        are = stops_then p q [] [] h.passed k.passed fault end h.are.0 (λ own. inl refl) k.are;
        passes = passes_then talk Talks d e f h.passed k.passed h.passes k.passes;
      }

      -- ---- while it tells
      abbrev pub ClientsBreak : ProcessState S → D → D → TurnFault → NodeState S → Type 0
      ClientsBreak p d e fault end = Passes talk Talks (λ said. StopsBehind storages now p [] said fault end) d e

      pub clients_break : (p q : ProcessState S) (d e f : D) (has : Bool) (fault : TurnFault) (end : NodeState S)
          → Passes talk Talks (λ said. TellsOrNot storages now p [] said q has) d e → HasPassed talk Talks e [] f
          → EndsAt storages IsAsked q.life.node fault end → ClientsBreak p d f fault end
      clients_break p q d e f has fault end h k ends = record {
        passed = h.passed ++ [];
        are = subst (λ (xs : List Talk). StopsBehind storages now p [] xs fault end) (sym (append-nil h.passed))
            (record { between = q; tells = h.are.0; ends = ends });
        passes = passes_then talk Talks d e f h.passed [] h.passes k;
      }

    pub breaks_moved : (p q : ProcessState S) (fault : TurnFault) (n : NodeState S) → Moves storages now Telling p [] [] q
        → EndsAt storages IsAsked q.life.node fault n → StopsBehind storages now p [] [] fault n
    breaks_moved p q fault n moves ends = record { between = q; tells = moves; ends = ends }

    behind_then : (p q : ProcessState S) (sent more : List Carried) (said told : List Talk) (fault : TurnFault) (n : NodeState S)
        → Moves storages now Telling p sent said q → StopsBehind storages now q more told fault n
        → StopsBehind storages now p (sent ++ more) (said ++ told) fault n
    behind_then p q sent more said told fault n moves h = record {
      between = h.between;
      tells = moves_then storages now p q h.between sent more said told moves h.tells;
      ends = h.ends;
    }

    handing_then : (p q : ProcessState S) (sent more : List Carried) (said told : List Talk) (n : NodeState S)
        → Moves storages now Telling p sent said q → StopsHandingOn storages now q more told n
        → StopsHandingOn storages now p (sent ++ more) (said ++ told) n
    handing_then p q sent more said told n moves h = record {
      between = h.between;
      sent_before = sent ++ h.sent_before;
      last = h.last;
      tells = moves_then storages now p q h.between sent h.sent_before said told moves h.tells;
      hands_on = h.hands_on;
      all_sent = ap (λ (xs : List Carried). sent ++ xs) h.all_sent ∙ sym (append_assoc sent h.sent_before h.last);
      same = h.same;
    }

    -- ---- over the network: some went out of a request
    pub hands_on_some : {N : Type 0} (carried : N → List Carried) (Carries : N → Type 0) (p : ProcessState S)
        (requests : List RequestState) (place : ℕ) (packet : List ℕ) (n m : N) → HandsOnFirst now place p.requests requests
        → HoldsAt (λ (r : RequestState). packet ≡ r.packet) requests place → p.life.held ≡ nothing
        → (IsFull p.life.node → p.requests ≡ [])
        → Passes carried Carries (λ sent. (upto : ℕ) × (upto ≤ p.nodes)
        × ArePacketsOf (leader_in p.timing) p.own packet upto sent) n m
        → Passes carried Carries (HandsOnSome storages now p) n m
    hands_on_some carried Carries p requests place packet n m h at silent none_at_full sends = record {
      passed = sends.passed;
      are = record {
        place = place;
        requests = requests;
        upto = sends.are.0;
        among = sends.are.1;
        silent = silent;
        goes_on = λ full. never_empty h.before h.request h.after (sym h.was ∙ none_at_full full);
        first = h;
        some = subst (λ (b : List ℕ). ArePacketsOf (leader_in p.timing) p.own b sends.are.0 sends.passed)
            (packet_of_first now place p.requests requests packet h at) sends.are.2;
      };
      passes = sends.passes;
    }

    pub nodes_hand_on : {N : Type 0} (carried : N → List Carried) (Carries : N → Type 0) (p q : ProcessState S) (n m o : N)
        (end : NodeState S) → Passes carried Carries (λ sent. Moves storages now Telling p sent [] q) n m
        → Passes carried Carries (HandsOnSome storages now q) m o → end ≡ q.life.node
        → Passes carried Carries (λ sent. StopsHandingOn storages now p sent [] end) n o
    nodes_hand_on carried Carries p q n m o end h k same = record {
      passed = h.passed ++ k.passed;
      are = record {
        between = q;
        sent_before = h.passed;
        last = k.passed;
        tells = h.are;
        hands_on = k.are;
        all_sent = refl;
        same = same;
      };
      passes = passes_then carried Carries n m o h.passed k.passed h.passes k.passes;
    }

    -- ---- over both
    module _ {N D : Type 0} (carried : N → List Carried) (Carries : N → Type 0) (talk : D → List Talk) (Talks : D → Type 0) where
      abbrev pub BothBreak : ProcessState S → N → D → N → D → TurnFault → NodeState S → Type 0
      BothBreak p n d m e fault end =
          PassesBoth carried Carries talk Talks (λ sent said. StopsTelling storages now p sent said fault end) n d m e

      abbrev pub BothStop : ProcessState S → N → D → N → D → TurnFault → NodeState S → Type 0
      BothStop p n d m e fault end =
          PassesBoth carried Carries talk Talks (λ sent said. IsBrokenOff storages now p sent said fault end) n d m e

      -- some frames and replies went out
      pub both_break_out : (p : ProcessState S) (n m : N) (d e : D) (end : NodeState S)
          → PassesBoth carried Carries talk Talks (LetsOutSome p.life.held.frames p.life.held.replies p.waiting.claims) n d m e
          → end ≡ p.life.node → BothBreak p n d m e turn_fault.Memory end
      both_break_out p n m d e end h same = record {
        sent = h.sent;
        said = h.said;
        are = subst (λ (x : NodeState S). StopsTelling storages now p h.sent h.said turn_fault.Memory x) (sym same)
            (letting_out h.sent h.said h.are);
        carries = h.carries;
        talks = h.talks;
      }

      -- behind others
      pub both_break_told : (p q : ProcessState S) (n m : N) (d e f : D) (has : Bool) (fault : TurnFault) (end : NodeState S)
          → PassesBoth carried Carries talk Talks (λ sent said. TellsOrNot storages now p sent said q has) n d m e
          → ClientsBreak talk Talks q e f fault end → BothBreak p n d m f fault end
      both_break_told p q n m d e f has fault end h k = record {
        sent = h.sent;
        said = h.said ++ k.passed;
        are = subst (λ (xs : List Carried). StopsTelling storages now p xs (h.said ++ k.passed) fault end) (append-nil h.sent)
            (behind (h.sent ++ []) (h.said ++ k.passed) fault end (behind_then p q h.sent [] h.said k.passed fault end h.are.0 k.are));
        carries = h.carries;
        talks = passes_then talk Talks d e f h.said k.passed h.talks k.passes;
      }

      pub both_break_still : (p q : ProcessState S) (n m : N) (d e : D) (has : Bool) (fault : TurnFault) (end : NodeState S)
          → PassesBoth carried Carries talk Talks (λ sent said. TellsOrNot storages now p sent said q has) n d m e
          → StopsBehind storages now q [] [] fault end → BothBreak p n d m e fault end
      both_break_still p q n m d e has fault end h k =
          let all = both_break_told p q n m d e e has fault end h
          (record { passed = []; are = k; passes = passes_none talk Talks e }) in all

      pub both_break_sent : (p q : ProcessState S) (n m o : N) (d e : D) (has : Bool) (end : NodeState S)
          → PassesBoth carried Carries talk Talks (λ sent said. TellsOrNot storages now p sent said q has) n d m e
          → Passes carried Carries (λ sent. StopsHandingOn storages now q sent [] end) m o → BothBreak p n d o e turn_fault.Memory end
      both_break_sent p q n m o d e has end h k = record {
        sent = h.sent ++ k.passed;
        said = h.said;
        are = subst (λ (xs : List Talk). StopsTelling storages now p (h.sent ++ k.passed) xs turn_fault.Memory end) (append-nil h.said)
            (handing_on (h.sent ++ k.passed) (h.said ++ []) end
            (handing_then p q h.sent k.passed h.said [] end h.are.0 k.are));
        carries = passes_then carried Carries n m o h.sent k.passed h.carries k.passes;
        talks = h.talks;
      }

      -- ---- a whole turn
      pub both_stop_frames : (p : ProcessState S) (n m : N) (d : D) (fault : TurnFault) (end : NodeState S)
          → Passes carried Carries (λ came. StopsTaking storages now p came [] fault end) n m → BothStop p n d m d fault end
      both_stop_frames p n m d fault end h = record {
        sent = h.passed;
        said = [];
        are = while_taking h.passed [] fault end h.are;
        carries = h.passes;
        talks = passes_none talk Talks d;
      }

      pub both_stop_lines : (AreRead : List Carried → Type 0) (p q : ProcessState S) (n m : N) (d e : D) (fault : TurnFault)
          (end : NodeState S) → Passes carried Carries (λ came. Moves storages now Taking p came [] q × AreRead came) n m
          → Passes talk Talks (λ said. StopsTaking storages now q [] said fault end) d e → BothStop p n d m e fault end
      both_stop_lines AreRead p q n m d e fault end h k = record {
        sent = h.passed;
        said = k.passed;
        are = subst (λ (xs : List Carried). IsBrokenOff storages now p xs k.passed fault end) (append-nil h.passed)
            (while_taking (h.passed ++ []) k.passed fault end (stops_then p q h.passed [] [] k.passed fault end h.are.0 (λ own. inl refl) k.are));
        carries = h.passes;
        talks = k.passes;
      }

      -- what came and what was said
      module _ (p q r : ProcessState S) (n m : N) (d e : D) (more_came more_heard : Bool) where
        abbrev pub CameSo : Type 0
        CameSo = Passes carried Carries (λ came. Moves storages now Taking p came [] q × HasRead polled came more_came) n m

        abbrev pub HeardSo : Type 0
        HeardSo = Passes talk Talks (λ said. Moves storages now Taking q [] said r × HasRead read said more_heard) d e

        abbrev pub OwnSo : Type 0
        OwnSo = p.life.own ≡ [] → q.life.own ≡ []

        has_taken : (h : CameSo) → OwnSo → (k : HeardSo) → HasTaken storages now p h.passed k.passed r
        has_taken h own k = record {
          after_packets = q;
          packets = h.are.0;
          more_came = more_came;
          all_packets = h.are.1;
          own_packets = own;
          lines = k.are.0;
          more_heard = more_heard;
          all_lines = k.are.1;
        }

        -- while the time is kept
        pub both_stop_timing : (fault : TurnFault) (end : NodeState S) → CameSo → OwnSo → HeardSo
            → StopsKeepingTime storages now r fault end → BothStop p n d m e fault end
        both_stop_timing fault end h own k stops = record {
          sent = h.passed;
          said = k.passed;
          are = at_the_time r h.passed k.passed fault end (has_taken h own k) stops;
          carries = h.passes;
          talks = k.passes;
        }

        -- behind that
        pub both_stop_behind : (fault : TurnFault) (end : NodeState S) → CameSo → OwnSo → HeardSo → StopsGoingOn storages now r fault end
            → BothStop p n d m e fault end
        both_stop_behind fault end h own k stops = record {
          sent = h.passed;
          said = k.passed;
          are = behind_the_time r h.passed k.passed fault end (has_taken h own k) stops;
          carries = h.passes;
          talks = k.passes;
        }

      pub both_stop_telling : (p q : ProcessState S) (n m o : N) (d e f : D) (more : Bool) (fault : TurnFault) (end : NodeState S)
          → PassesBoth carried Carries talk Talks (λ came said. TakesAll storages now p came said q more) n d m e
          → BothBreak q m e o f fault end → BothStop p n d o f fault end
      both_stop_telling p q n m o d e f more fault end h k = record {
        sent = h.sent ++ k.sent;
        said = h.said ++ k.said;
        are = while_telling q h.sent k.sent h.said k.said more fault end h.are k.are;
        carries = passes_then carried Carries n m o h.sent k.sent h.carries k.carries;
        talks = passes_then talk Talks d e f h.said k.said h.talks k.talks;
      }

    -- ---- behind the time
    -- while it takes its own frames
    pub stops_at_own : (p timed : ProcessState S) (life : LifeState S) (knows : TimingState) (fault : TurnFault) (end : NodeState S)
        → KeepsTime storages now p life knows → timed ≡ record p { life = life; timing = knows }
        → StopsTaking storages now timed [] [] fault end → StopsGoingOn storages now p fault end
    stops_at_own p timed life knows fault end keeps same stops = record {
      life = life;
      knows = knows;
      keeps_time = keeps;
      between = stops.between;
      goes_on = subst (λ (x : ProcessState S). Moves storages now Taking x [] [] stops.between) same
          (quiet_moves timed stops.between stops.came_before stops.last_came stops.heard_before stops.last_heard stops.all_came
          stops.all_heard stops.takes);
      ends = inl stops.ends;
    }
      where
        quiet_moves : (x y : ProcessState S) (came last : List Carried) (heard end : List Talk) → [] ≡ came ++ last → [] ≡ heard ++ end
            → Moves storages now Taking x came heard y → Moves storages now Taking x [] [] y
        quiet_moves x y [] last [] end a b moves = moves
        quiet_moves x y (z ∷ came) last heard end a b moves = absurd (cc)
        quiet_moves x y [] last (z ∷ heard) end a b moves = absurd (cc)

    -- while it keeps its records
    pub stops_at_records : (p timed own : ProcessState S) (life : LifeState S) (knows : TimingState) (fault : TurnFault) (end : NodeState S)
        → KeepsTime storages now p life knows → timed ≡ record p { life = life; timing = knows }
        → Moves storages now Taking timed [] [] own → own.life.own ≡ [] → StopsKeepingRecords storages own.life fault end
        → StopsGoingOn storages now p fault end
    stops_at_records p timed own life knows fault end keeps same moves none_waits stops = record {
      life = life;
      knows = knows;
      keeps_time = keeps;
      between = own;
      goes_on = subst (λ (x : ProcessState S). Moves storages now Taking x [] [] own) same moves;
      ends = inr (none_waits, stops);
    }

    -- ---- a turn that ends with a fault
    module _ {N D : Type 0} (carried : N → List Carried) (Carries : N → Type 0) (talk : D → List Talk) (Talks : D → Type 0) where
      abbrev pub BothEnd : ProcessState S → N → D → N → D → TurnFault → NodeState S → Type 0
      BothEnd p n d m e fault end =
          PassesBoth carried Carries talk Talks (λ sent said. IsEnded storages now p sent said fault end) n d m e

      pub both_end_at_once : (p : ProcessState S) (n : N) (d : D) → p.life.node.up ≡ None
          → BothEnd p n d n d (turn_fault.Node node_fault.Down) p.life.node
      both_end_at_once p n d down = record {
        sent = [];
        said = [];
        are = at_once down;
        carries = passes_none carried Carries n;
        talks = passes_none talk Talks d;
      }

      pub both_end : (p : ProcessState S) (n m : N) (d e : D) (fault : TurnFault) (end : NodeState S) → IsSome p.life.node.up
          → BothStop carried Carries talk Talks p n d m e fault end → BothEnd p n d m e fault end
      both_end p n m d e fault end up h = record {
        sent = h.sent;
        said = h.said;
        are = on_its_way h.sent h.said fault end up h.are;
        carries = h.carries;
        talks = h.talks;
      }

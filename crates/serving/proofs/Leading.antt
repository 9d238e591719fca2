-- A part of a turn leads from a process to another one.
use Rattle.std.proofs.Common.{◌≡◌, ℕ, List, [], ◌∷◌, ◌++◌, Result, Ok, Err, Bool, true, false, All, Contains, sym, subst, append-nil, inl}
use Rattle.std.specs.List.{flat_map}
use Rattle.std.proofs.lemmas.List.Elements.{All-append, All-cons, All-head, All-nil, All-rest, All-same, All-weaker}
use Rattle.stable.specs.declared.stable.Stable.{Ghosts}
use Rattle.node_model.specs.declared.fault.NodeFault.{NodeFault}
use Rattle.node_model.specs.declared.input.Input.TheVariants as input
use Rattle.node_model.specs.Nodes.{NodeState}
use Rattle.node_model.specs.Outputs.{Response}
use Rattle.wire.specs.declared.frames.envelope.Envelope.{Envelope}
use Rattle.world_model.specs.Lives.{Happening, Loaded, Took, down_over, sent_at}
use Rattle.life.specs.Lives.{Does, GoesOn, IsBorn, IsLifeOf, LifeState, TakesBack, TakesFirst}
use Rattle.life.specs.Telling.{ToldLists, joined, nothing}
use Rattle.life.specs.declared.fault.LifeFault.{LifeFault}
use Rattle.life.specs.declared.fault.LifeFault.TheVariants.{Memory, Node}
use Rattle.life.proofs.TellingLemmas.{life_begins, told_goes_on}
use Rattle.serving.specs.Knowing.{WasSo}
use Rattle.serving.specs.Serving.{IsServing, ServerState, Serves, begun}
use Rattle.serving.specs.Tapes.{Carried, Talk}
use Rattle.serving.specs.Turns.{Past, later, HasAsked, HasQueried, MayBeDue, MayBeHandedOn, MayBeSaid, MayHappen, MayPass}
use Rattle.serving.proofs.Growing.{asked_in, due_in, grows_later, happens_still, in_left, in_right, is_so, passes_still, queried_in, request_in}
use Rattle.serving.proofs.Growing.{said_still, was_so_still}
use Rattle.serving.proofs.Holding.{Holds, IsNow, each_holds}
use Rattle.serving.proofs.Pasts.{joined_nothing, later_nothing, later_twice}

module _ {S : Type 0} (storages : Ghosts S) where
  -- ---- one after the other
  pub serves_none : (s : ServerState S) → Serves storages s [] [] s
  serves_none s = record {
    leads = λ first past is. ([], nothing, subst (λ (p : Past). IsServing storages first p s) (sym (later_nothing past)) is);
  }

  pub serves_then : (a b c : ServerState S) (c1 c2 : List Carried) (t1 t2 : List Talk) → Serves storages a c1 t1 b
      → Serves storages b c2 t2 c → Serves storages a (c1 ++ c2) (t1 ++ t2) c
  serves_then a b c c1 c2 t1 t2 h k = record {
    leads = λ first past is.
        let one = h.leads first past is in
        let two = k.leads first (later past one.0 one.1 c1 t1) one.2 in (
          one.0 ++ two.0,
          joined one.1 two.1,
          subst (λ (p : Past). IsServing storages first p c) (later_twice past one.0 two.0 one.1 two.1 c1 c2 t1 t2) two.2,
        );
  }

  -- ---- whatever happens to its node
  -- what happened, and what its life handed out, is told of a part of a turn
  pub serves_by : (old new : ServerState S) (happened : List Happening) (out : ToldLists) (carried : List Carried) (talk : List Talk)
      → ((first : NodeState S) (past : Past) → IsServing storages first past old
      → IsLifeOf storages first (past.history ++ happened) (joined past.handed out) new.life)
      → ((first : NodeState S) (past : Past) → IsServing storages first past old
      → All (MayHappen first.id (later past happened out carried talk)) happened)
      → ((first : NodeState S) (past : Past) → IsServing storages first past old
      → All (MayPass (later past happened out carried talk)) carried)
      → ((first : NodeState S) (past : Past) → IsServing storages first past old
      → All (MayBeSaid storages first (later past happened out carried talk)) talk)
      → Holds talk old new → Serves storages old carried talk new
  serves_by old new happened out carried talk lives takes sends tells holds = record {
    leads = λ first past is.
        let after = later past happened out carried talk in
        let grows = grows_later past happened out carried talk in
        let before = in_left past.talk talk in
        let since = in_right past.talk talk in
        let Was : NodeState S → Type 0 = WasSo storages first past.history in
        let Were : NodeState S → Type 0 = WasSo storages first after.history in
        let still = was_so_still storages first past.history happened in
        let now = is_so storages first past.history happened old.life.node is.life.life in (
          happened,
          out,
          record {
            life = lives first past is;
            takes = All-append (MayHappen first.id after) past.history happened
                (All-weaker (MayHappen first.id past) (MayHappen first.id after) (happens_still first.id past after grows) past.history
                is.takes) (takes first past is);
            sends = All-append (MayPass after) past.carried carried
                (All-weaker (MayPass past) (MayPass after) (passes_still past after grows) past.carried is.sends) (sends first past is);
            tells = All-append (MayBeSaid storages first after) past.talk talk
                (All-weaker (MayBeSaid storages first past) (MayBeSaid storages first after) (said_still storages first past after still grows)
                past.talk is.tells) (tells first past is);
            claims = each_holds (HasAsked past.talk) (HasAsked talk) (HasAsked after.talk) old.waiting.claims new.waiting.claims
                (asked_in past.talk after.talk before) (asked_in talk after.talk since) is.claims holds.claims;
            questions = each_holds (HasQueried past.talk) (HasQueried talk) (HasQueried after.talk) old.waiting.questions
                new.waiting.questions (queried_in past.talk after.talk before) (queried_in talk after.talk since) is.questions
                holds.questions;
            due = each_holds (MayBeDue Was past.talk) (MayBeDue (IsNow old) talk) (MayBeDue Were after.talk) old.waiting.due
                new.waiting.due (due_in Was Were still past.talk after.talk before) (due_in (IsNow old) Were now talk after.talk since)
                is.due holds.due;
            requests = each_holds (MayBeHandedOn past.talk) (MayBeHandedOn talk) (MayBeHandedOn after.talk) old.requests new.requests
                (request_in past.talk after.talk before) (request_in talk after.talk since) is.requests holds.requests;
          },
        );
  }

  -- ---- lives
  pub life_stays : (first : NodeState S) (history : List Happening) (handed : ToldLists) (old new : LifeState S) → new ≡ old
      → IsLifeOf storages first history handed old → IsLifeOf storages first (history ++ []) (joined handed nothing) new
  life_stays first history handed old new same h =
      subst (λ (xs : List Happening). IsLifeOf storages first xs (joined handed nothing) new) (sym (append-nil history))
      (subst (λ (told : ToldLists). IsLifeOf storages first history told new) (sym (joined_nothing handed))
      (subst (λ (l : LifeState S). IsLifeOf storages first history handed l) (sym same) h))

  life_goes : (first : NodeState S) (history : List Happening) (handed : ToldLists) (old new : LifeState S) (what : Happening)
      → IsLifeOf storages first history handed old → GoesOn storages old what new
      → IsLifeOf storages first (history ++ what ∷ []) (joined handed nothing) new
  life_goes first history handed old new what h k =
      subst (λ (told : ToldLists). IsLifeOf storages first (history ++ what ∷ []) told new) (sym (joined_nothing handed))
      (told_goes_on storages first history handed old new what h k)

  -- ---- parts of a turn in which a life hands out nothing
  -- nothing happens to the node
  pub serves_quiet : (old new : ServerState S) (carried : List Carried) (talk : List Talk) → new.life ≡ old.life
      → ((past : Past) → All (MayPass past) carried) → ((first : NodeState S) (past : Past) → All (MayBeSaid storages first past) talk) → Holds talk old new
      → Serves storages old carried talk new
  serves_quiet old new carried talk same sends tells holds =
      serves_by old new [] nothing carried talk
      (λ first past is. life_stays first past.history past.handed old.life new.life same is.life)
      (λ first past is. All-nil (MayHappen first.id (later past [] nothing carried talk)))
      (λ first past is. sends (later past [] nothing carried talk))
      (λ first past is. tells first (later past [] nothing carried talk))
      holds

  -- this happens to it
  pub serves_happening : (old new : ServerState S) (what : Happening) (carried : List Carried) (talk : List Talk)
      → GoesOn storages old.life what new.life
      → ((first : NodeState S) (past : Past) → IsServing storages first past old
      → MayHappen first.id (later past (what ∷ []) nothing carried talk) what)
      → ((past : Past) → All (MayPass past) carried) → ((first : NodeState S) (past : Past) → All (MayBeSaid storages first past) talk) → Holds talk old new
      → Serves storages old carried talk new
  serves_happening old new what carried talk goes may sends tells holds =
      serves_by old new (what ∷ []) nothing carried talk
      (λ first past is. life_goes first past.history past.handed old.life new.life what is.life goes)
      (λ first past is. let P = MayHappen first.id (later past (what ∷ []) nothing carried talk) in
      All-cons P what [] (may first past is) (All-nil P))
      (λ first past is. sends (later past (what ∷ []) nothing carried talk))
      (λ first past is. tells first (later past (what ∷ []) nothing carried talk))
      holds

  -- it does something, or memory is wanting
  pub serves_doing : {A : Type 0} (happening : Result A NodeFault → Happening) (result : Result (Unit {0}) LifeFault)
      (old new : ServerState S) (carried : List Carried) (talk : List Talk)
      → Does storages old.life happening result new.life
      → ((answer : Result A NodeFault) (first : NodeState S) (past : Past) → IsServing storages first past old
      → MayHappen first.id (later past (happening answer ∷ []) nothing carried talk) (happening answer))
      → ((past : Past) → All (MayPass past) carried) → ((first : NodeState S) (past : Past) → All (MayBeSaid storages first past) talk) → Holds talk old new
      → Serves storages old carried talk new
  serves_doing happening (Ok done) old new carried talk does may sends tells holds =
      serves_happening old new (happening (Ok does.0)) carried talk does.1 (may (Ok does.0)) sends tells holds
  serves_doing happening (Err (Node fault)) old new carried talk does may sends tells holds =
      serves_happening old new (happening (Err fault)) carried talk does (may (Err fault)) sends tells holds
  serves_doing happening (Err Memory) old new carried talk does may sends tells holds =
      serves_quiet old new carried talk does sends tells holds

  -- it takes the frame to itself that has waited longest, which it sent
  first_goes : (first : NodeState S) (history : List Happening) (handed : ToldLists) (old new : LifeState S)
      (answer : Result Response NodeFault) → IsLifeOf storages first history handed old → (takes : TakesFirst storages old answer new)
      → IsLifeOf storages first (history ++ Took (input.Message takes.first) answer ∷ []) (joined handed nothing) new
  first_goes first history handed old new answer h takes =
      let Sent : Envelope → Type 0 = Contains (flat_map (sent_at old.id) history) in
      let without : IsLifeOf storages first history handed (record old { own = takes.rest }) = record {
        number = h.number;
        life = h.life;
        told = h.told;
        own = All-rest Sent takes.first takes.rest old.own takes.waits h.own;
      } in
      life_goes first history handed (record old { own = takes.rest }) new (Took (input.Message takes.first) answer) without takes.goes_on

  first_was_sent : (first : NodeState S) (history : List Happening) (handed : ToldLists) (old new : LifeState S)
      (answer : Result Response NodeFault) → IsLifeOf storages first history handed old → (takes : TakesFirst storages old answer new)
      → Contains (flat_map (sent_at first.id) history) takes.first
  first_was_sent first history handed old new answer h takes =
      let Sent : Envelope → Type 0 = Contains (flat_map (sent_at old.id) history) in
      subst (λ (id : ℕ). Contains (flat_map (sent_at id) history) takes.first) h.number
      (All-head Sent takes.first takes.rest (All-same Sent (takes.first ∷ takes.rest) old.own (sym takes.waits) h.own))

  serves_first : (old new : ServerState S) (answer : Result Response NodeFault) → TakesFirst storages old.life answer new.life
      → Holds [] old new → Serves storages old [] [] new
  serves_first old new answer takes holds =
      let what = Took (input.Message takes.first) answer in
      serves_by old new (what ∷ []) nothing [] []
      (λ first past is. first_goes first past.history past.handed old.life new.life answer is.life takes)
      (λ first past is.
      let P = MayHappen first.id (later past (what ∷ []) nothing [] []) in
      let sent = first_was_sent first past.history past.handed old.life new.life answer is.life takes in
      All-cons P what [] (inl (((grows_later past (what ∷ []) nothing [] []).sent first.id).has takes.first sent)) (All-nil P))
      (λ first past is. All-nil (MayPass (later past (what ∷ []) nothing [] [])))
      (λ first past is. All-nil (MayBeSaid storages first (later past (what ∷ []) nothing [] [])))
      holds

  pub serves_taking_back : (result : Result Bool LifeFault) (old new : ServerState S) → TakesBack storages old.life result new.life
      → Holds [] old new → Serves storages old [] [] new
  serves_taking_back (Ok true) old new takes holds = serves_first old new (Ok takes.0) takes.1 holds
  serves_taking_back (Ok false) old new takes holds =
      serves_quiet old new [] [] takes.1 (λ past. All-nil (MayPass past)) (λ first past. All-nil (MayBeSaid storages first past)) holds
  serves_taking_back (Err (Node fault)) old new takes holds = serves_first old new (Err fault) takes holds
  serves_taking_back (Err Memory) old new same holds =
      serves_quiet old new [] [] same (λ past. All-nil (MayPass past)) (λ first past. All-nil (MayBeSaid storages first past)) holds

  -- ---- its beginning
  pub born_serves : (id count : ℕ) (storage : S) (s : ServerState S) → IsBorn storages id count storage s.life
      → s.waiting.claims ≡ [] → s.waiting.questions ≡ [] → s.waiting.due ≡ [] → s.requests ≡ []
      → (loaded : Result (Unit {0}) NodeFault) × IsServing storages (down_over id count storage) (begun loaded) s
  born_serves id count storage s born claims questions due requests =
      let begins = life_begins storages id count storage s.life born in
      let past = begun begins.0 in
      let Was : NodeState S → Type 0 = WasSo storages (down_over id count storage) past.history in (
        begins.0,
        record {
          life = begins.1;
          takes = All-cons (MayHappen id past) (Loaded begins.0) [] tt (All-nil (MayHappen id past));
          sends = All-nil (MayPass past);
          tells = All-nil (MayBeSaid storages (down_over id count storage) past);
          claims = subst (λ xs. All (HasAsked []) xs) (sym claims) (All-nil (HasAsked []));
          questions = subst (λ xs. All (HasQueried []) xs) (sym questions) (All-nil (HasQueried []));
          due = subst (λ xs. All (MayBeDue Was []) xs) (sym due) (All-nil (MayBeDue Was []));
          requests = subst (λ xs. All (MayBeHandedOn []) xs) (sym requests) (All-nil (MayBeHandedOn []));
        },
      )

-- Lives that are woven together are a run of a world, so one list explains them.
use Rattle.std.proofs.Common.{◌≡◌, ℕ, zero, suc, ◌<◌, ◌≤◌, List, [], ◌∷◌, ◌++◌, length, map, slice_get, slice_set, Bool}
use Rattle.std.proofs.Common.{Option, Some, None, IsSome, IfSome, Contains, inl, inr, if◌then◌else◌}
use Rattle.std.proofs.Common.{refl, sym, ap, ◌∙◌, subst, append-nil, append_assoc, arith}
use Rattle.std.proofs.Math.ListN.{length-set}
use Rattle.std.proofs.lemmas.Bool.{cases_eq, eq-eqb, ne_eqb}
use Rattle.std.proofs.lemmas.List.{length-map, flat_map_more}
use Rattle.std.proofs.lemmas.Option.{none-some, same_Some}
use Rattle.stable.specs.Records.{no_records}
use Rattle.stable.specs.Script.{Script}
use Rattle.stable.specs.ScriptLaws.{scripted_laws}
use Rattle.stable.specs.declared.stable.Stable.{Ghosts}
use Rattle.stable.specs.Storages.{IsLawful, scripted}
use Rattle.synod.specs.declared.ballot.TheConstants.{MOST_NODES}
use Rattle.wire.specs.declared.frames.envelope.Envelope.{Envelope}
use Rattle.events.specs.declared.event.Event.{Event}
use Rattle.node_model.specs.Loading.{IsMember, IsFresh, IsLoaded}
use Rattle.node_model.specs.Nodes.{NodeState}
use Rattle.node_model.specs.Replicas.{ReplicaState}
use Rattle.sessions.specs.SessionReplies.{outcome_code}
use Rattle.world_model.specs.declared.lists.Answered.{Answered}
use Rattle.world_model.specs.declared.lists.Replied.{Replied}
use Rattle.world_model.specs.Explaining.{IsExplained}
use Rattle.world_model.specs.Flushing.{IsStart, IsStarted}
use Rattle.world_model.specs.HandedOn.{HandedOn, handed_on}
use Rattle.world_model.specs.Lives.{Happening, Happens, Moment, IsLife, IsUnborn, AreLives, MayHappen}
use Rattle.world_model.specs.Lives.{TellsMoments, IsNodeInWorld, AreRun, AreExplained, StoragesAreHonest}
use Rattle.world_model.specs.Lives.{happenings_of, told_by, submitted_at, sent_at, learnt_at, replied_at, answered_at}
use Rattle.world_model.specs.Memberships.{IsMembership}
use Rattle.world_model.specs.Progress.{StepsAll}
use Rattle.world_model.specs.Safety.{IsSafe}
use Rattle.world_model.specs.Worlds.{WorldState}
use Rattle.world_model.proofs.OneLog.OneAnswer.{answers_one}
use Rattle.world_model.proofs.OneLog.OneReply.{replies_one}
use Rattle.world_model.proofs.OneNode.ListedPuts.{script_puts}
use Rattle.world_model.proofs.Refinement.WorldMoves.{set_there}
use Rattle.world_model.proofs.Steps.MembershipSteps.{set_at}
use Rattle.world_model.proofs.Weaving.HandedLaws.{handed_laws}
use Rattle.world_model.proofs.Weaving.Happenings.{Goes, happening_goes, steps_then}
use Rattle.world_model.proofs.Weaving.Reached.{start_membership, steps_membership, reached_safe}
use Rattle.world_model.proofs.Weaving.WithPuts.{Listed, node_with}

-- ---- lists
element_at : {A : Type 0} (xs : List A) (i : ℕ) → i < length xs → (x : A) × (slice_get xs i ≡ Some x)
element_at [] i within = absurd (omega (arith, within))
element_at (x ∷ xs) zero within = (x, refl)
element_at (x ∷ xs) (suc i) within = element_at xs i (omega (arith, within))

mapped_at : {A B : Type 0} (f : A → B) (xs : List A) (i : ℕ) (y : B) → slice_get (map f xs) i ≡ Some y
    → (x : A) × (slice_get xs i ≡ Some x) × (y ≡ f x)
mapped_at f [] i y e = absurd (none-some y e)
mapped_at f (x ∷ xs) zero y e = (x, refl, sym (same_Some (f x) y e))
mapped_at f (x ∷ xs) (suc i) y e = mapped_at f xs i y e

as_many_still : {A : Type 0} (xs : List A) (i : ℕ) (x : A) (ys : List A) (count : ℕ) → ys ≡ slice_set xs i x → length xs ≡ count
    → length ys ≡ count
as_many_still xs i x ys count e all = ap (λ (zs : List _). length zs) e ∙ length-set xs i x ∙ all

-- what one more moment tells joins what was told
told_more : {A : Type 0} (part : ℕ → Happening → List A) (past : List Moment) (m : Moment) (old new : List A) → old ≡ told_by part past
    → new ≡ old ++ part m.node m.what → new ≡ told_by part (past ++ m ∷ [])
told_more part past m old new was joins =
    joins ∙ ap (λ (xs : List _). xs ++ part m.node m.what) was
    ∙ flat_map_more (λ (x : Moment). part x.node x.what) [] past m

-- what is left of a node's life once this has happened to it, or to another
own_life : (i : ℕ) (m : Moment) (rest : List Moment) → m.node ≡ i → happenings_of i (m ∷ rest) ≡ m.what ∷ happenings_of i rest
own_life i m rest same =
    ap (λ (b : Bool). if b then m.what ∷ happenings_of i rest else happenings_of i rest) (eq-eqb m.node i same)

other_life : (i : ℕ) (m : Moment) (rest : List Moment) → (m.node ≡ i → ⊥) → happenings_of i (m ∷ rest) ≡ happenings_of i rest
other_life i m rest other =
    ap (λ (b : Bool). if b then m.what ∷ happenings_of i rest else happenings_of i rest) (ne_eqb m.node i other)

module _ {S : Type 0} {storages : Ghosts S} (laws : IsLawful storages) where
  abbrev Handed : Ghosts (Script (HandedOn S))
  Handed = scripted (handed_on storages)

  abbrev World : Type 0
  World = WorldState (HandedOn S)

  abbrev Node : Type 0
  Node = NodeState (Script (HandedOn S))

  -- node i of a world is a node whose life goes on from there to the last state
  record GoesOn (last : List (NodeState S)) (rest : List Moment) (i : ℕ) (x : Node) : Type 0 where
    now : NodeState S
    list : Listed
    is : x ≡ node_with now list
    sure : IsSome now.up → list.unsure ≡ None
    end : NodeState S
    there : slice_get last i ≡ Some end
    life : IsLife storages now (happenings_of i rest) end

  -- what is left to be shown of the moments to come
  record Leaves (moments : List Moment) (last : List (NodeState S)) (w : World) : Type 0 where
    events : List Event
    world : World
    steps : StepsAll Handed w events world
    tells : TellsMoments moments world
    all : length world.nodes ≡ length last
    nodes : (i : ℕ) (x : Node) → slice_get world.nodes i ≡ Some x → (n : NodeState S) × (slice_get last i ≡ Some n) × IsNodeInWorld n x

  at_end : (last : List (NodeState S)) (i : ℕ) (x : Node) → GoesOn last [] i x
      → (n : NodeState S) × (slice_get last i ≡ Some n) × IsNodeInWorld n x
  at_end last i x g = (
    g.end,
    g.there,
    record {
      storage = (node_with g.end g.list).storage;
      is = g.is ∙ ap (λ (n : NodeState S). node_with n g.list) (sym g.life);
      of_node = refl;
      unarmed = refl;
      unfired = refl;
    },
  )

  module _ (moments : List Moment) (count : ℕ) (last : List (NodeState S)) (as_many : length last ≡ count)
      (among : (before after : List Moment) (m : Moment) → moments ≡ before ++ m ∷ after → m.node < count)
      (comes : (before after : List Moment) (m : Moment) → moments ≡ before ++ m ∷ after
      → MayHappen count (told_by sent_at before) m.node m.what) where
    -- one moment
    record Takes (past : List Moment) (m : Moment) (rest : List Moment) (w : World) : Type 0 where
      events : List Event
      world : World
      steps : StepsAll Handed w events world
      tells : TellsMoments (past ++ m ∷ []) world
      all : length world.nodes ≡ count
      goes : (i : ℕ) (x : Node) → slice_get world.nodes i ≡ Some x → GoesOn last rest i x

    goes_there : (m : Moment) (rest : List Moment) (w : World) (i : ℕ) (y : Node) (now : NodeState S) (list : Listed) (end : NodeState S)
        → ((j : ℕ) (x : Node) → slice_get w.nodes j ≡ Some x → GoesOn last (m ∷ rest) j x)
        → slice_get last m.node ≡ Some end → IsLife storages now (happenings_of m.node rest) end
        → (IsSome now.up → list.unsure ≡ None)
        → slice_get (slice_set w.nodes m.node (node_with now list)) i ≡ Some y → m.node < length w.nodes
        → GoesOn last rest i y
    goes_there m rest w i y now list end before there life sure at within = elim (cases_eq m.node i) [
      | inl same ↦
          let stood = element_at w.nodes m.node within in
          let set = set_there w.nodes m.node (node_with now list) stood.0 stood.1 in
          let named : node_with now list ≡ y = same_Some (node_with now list) y
          (sym set ∙ subst (λ (j : ℕ). slice_get (slice_set w.nodes m.node (node_with now list)) j ≡ Some y) (sym same) at) in
          record {
            now = now;
            list = list;
            is = sym named;
            sure = sure;
            end = end;
            there = subst (λ (j : ℕ). slice_get last j ≡ Some end) same there;
            life = subst (λ (j : ℕ). IsLife storages now (happenings_of j rest) end) same life;
          }
      | inr other ↦
          let stood : slice_get w.nodes i ≡ Some y = elim (set_at w.nodes m.node i (node_with now list) y at) [
            | inl here ↦ absurd (other (sym here.0))
            | inr same ↦ same
          ] in
          let g = before i y stood in
          record {
            now = g.now;
            list = g.list;
            is = g.is;
            sure = g.sure;
            end = g.end;
            there = g.there;
            life = subst (λ (hs : List Happening). IsLife storages g.now hs g.end) (other_life i m rest other) g.life;
          }
    ]

    -- by another name of the nodes
    goes_in : (m : Moment) (rest : List Moment) (w : World) (nodes : List Node) (now : NodeState S) (list : Listed) (end : NodeState S)
        → ((j : ℕ) (x : Node) → slice_get w.nodes j ≡ Some x → GoesOn last (m ∷ rest) j x)
        → slice_get last m.node ≡ Some end → IsLife storages now (happenings_of m.node rest) end
        → (IsSome now.up → list.unsure ≡ None) → nodes ≡ slice_set w.nodes m.node (node_with now list) → m.node < length w.nodes
        → (i : ℕ) (y : Node) → slice_get nodes i ≡ Some y → GoesOn last rest i y
    goes_in m rest w nodes now list end before there life sure e within i y at =
        goes_there m rest w i y now list end before there life sure
        (subst (λ (nodes : List Node). slice_get nodes i ≡ Some y) e at) within

    one_moment : (past : List Moment) (m : Moment) (rest : List Moment) (w : World) → moments ≡ past ++ m ∷ rest
        → IsMembership w.nodes w.frames → length w.nodes ≡ count → TellsMoments past w
        → ((i : ℕ) (x : Node) → slice_get w.nodes i ≡ Some x → GoesOn last (m ∷ rest) i x) → Takes past m rest w
    one_moment past m rest w whole membership all tells before =
        let within : m.node < length w.nodes = subst (λ (k : ℕ). m.node < k) (sym all) (among past rest m whole) in
        let stood = element_at w.nodes m.node within in
        let g = before m.node stood.0 stood.1 in
        let here : slice_get w.nodes m.node ≡ Some (node_with g.now g.list) = stood.1 ∙ ap (λ (x : Node). Some x) g.is in
        let member : IsMember m.node count (node_with g.now g.list) =
        subst (λ (k : ℕ). IsMember m.node k (node_with g.now g.list)) all (membership.members m.node (node_with g.now g.list) here) in
        let life : IsLife storages g.now (m.what ∷ happenings_of m.node rest) g.end =
        subst (λ (hs : List Happening). IsLife storages g.now hs g.end) (own_life m.node m rest refl) g.life in
        let may : MayHappen count w.frames m.node m.what =
        subst (λ (sent : List Envelope). MayHappen count sent m.node m.what) (sym tells.frames) (comes past rest m whole) in
        let t : Goes laws w m.node m.what life.0 =
        happening_goes laws count w m.node g.now g.list here member g.sure m.what life.0 may life.1 in
        record {
          events = t.leads.events;
          world = t.leads.world;
          steps = t.leads.steps;
          tells = record {
            submitted = told_more submitted_at past m w.submitted t.leads.world.submitted tells.submitted t.leads.submitted;
            frames = told_more sent_at past m w.frames t.leads.world.frames tells.frames t.leads.frames;
            learnt = told_more learnt_at past m w.learnt t.leads.world.learnt tells.learnt t.leads.learnt;
            replies = told_more replied_at past m w.replies t.leads.world.replies tells.replies t.leads.replies;
            answers = told_more answered_at past m w.answers t.leads.world.answers tells.answers t.leads.answers;
          };
          all = as_many_still w.nodes m.node (node_with life.0 t.after) t.leads.world.nodes count t.leads.nodes all;
          goes = goes_in m rest w t.leads.world.nodes life.0 t.after g.end before g.there life.2 t.sure t.leads.nodes within;
        }

    weave : (past rest : List Moment) (w : World) → moments ≡ past ++ rest → IsMembership w.nodes w.frames → length w.nodes ≡ count
        → TellsMoments past w → ((i : ℕ) (x : Node) → slice_get w.nodes i ≡ Some x → GoesOn last rest i x)
        → Leaves moments last w
    weave past [] w whole membership all tells goes = record {
      events = [];
      world = w;
      steps = refl;
      tells = subst (λ (ms : List Moment). TellsMoments ms w) (sym (whole ∙ append-nil past)) tells;
      all = all ∙ sym as_many;
      nodes = λ i x at. at_end last i x (goes i x at);
    }
    weave past (m ∷ rest) w whole membership all tells goes =
        let t = one_moment past m rest w whole membership all tells goes in
        let more = weave (past ++ m ∷ []) rest t.world (whole ∙ sym (append_assoc past (m ∷ []) rest))
        (steps_membership Handed w t.events t.world t.steps membership) t.all t.tells t.goes in
        record {
          events = t.events ++ more.events;
          world = more.world;
          steps = steps_then Handed w t.events more.events t.world more.world t.steps more.steps;
          tells = more.tells;
          all = more.all;
          nodes = more.nodes;
        }

  -- ---- the start
  unused : Listed
  unused = record { failures = 0; writes = []; unsure = None; trimmed = 0 }

  start_of : List (NodeState S) → World
  start_of first = record {
    nodes = map (λ n. node_with n unused) first;
    submitted = [];
    frames = [];
    waiting = [];
    learnt = [];
    replies = [];
    answers = [];
    outcomes = [];
  }

  down_then : (o : Option ReplicaState) (P : ReplicaState → Type 0) → o ≡ None → IfSome o P
  down_then None P down = tt
  down_then (Some m) P down = absurd (none-some m (sym down))

  unborn_started : (count i : ℕ) (n : NodeState S) → IsUnborn storages count i n → IsStarted Handed i count (node_with n unused)
  unfolding unused
  unborn_started count i n h = record {
    member = record { number = h.number; of_all = h.of_all; up = λ m e. absurd (none-some m (sym h.down ∙ e)) };
    unused = record {
      empty = λ honest. h.empty honest.0;
      no_stray = λ honest. h.no_stray honest.0;
      unarmed = record { old = λ e. none-some _ e; new = λ e. none-some _ e };
      no_puts = refl;
      sure = refl;
      unfired = refl;
    };
    fresh = down_then n.up (IsFresh i count) h.down;
    up = λ honest. down_then n.up (IsLoaded no_records i count) h.down;
  }

  start_starts : (first : List (NodeState S))
      → ((i : ℕ) (n : NodeState S) → slice_get first i ≡ Some n → IsUnborn storages (length first) i n)
      → IsStart Handed (length first) (start_of first)
  unfolding start_of
  start_starts first unborn = record {
    nodes = record {
      all = length-map first (λ n. node_with n unused);
      each = λ i x at.
          let n = mapped_at (λ (n : NodeState S). node_with n unused) first i x at in
          subst (λ (y : Node). IsStarted Handed i (length first) y) (sym n.2)
          (unborn_started (length first) i n.0 (unborn i n.0 n.1));
    };
    nothing = refl;
  }

  -- the lives are a run of a world
  pub lives_run : (moments : List Moment) (first last : List (NodeState S)) → AreLives storages moments first last
      → AreRun storages moments last
  unfolding start_of unused
  lives_run moments first last h =
      let start : World = start_of first in
      let starts : IsStart Handed (length first) start = start_starts first h.unborn in
      let ends = weave moments (length first) last h.as_many h.among h.comes [] moments start refl
      (start_membership Handed (length first) start h.few starts) starts.nodes.all
      (record { submitted = refl; frames = refl; learnt = refl; replies = refl; answers = refl })
      (λ i x at.
      let n = mapped_at (λ (n : NodeState S). node_with n unused) first i x at in
      let life = h.life i n.0 n.1 in
      record {
        now = n.0;
        list = unused;
        is = n.2;
        sure = λ up. refl;
        end = life.0;
        there = life.1;
        life = life.2;
      }) in
      record {
        start = start;
        starts = subst (λ (count : ℕ). IsStart Handed count start) (sym h.as_many) starts;
        few = subst (λ (count : ℕ). count ≤ MOST_NODES) (sym h.as_many) h.few;
        events = ends.events;
        world = ends.world;
        steps = ends.steps;
        tells = ends.tells;
        all = ends.all;
        nodes = ends.nodes;
      }

  -- where every storage is honest at the end, the world that they come to is safe
  pub run_safe : (moments : List Moment) (last : List (NodeState S)) (run : AreRun storages moments last)
      → StoragesAreHonest storages last → IsSafe run.world
  run_safe moments last run honest =
      reached_safe (scripted_laws (handed_laws storages)) (λ s f h. h) (λ s f. refl)
      (script_puts (handed_on storages) (handed_laws storages))
      (length last) run.start run.events run.world run.few run.starts run.steps
      (λ i x at.
      let n = run.nodes i x at in
      let is = n.2 in
      let own : storages.IsHonest is.storage.inner.storage = subst (λ (s : S). storages.IsHonest s) (sym is.of_node) (honest i n.0 n.1) in
      subst (λ (y : Node). Handed.IsHonest y.storage) (sym is.is)
      (own, subst (λ (o : Option ℕ). IsSome o) (sym is.unfired) refl))

  -- so one list explains them
  pub lives_explained : (moments : List Moment) (first last : List (NodeState S)) → AreLives storages moments first last
      → StoragesAreHonest storages last → AreExplained moments
  lives_explained moments first last h honest =
      let run = lives_run moments first last h in
      let e = (run_safe moments last run honest).explained in
      let t = run.tells in
      subst (λ (s : List _). IsExplained s (told_by learnt_at moments) (told_by replied_at moments) (told_by answered_at moments))
      t.submitted
      (subst (λ (l : List _). IsExplained run.world.submitted l (told_by replied_at moments) (told_by answered_at moments)) t.learnt
      (subst (λ (r : List _). IsExplained run.world.submitted run.world.learnt r (told_by answered_at moments)) t.replies
      (subst (λ (a : List _). IsExplained run.world.submitted run.world.learnt run.world.replies a) t.answers e)))

  -- two answers to one query at one position are equal
  pub lives_answer_one : (moments : List Moment) (first last : List (NodeState S)) → AreLives storages moments first last
      → StoragesAreHonest storages last → (a b : Answered) → Contains (told_by answered_at moments) a
      → Contains (told_by answered_at moments) b → a.query ≡ b.query → a.position ≡ b.position → a.text ≡ b.text
  lives_answer_one moments first last h honest a b first_told second_told query position =
      let run = lives_run moments first last h in
      let listed : (c : Answered) → Contains (told_by answered_at moments) c → Contains run.world.answers c =
      λ c told. subst (λ (told_ : List Answered). Contains told_ c) (sym run.tells.answers) told in
      answers_one run.world ∣ run_safe moments last run honest ∣₁ a b (listed a first_told) (listed b second_told) query position

  -- two replies at one position have one number
  pub lives_reply_one : (moments : List Moment) (first last : List (NodeState S)) → AreLives storages moments first last
      → StoragesAreHonest storages last → (a b : Replied) → Contains (told_by replied_at moments) a
      → Contains (told_by replied_at moments) b → a.position ≡ b.position → outcome_code a.reply ≡ outcome_code b.reply
  lives_reply_one moments first last h honest a b first_told second_told position =
      let run = lives_run moments first last h in
      let listed : (c : Replied) → Contains (told_by replied_at moments) c → Contains run.world.replies c =
      λ c told. subst (λ (told_ : List Replied). Contains told_ c) (sym run.tells.replies) told in
      replies_one run.world ∣ run_safe moments last run honest ∣₁ a b (listed a first_told) (listed b second_told) position

-- ---- one life after another
module _ {S : Type 0} (storages : Ghosts S) where
  pub lives_join : (old : NodeState S) (past : List Happening) (between : NodeState S) (more : List Happening) (new : NodeState S)
      → IsLife storages old past between → IsLife storages between more new → IsLife storages old (past ++ more) new
  lives_join old [] between more new h k = subst (λ (n : NodeState S). IsLife storages n more new) h k
  lives_join old (what ∷ past) between more new h k = (h.0, h.1, lives_join h.0 past between more new h.2 k)

  pub life_goes_on : (old : NodeState S) (past : List Happening) (between : NodeState S) (what : Happening) (new : NodeState S)
      → IsLife storages old past between → Happens storages between what new → IsLife storages old (past ++ what ∷ []) new
  life_goes_on old past between what new h k = lives_join old past between (what ∷ []) new h (new, k, refl)

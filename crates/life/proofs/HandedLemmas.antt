-- What a process hands out was told in the lives of all nodes.
use Rattle.std.proofs.Common.{◌≡◌, ℕ, ◌==◌, Bool, true, false, List, [], ◌∷◌, ◌++◌, All, Contains, refl, sym, ap, ◌∙◌, subst}
use Rattle.std.proofs.Common.{if◌then◌else◌, not}
use Rattle.std.specs.List.{flat_map, filter}
use Rattle.std.proofs.lemmas.Bool.{eqb-true}
use Rattle.std.proofs.lemmas.Grind.{flat_map-append}
use Rattle.std.proofs.lemmas.List.Elements.{All-append, All-contains, All-contains_itself, All-filter, All-nil, All-weaker}
use Rattle.std.proofs.lemmas.List.Elements.{Contains-append_left, Contains-append_right}
use Rattle.stable.specs.declared.stable.Stable.{Ghosts}
use Rattle.stable.specs.Storages.{IsLawful}
use Rattle.sessions.specs.SessionReplies.{outcome_code}
use Rattle.node_model.specs.States.{NodeState}
use Rattle.world_model.specs.declared.lists.Answered.{Answered}
use Rattle.world_model.specs.declared.lists.Replied.{Replied}
use Rattle.world_model.specs.Lives.{AreLives, Happening, Moment, StoragesAreHonest, happenings_of, told_by}
use Rattle.world_model.specs.Lives.{answered_at, learnt_at, replied_at, sent_at}
use Rattle.world_model.proofs.Weaving.Woven.{lives_answer_one, lives_reply_one}
use Rattle.life.specs.Lives.{IsHandedOut, WasTold}
use Rattle.life.specs.Telling.{ToldLists, to_others}

-- part of what each happening tells is listed among all that is told
module _ {A : Type 0} (all part : ℕ → Happening → List A)
    (listed : (node : ℕ) (what : Happening) → All (Contains (all node what)) (part node what)) where
  spread_case : (i : ℕ) (m : Moment) (rest : List Moment)
      → All (Contains (told_by all rest)) (flat_map (part i) (happenings_of i rest)) → (b : Bool) → m.node == i ≡ b
      → All (Contains (told_by all (m ∷ rest)))
      (flat_map (part i) (if b then m.what ∷ happenings_of i rest else happenings_of i rest))
  spread_case i m rest before true same =
      let Told = Contains (told_by all (m ∷ rest)) in
      let here : All (Contains (all m.node m.what)) (part i m.what) =
      subst (λ (node : ℕ). All (Contains (all m.node m.what)) (part node m.what)) (eqb-true m.node i same)
      (listed m.node m.what) in
      All-append Told (part i m.what) (flat_map (part i) (happenings_of i rest))
      (All-weaker (Contains (all m.node m.what)) Told
      (λ x. Contains-append_left (all m.node m.what) (told_by all rest) x) (part i m.what) here)
      (All-weaker (Contains (told_by all rest)) Told
      (λ x. Contains-append_right (all m.node m.what) (told_by all rest) x)
      (flat_map (part i) (happenings_of i rest)) before)
  spread_case i m rest before false other =
      All-weaker (Contains (told_by all rest)) (Contains (told_by all (m ∷ rest)))
      (λ x. Contains-append_right (all m.node m.what) (told_by all rest) x)
      (flat_map (part i) (happenings_of i rest)) before

  spread : (i : ℕ) (moments : List Moment) → All (Contains (told_by all moments)) (flat_map (part i) (happenings_of i moments))
  spread i [] = All-nil (Contains [])
  spread i (m ∷ rest) = spread_case i m rest (spread i rest) (m.node == i) refl

  -- so what is handed out of a part of a life is listed there
  handed_listed : (moments : List Moment) (i : ℕ) (history before after : List Happening) (handed held : List A)
      → handed ++ held ≡ flat_map (part i) history → happenings_of i moments ≡ before ++ history ++ after
      → All (Contains (told_by all moments)) handed
  handed_listed moments i history before after handed held was within =
      let told = flat_map (part i) in
      let whole : told (happenings_of i moments) ≡ told before ++ told history ++ told after =
      ap told within ∙ flat_map-append (part i) (before ++ history) after
      ∙ ap (λ (xs : List _). xs ++ told after) (flat_map-append (part i) before history) in
      let joined : (x : A) → Contains handed x → Contains (told (happenings_of i moments)) x =
      λ x h. subst (λ (xs : List _). Contains xs x) (sym whole)
      (Contains-append_left (told before ++ told history) (told after) x
      (Contains-append_right (told before) (told history) x
      (subst (λ (xs : List _). Contains xs x) was (Contains-append_left handed held x h)))) in
      All-weaker (Contains handed) (Contains (told_by all moments))
      (λ x h. All-contains (Contains (told_by all moments)) (told (happenings_of i moments)) x (spread i moments) (joined x h))
      handed (All-contains_itself handed)

-- frames to others are frames
others_listed : (node : ℕ) (what : Happening) → All (Contains (sent_at node what)) (to_others node (sent_at node what))
others_listed node what =
    All-filter (λ e. not (e.to == node)) (Contains (sent_at node what)) (sent_at node what) (All-contains_itself (sent_at node what))

module _ {S : Type 0} (storages : Ghosts S) where
  pub handed_told : (moments : List Moment) (handed : ToldLists) → IsHandedOut storages moments handed → WasTold moments handed
  handed_told moments handed h =
      let part : happenings_of h.now.id moments ≡ h.before ++ h.history ++ h.after =
      subst (λ (id : ℕ). happenings_of id moments ≡ h.before ++ h.history ++ h.after) (sym h.life.number) h.part in
      record {
        frames = handed_listed sent_at (λ node what. to_others node (sent_at node what)) others_listed moments h.now.id h.history
            h.before h.after handed.frames h.now.held.frames (ap (λ (t : ToldLists). t.frames) h.life.told) part;
        learnt = handed_listed learnt_at learnt_at (λ node what. All-contains_itself (learnt_at node what)) moments h.now.id h.history
            h.before h.after handed.learnt h.now.held.learnt (ap (λ (t : ToldLists). t.learnt) h.life.told) part;
        replies = handed_listed replied_at replied_at (λ node what. All-contains_itself (replied_at node what)) moments h.now.id
            h.history h.before h.after handed.replies h.now.held.replies (ap (λ (t : ToldLists). t.replies) h.life.told) part;
        answers = handed_listed answered_at answered_at (λ node what. All-contains_itself (answered_at node what)) moments h.now.id
            h.history h.before h.after handed.answers h.now.held.answers (ap (λ (t : ToldLists). t.answers) h.life.told) part;
      }

module _ {S : Type 0} {storages : Ghosts S} (laws : IsLawful storages) where
  pub handed_answers_one : (moments : List Moment) (first last : List (NodeState S)) → AreLives storages moments first last
      → StoragesAreHonest storages last → (one other : ToldLists) → IsHandedOut storages moments one
      → IsHandedOut storages moments other → (a b : Answered) → Contains one.answers a → Contains other.answers b
      → a.query ≡ b.query → a.position ≡ b.position → a.text ≡ b.text
  handed_answers_one moments first last lives honest one other h k a b of_one of_other =
      let Told = Contains (told_by answered_at moments) in
      lives_answer_one laws moments first last lives honest a b
      (All-contains Told one.answers a (handed_told storages moments one h).answers of_one)
      (All-contains Told other.answers b (handed_told storages moments other k).answers of_other)

  pub handed_replies_one : (moments : List Moment) (first last : List (NodeState S)) → AreLives storages moments first last
      → StoragesAreHonest storages last → (one other : ToldLists) → IsHandedOut storages moments one
      → IsHandedOut storages moments other → (a b : Replied) → Contains one.replies a → Contains other.replies b
      → a.position ≡ b.position → outcome_code a.reply ≡ outcome_code b.reply
  handed_replies_one moments first last lives honest one other h k a b of_one of_other =
      let Told = Contains (told_by replied_at moments) in
      lives_reply_one laws moments first last lives honest a b
      (All-contains Told one.replies a (handed_told storages moments one h).replies of_one)
      (All-contains Told other.replies b (handed_told storages moments other k).replies of_other)

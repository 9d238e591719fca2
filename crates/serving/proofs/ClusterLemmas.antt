-- What the clients of all processes of a run were told.
use Rattle.std.proofs.Common.{◌≡◌, ℕ, List, Contains, sym, ap, ◌∙◌}
use Rattle.std.proofs.lemmas.List.Elements.{All-contains}
use Rattle.stable.specs.declared.stable.Stable.{Ghosts}
use Rattle.stable.specs.Storages.{IsLawful}
use Rattle.sessions.specs.SessionReplies.{outcome_code}
use Rattle.node_model.specs.Nodes.{NodeState}
use Rattle.world_model.specs.Lives.{AreLives, Moment, StoragesAreHonest, answered_at, replied_at, told_by}
use Rattle.world_model.proofs.Weaving.Woven.{lives_explained}
use Rattle.life.specs.Lives.{IsHandedOut}
use Rattle.life.proofs.HandedLemmas.{handed_answers_one, handed_replies_one, handed_told}
use Rattle.clients.specs.AnswerLines.{text_line}
use Rattle.serving.specs.Clusters.{IsLogOf, IsServed}
use Rattle.serving.specs.Turns.{IsAnswerToOwn, IsReplyToOwn, Past}

module _ {S : Type 0} (storages : Ghosts S) where
  -- what a process handed out is handed out of a part of its node's life
  pub served_handed : (moments : List Moment) (past : Past) → IsServed storages moments past → IsHandedOut storages moments past.handed
  served_handed moments past s = record {
    first = s.first;
    history = past.history;
    now = s.now.life;
    life = s.serves.life;
    before = s.before;
    after = s.after;
    part = s.part;
  }

module _ {S : Type 0} {storages : Ghosts S} (laws : IsLawful storages) where
  pub log_explains : (moments : List Moment) (first last : List (NodeState S)) → AreLives storages moments first last
      → StoragesAreHonest storages last → IsLogOf storages moments
  log_explains moments first last lives honest =
      let all = lives_explained laws moments first last lives honest in
      record {
        log = all.log;
        explains = all.explains;
        clients = λ past s.
            let was = handed_told storages moments past.handed (served_handed storages moments past s) in
            record {
              replies = λ connection text told. all.explains.replied told.replied
                  (All-contains (Contains (told_by replied_at moments)) past.handed.replies told.replied was.replies told.handed_out);
              answers = λ connection text told. all.explains.answered told.answered
                  (All-contains (Contains (told_by answered_at moments)) past.handed.answers told.answered was.answers told.handed_out);
            };
      }

  pub answers_are_one : (moments : List Moment) (first last : List (NodeState S)) → AreLives storages moments first last
      → StoragesAreHonest storages last → (one other : Past) → IsServed storages moments one → IsServed storages moments other
      → (here there : ℕ) (a b : List ℕ) → (mine : IsAnswerToOwn one here a) → (yours : IsAnswerToOwn other there b)
      → mine.answered.query ≡ yours.answered.query → mine.answered.position ≡ yours.answered.position → a ≡ b
  answers_are_one moments first last lives honest one other s t here there a b mine yours query position =
      let text = handed_answers_one laws moments first last lives honest one.handed other.handed
      (served_handed storages moments one s) (served_handed storages moments other t) mine.answered yours.answered
      mine.handed_out yours.handed_out query position in
      mine.spelled ∙ ap (λ (p : ℕ). text_line p mine.answered.text) position
      ∙ ap (λ (x : List ℕ). text_line yours.answered.position x) text ∙ sym yours.spelled

  pub replies_are_one : (moments : List Moment) (first last : List (NodeState S)) → AreLives storages moments first last
      → StoragesAreHonest storages last → (one other : Past) → IsServed storages moments one → IsServed storages moments other
      → (here there : ℕ) (a b : List ℕ) → (mine : IsReplyToOwn one here a) → (yours : IsReplyToOwn other there b)
      → mine.replied.position ≡ yours.replied.position → outcome_code mine.replied.reply ≡ outcome_code yours.replied.reply
  replies_are_one moments first last lives honest one other s t here there a b mine yours position =
      handed_replies_one laws moments first last lives honest one.handed other.handed
      (served_handed storages moments one s) (served_handed storages moments other t) mine.replied yours.replied
      mine.handed_out yours.handed_out position

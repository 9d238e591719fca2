-- What a machine keeps and answers is that of each list that it stands for.
use Rattle.std.proofs.Common.{◌≡◌, ℕ, suc, ◌<◌, ◌≤◌, inl, inr, List, [], ◌∷◌, length, Option, Some, None, refl, sym, ap, ◌∙◌, subst, arith}
use Rattle.std.proofs.lemmas.Bool.Decides.{nat_tests}
use Rattle.store.specs.Answers.{IsAnswer}
use Rattle.store.specs.Operations.{reply}
use Rattle.store.specs.declared.query.Query.{Query}
use Rattle.store.specs.declared.reply.Reply.{Reply}
use Rattle.mfjson.specs.declared.feature.Feature.{Feature}
use Rattle.sessions.specs.Machines.{MachineState, IsMachine, kept_of}
use Rattle.sessions.specs.Meaning.{Database, HasCounted, Execution, IsLastOf}
use Rattle.sessions.specs.Sessions.{session_of}
use Rattle.sessions.specs.Standing.{IsKeptOf, StandsFor, KeepsLast, AnswersAll}
use Rattle.sessions.specs.declared.command.Command.{Command}
use Rattle.sessions.specs.declared.session.Session.{Session}
use Rattle.sessions.proofs.Counting.{same_number}
use Rattle.sessions.proofs.Executions.{executed, same_before, counted_too, counted_back}

-- ---- the machine that has executed nothing
pub stands_for_nothing : (m : MachineState) → m.features ≡ [] → ((client : ℕ) → session_of m.sessions client ≡ None) →
    StandsFor m []
stands_for_nothing m no_features no_sessions = record {
  execution = executed [];
  features = no_features ∙ sym (executed []).starts;
  sessions = λ client.
      subst (λ (o : Option Session). IsKeptOf (executed []) client o) (sym (no_sessions client))
      (λ number c. let h : c.place < 0 = c.earlier in omega (arith, h));
}

-- ---- what is kept
pub kept_same : (k : Session) (number : ℕ) (told : Reply) → kept_of (Some k) number ≡ Some told →
    (k.number ≡ number) × (k.reply ≡ told)
kept_same k number told h = elim (same_number k.number number) [
  | inl same ↦
      let there : kept_of (Some k) number ≡ Some k.reply = grind (arith, nat_tests, same) in
      (same, (let both : Some k.reply ≡ Some told = sym there ∙ h in cc))
  | inr other ↦
      let none : kept_of (Some k) number ≡ None = grind (arith, nat_tests, other) in
      absurd (let both : None ≡ Some told = sym none ∙ h in cc)
]

kept_there : (k : Session) (number : ℕ) (told : Reply) → k.number ≡ number → k.reply ≡ told →
    kept_of (Some k) number ≡ Some told
kept_there k number told same reply =
    let there : kept_of (Some k) number ≡ Some k.reply = grind (arith, nat_tests, same) in
    there ∙ ap (λ (r : Reply). Some r) reply

module _ (l : List Command) (e : Execution l) (client number : ℕ) (told : Reply) where
  last_when_kept : (o : Option Session) → IsKeptOf e client o → kept_of o number ≡ Some told →
      IsLastOf e client number told
  last_when_kept None none h = absurd (cc)
  last_when_kept (Some k) kept h =
      let same = kept_same k number told h in
      subst (λ (r : Reply). IsLastOf e client number r) same.1
      (subst (λ n. IsLastOf e client n k.reply) same.0 kept)

  pub kept_when_last : (o : Option Session) → IsKeptOf e client o → (f : Execution l) → IsLastOf f client number told →
      kept_of o number ≡ Some told
  kept_when_last None none f last = absurd (none number (counted_back l e f (length l) client number last.counted))
  kept_when_last (Some k) kept f last =
      let most : number ≤ k.number = kept.last number (counted_back l e f (length l) client number last.counted) in
      let least : k.number ≤ number = last.last k.number (counted_too l e f (length l) client k.number kept.counted) in
      let same : number ≡ k.number = omega (arith, most, least) in
      let c : HasCounted l e.counts (length l) client k.number = record {
        place = last.counted.place;
        earlier = last.counted.earlier;
        counted = (counted_back l e f (length l) client number last.counted).counted;
        request = last.counted.request;
        there = last.counted.there;
        of_client = last.counted.of_client;
        of_number = last.counted.of_number ∙ same;
      } in
      kept_there k number told (sym same)
      (kept.replied c
      ∙ ap (λ (d : Database). reply d last.counted.request.op) (same_before l e f last.counted.place)
      ∙ sym (last.replied last.counted))

pub keeps_last : (m : MachineState) (client number : ℕ) (told : Option Reply) →
    told ≡ kept_of (session_of m.sessions client) number → KeepsLast m client number told
keeps_last m client number told kept = record {
  last = λ l s reply. (
    λ h. record {
      execution = s.execution;
      is_last =
          last_when_kept l s.execution client number reply (session_of m.sessions client) (s.sessions client)
          (sym kept ∙ h);
    },
    λ h.
        kept
        ∙ kept_when_last l s.execution client number reply (session_of m.sessions client) (s.sessions client) h.execution
        h.is_last,
  );
}

-- ---- what is answered
pub answers_all : (m : MachineState) (query : Query) (text : List ℕ) → IsAnswer m.features query text →
    AnswersAll m query text
answers_all m query text answer = record {
  answers = λ l s. record {
    execution = s.execution;
    says = subst (λ (fs : List Feature). IsAnswer fs query text) s.features answer;
  };
}

-- ---- a list has one machine
module _ (l : List Command) (e f : Execution l) (client : ℕ) where
  one_session : (o p : Option Session) → IsKeptOf e client o → IsKeptOf f client p → o ≡ p
  one_session None None a b = refl
  one_session None (Some k) a b = absurd (a k.number (counted_back l e f (length l) client k.number b.counted))
  one_session (Some k) None a b = absurd (b k.number (counted_too l e f (length l) client k.number a.counted))
  one_session (Some k) (Some j) a b =
      let same = kept_same k j.number j.reply (kept_when_last l e client j.number j.reply (Some k) a f b) in
      let is : k ≡ j = λ i. record { number = same.0 i; reply = same.1 i } in
      ap (λ (s : Session). Some s) is

same_tables : (t u : List (Option Session)) → length t ≡ length u → ((client : ℕ) → session_of t client ≡ session_of u client) → t ≡ u
same_tables [] [] len same = refl
same_tables [] (o ∷ u) len same = absurd (omega (arith, len))
same_tables (o ∷ t) [] len same = absurd (omega (arith, len))
same_tables (o ∷ t) (p ∷ u) len same =
    ap (λ (x : Option Session). x ∷ t) (same 0)
    ∙ ap (λ (x : List (Option Session)). p ∷ x) (same_tables t u (omega (arith, len)) (λ client. same (suc client)))

pub one_machine : (l : List Command) (m n : MachineState) → IsMachine m → IsMachine n → StandsFor m l → StandsFor n l → m ≡ n
one_machine l m n is_m is_n s t =
    let features : m.features ≡ n.features = s.features ∙ same_before l s.execution t.execution (length l) ∙ sym t.features in
    let sessions : m.sessions ≡ n.sessions = same_tables m.sessions n.sessions (is_m.clients ∙ sym is_n.clients)
    (λ client. one_session l s.execution t.execution client _ _ (s.sessions client) (t.sessions client)) in
    λ i. record { features = features i; sessions = sessions i }

-- A line that spells an action says a value at each place of a row, and the values make the action.
use Rattle.std.proofs.Common.{◌≡◌, ◌≢◌, ℕ, List, [], ◌∷◌, Option, None, Some, codes, drop, refl, sym, ap, subst, arith}
use Rattle.store.specs.declared.op.Op.{Op}
use Rattle.store.specs.declared.query.Query.{Query}
use Rattle.events.specs.declared.event.Event.TheVariants as event
use Rattle.schedule.specs.Spelling.{WordsSpell, op_made, query_made}
use Rattle.schedule.specs.Table.{Place, a_document, Row, line_of, submit_of, query_of, places, width, words_at}
use Rattle.schedule.specs.Table.{IsOfForm, Value, PlaceSays, Values, SayEach, HasItsCount, HasItsWords}
use Rattle.schedule.specs.declared.action.Action.{Action}
use Rattle.schedule.specs.declared.action.Action.TheVariants.{Step, Flush, Round}
use Rattle.schedule.specs.declared.keyword.Keyword.TheVariants as keyword
use Rattle.schedule.proofs.Faults.{AllFit, IsRowOf, fit_its_words, one_row}
use Rattle.schedule.proofs.RowLemmas.{op_count, query_count}

-- the action, made of the values at the row's places; the row of a first line makes none
abbrev pub action_made : (row : Row) → Values (places row) → Option Action
action_made (line_of keyword.Nodes) _ = None
action_made (line_of keyword.Deliver) (_, (frame, _)) = Some (Step (event.Deliver frame))
action_made (line_of keyword.Drop) (_, (frame, _)) = Some (Step (event.Drop frame))
action_made (line_of keyword.Flush) _ = Some Flush
action_made (line_of keyword.Timeout) (_, (node, _)) = Some (Step (event.Timeout node))
action_made (line_of keyword.Tick) (_, (node, _)) = Some (Step (event.Tick node))
action_made (line_of keyword.Checkpoint) (_, (node, _)) = Some (Step (event.Checkpoint node))
action_made (line_of keyword.Trim) (_, (node, _)) = Some (Step (event.Trim node))
action_made (line_of keyword.Restart) (_, (node, _)) = Some (Step (event.Restart node))
action_made (line_of keyword.Fault) (_, (node, (failing, _))) = Some (Step (event.Fault node failing))
action_made (line_of keyword.Round) (_, (node, (members, _))) = Some (Round node members)
action_made (submit_of operation) (_, (node, (client, (number, (_, values))))) =
    Some (Step (event.Submit node (record { client = client; number = number; op = op_made operation values })))
action_made (query_of question) (_, (node, (_, values))) = Some (Step (event.Query node (query_made question values)))

-- the words are a line of this row, and its values make the action
pub record IsLine (n : ℕ) (words : List (List ℕ)) (action : Action) (row : Row) : Type 0 where
  pub values : Values (places row)
  pub its_count : HasItsCount (places row) words
  pub said : SayEach n (places row) words values
  pub made : action_made row values ≡ Some action

-- a line that spells an action is one of a row
pub by_places : (n : ℕ) (words : List (List ℕ)) (action : Action) → WordsSpell n words action
    → (row : Row) × IsLine n words action row
by_places n words (Step (event.Submit node asked)) (operation, s, (values, said, made)) = (
  submit_of operation,
  record {
    values = (tt, (node, (asked.client, (asked.number, (tt, values)))));
    its_count = rw s.words_are ((op_count operation s.node_word s.client_word s.number_word s.others).0 said.0);
    said = rw s.words_are (refl, (s.to_node, (s.of_client, (s.under_number, (refl, said.1)))));
    made = ap (λ (o : Op). Some (Step (event.Submit node (record { client = asked.client; number = asked.number; op = o })))) (sym made);
  },
)
by_places n words (Step (event.Query node asked)) (question, s, (values, said, made)) = (
  query_of question,
  record {
    values = (tt, (node, (tt, values)));
    its_count = rw s.words_are ((query_count question s.node_word s.others).0 said.0);
    said = rw s.words_are (refl, (s.to_node, (refl, said.1)));
    made = ap (λ (q : Query). Some (Step (event.Query node q))) (sym made);
  },
)
by_places n words (Step (event.Deliver frame)) (others, e, (word, one, w)) = (
  line_of keyword.Deliver,
  record { values = (tt, (frame, tt)); its_count = rw (e, one) refl; said = rw (e, one) (refl, (w, tt)); made = refl },
)
by_places n words (Step (event.Drop frame)) (others, e, (word, one, w)) = (
  line_of keyword.Drop,
  record { values = (tt, (frame, tt)); its_count = rw (e, one) refl; said = rw (e, one) (refl, (w, tt)); made = refl },
)
by_places n words Flush (others, e, none) =
    (line_of keyword.Flush, record { values = (tt, tt); its_count = rw (e, none) refl; said = rw e (refl, tt); made = refl })
by_places n words (Round node members) (others, e, s) = (
  line_of keyword.Round,
  record {
    values = (tt, (node, (members, tt)));
    its_count = rw (e, s.words_are) (omega (arith, s.some));
    said = rw (e, s.words_are) (refl, (s.leader, (s.named, tt)));
    made = refl;
  },
)
by_places n words (Step (event.Timeout node)) (others, e, (word, one, w)) = (
  line_of keyword.Timeout,
  record { values = (tt, (node, tt)); its_count = rw (e, one) refl; said = rw (e, one) (refl, (w, tt)); made = refl },
)
by_places n words (Step (event.Tick node)) (others, e, (word, one, w)) = (
  line_of keyword.Tick,
  record { values = (tt, (node, tt)); its_count = rw (e, one) refl; said = rw (e, one) (refl, (w, tt)); made = refl },
)
by_places n words (Step (event.Checkpoint node)) (others, e, (word, one, w)) = (
  line_of keyword.Checkpoint,
  record { values = (tt, (node, tt)); its_count = rw (e, one) refl; said = rw (e, one) (refl, (w, tt)); made = refl },
)
by_places n words (Step (event.Trim node)) (others, e, (word, one, w)) = (
  line_of keyword.Trim,
  record { values = (tt, (node, tt)); its_count = rw (e, one) refl; said = rw (e, one) (refl, (w, tt)); made = refl },
)
by_places n words (Step (event.Restart node)) (others, e, (word, one, w)) = (
  line_of keyword.Restart,
  record { values = (tt, (node, tt)); its_count = rw (e, one) refl; said = rw (e, one) (refl, (w, tt)); made = refl },
)
by_places n words (Step (event.Fault node failing)) (others, e, (word, two, w)) = (
  line_of keyword.Fault,
  record { values = (tt, (node, (failing, tt))); its_count = rw (e, two) refl; said = rw (e, two) (refl, (w, (refl, tt))); made = refl },
)

-- ---- what words say, fits
value_fits : (n : ℕ) (place : Place) (words : List (List ℕ)) (value : Value place) → PlaceSays n place words value → IsOfForm n place words
value_fits n a_document words value says = tt
value_fits n _ words value says = (value, says)

values_fit : (n : ℕ) (at : List Place) (words : List (List ℕ)) (values : Values at) → SayEach n at words values → AllFit n at words
values_fit n [] words values s = tt
values_fit n (place ∷ others) words values s =
    (value_fits n place (words_at place words) values.0 s.0, values_fit n others (drop (width place) words) values.1 s.1)

-- ---- a line is of no other row
pub line_words : (n : ℕ) (words : List (List ℕ)) (action : Action) (row : Row) → IsLine n words action row
    → HasItsWords (places row) words
line_words n words action row l =
    fit_its_words n (places row) words (values_fit n (places row) words l.values l.said)

-- a line that spells an action is of the row whose words it has
pub of_row : (n : ℕ) (words : List (List ℕ)) (action : Action) (row : Row) → WordsSpell n words action
    → HasItsWords (places row) words → IsLine n words action row
of_row n words action row s its =
    let l = by_places n words action s in
    let same : l.0 ≡ row = one_row words l.0 row l.1.its_count (line_words n words action l.0 l.1) its in
    subst (λ (r : Row). IsLine n words action r) same l.1

-- and it is no first line
no_first_line : (n : ℕ) (words : List (List ℕ)) (action : Action) → WordsSpell n words action → (others : List (List ℕ))
    → words ≢ codes "nodes" ∷ others
no_first_line n words action s others same =
    let l = of_row n words action (line_of keyword.Nodes) s (rw same (refl, tt)) in
    let made : None ≡ Some action = l.made in
    cc

pub row_of : (n : ℕ) (words : List (List ℕ)) (action : Action) → WordsSpell n words action → IsRowOf n words
row_of n words action s =
    let l = by_places n words action s in
    record {
      row = l.0;
      fit = values_fit n (places l.0) words l.1.values l.1.said;
      its_count = l.1.its_count;
      no_nodes = no_first_line n words action s;
    }

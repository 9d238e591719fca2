-- The text of a list of commands, and of the machines that stand for it.
use Rattle.std.proofs.Common.{◌≡◌, ℕ, zero, suc, ◌+◌, ◌<◌, ◌≤◌, ◌↔◌, ◌⊎◌, inl, inr, List, [], ◌∷◌, length, Option, Some, None, slice_index_or}
use Rattle.std.proofs.Common.{Result, Ok, Err, IfOk, OnOk, refl, sym, ap, ◌∙◌, subst, arith}
use Rattle.std.proofs.lemmas.Bool.{cases_lt}
use Rattle.std.specs.Prelude.{Contains}
use Rattle.mfjson.specs.declared.feature.Feature.{Feature}
use Rattle.store.specs.Operations.{reply}
use Rattle.store.specs.declared.reply.Reply.{Reply}
use Rattle.sessions.specs.declared.submission.Submission.{Submission}
use Rattle.sessions.specs.Machines.{MachineState}
use Rattle.sessions.specs.Meaning.{Database, HasCounted, IsNext, IsRequestAt, Execution, IsLastOf}
use Rattle.sessions.specs.Sessions.{session_of}
use Rattle.sessions.specs.Snapshots.{IsSnapshot, MachineFits, PartsFit, AscendFrom, text_bytes, snapshot_bytes, held, held_from}
use Rattle.sessions.specs.Standing.{IsKeptOf, StandsFor}
use Rattle.sessions.specs.declared.command.Command.{Command}
use Rattle.sessions.specs.declared.command.Command.TheVariants.{NoOp, Request}
use Rattle.sessions.specs.declared.session.Held.{Held}
use Rattle.sessions.specs.declared.session.Session.{Session}
use Rattle.sessions.proofs.Counting.{has_counted_or_not}
use Rattle.sessions.proofs.Executions.{same_counts, same_before, counted_too, counted_back}
use Rattle.sessions.proofs.Keeping.{kept_same, kept_when_last}
use Rattle.sessions.proofs.TableLemmas.{one_of}
use Rattle.sessions.proofs.TextLaws.{held_ascends, one_parts}
use Rattle.sessions.proofs.Turns.{each_lesser}

-- ---- members of a list
which : {X : Type 0} (x : X) (xs : List X) (y : X) → Contains (x ∷ xs) y → (x ≡ y) ⊎ Contains xs y
which {X} x xs y c = at c.0 c.1 c.2
  where
    at : (k : ℕ) → k < length (x ∷ xs) → slice_index_or (x ∷ xs) k y ≡ y → (x ≡ y) ⊎ Contains xs y
    at zero lt e = inl e
    at (suc k) lt e = inr (k, omega (arith, lt), e)

first : {X : Type 0} (x : X) (xs : List X) (y : X) → x ≡ y → Contains (x ∷ xs) y
first x xs y e = (0, omega arith, e)

further : {X : Type 0} (x : X) (xs : List X) (y : X) → Contains xs y → Contains (x ∷ xs) y
further x xs y c = (suc c.0, let lt = c.1 in omega (arith, lt), c.2)

none_in : {X : Type 0} (y : X) → Contains [] y → ⊥
none_in y c = let lt = c.1 in omega (arith, lt)

-- ---- the clients of a table
held_has : (k : ℕ) (table : List (Option Session)) (c : ℕ) (s : Session) → session_of table c ≡ Some s
    → Contains (held_from k table) (one_of (k + c) s)
held_has k [] c s e = absurd (cc)
held_has k (None ∷ more) zero s e = absurd (cc)
held_has k (Some r ∷ more) zero s e =
    let same : r ≡ s = cc in
    let at : k ≡ k + 0 = omega arith in
    first (one_of k r) (held_from (k + 1) more) (one_of (k + 0) s) (λ i. one_of (at i) (same i))
held_has k (None ∷ more) (suc c) s e =
    let at : k + 1 + c ≡ k + suc c = omega arith in
    subst (λ (i : ℕ). Contains (held_from (k + 1) more) (one_of i s)) at (held_has (k + 1) more c s e)
held_has k (Some r ∷ more) (suc c) s e =
    let at : k + 1 + c ≡ k + suc c = omega arith in
    further (one_of k r) (held_from (k + 1) more) (one_of (k + suc c) s)
    (subst (λ (i : ℕ). Contains (held_from (k + 1) more) (one_of i s)) at (held_has (k + 1) more c s e))

in_held : (k : ℕ) (table : List (Option Session)) (h : Held) → Contains (held_from k table) h
    → (c : ℕ) × (h.client ≡ k + c) × (session_of table c ≡ Some h.session)
in_held k [] h c = absurd (none_in h c)
in_held k (None ∷ more) h c =
    let r = in_held (k + 1) more h c in
    let at = r.1 in
    (suc r.0, omega (arith, at), r.2)
in_held k (Some s ∷ more) h c = elim (which (one_of k s) (held_from (k + 1) more) h c) [
  | inl same ↦
      let at : k ≡ h.client = ap (λ (g : Held). g.client) same in
      (0, omega (arith, at), ap (λ (g : Held). Some g.session) same)
  | inr rest ↦
      let r = in_held (k + 1) more h rest in
      let at = r.1 in
      (suc r.0, omega (arith, at), r.2)
]

kept_in : (table : List (Option Session)) (h : Held) → Contains (held table) h → session_of table h.client ≡ Some h.session
kept_in table h c =
    let r = in_held 0 table h c in
    let is = r.1 in
    let at : r.0 ≡ h.client = omega (arith, is) in
    subst (λ (i : ℕ). session_of table i ≡ Some h.session) at r.2

kept_has : (table : List (Option Session)) (client : ℕ) (s : Session) → session_of table client ≡ Some s
    → Contains (held table) (one_of client s)
kept_has table client s e =
    let at : 0 + client ≡ client = omega arith in
    subst (λ (i : ℕ). Contains (held table) (one_of i s)) at (held_has 0 table client s e)

-- ---- what a machine keeps is the last of each client
module _ (l : List Command) (e : Execution l) (client : ℕ) (s : Session) where
  last_of_kept : (o : Option Session) → IsKeptOf e client o → o ≡ Some s → IsLastOf e client s.number s.reply
  last_of_kept o kept is = subst (λ (p : Option Session). IsKeptOf e client p) is kept

  kept_of_last : (o : Option Session) → IsKeptOf e client o → IsLastOf e client s.number s.reply → o ≡ Some s
  kept_of_last None none last = absurd (none s.number last.counted)
  kept_of_last (Some k) kept last =
      let same = kept_same k s.number s.reply (kept_when_last l e client s.number s.reply (Some k) kept e last) in
      let is : k ≡ s = λ i. record { number = same.0 i; reply = same.1 i } in
      ap (λ (x : Session). Some x) is

each_is_last : (l : List Command) (e : Execution l) (table : List (Option Session))
    → ((client : ℕ) → IsKeptOf e client (session_of table client))
    → (h : Held) → Contains (held table) h ↔ IsLastOf e h.client h.session.number h.session.reply
each_is_last l e table kept h = (
  λ c. last_of_kept l e h.client h.session (session_of table h.client) (kept h.client) (kept_in table h c),
  λ last.
      kept_has table h.client h.session
      (kept_of_last l e h.client h.session (session_of table h.client) (kept h.client) last),
)

-- the machine's text is that of each list that it stands for
pub tells_each : (m : MachineState) → MachineFits m → (l : List Command) → StandsFor m l → IsSnapshot l (snapshot_bytes m)
tells_each m fits l s = record {
  execution = s.execution;
  clients = held m.sessions;
  ascend = held_ascends 0 0 m.sessions (omega arith);
  each = each_is_last l s.execution m.sessions s.sessions;
  fits = subst (λ (fs : List Feature). PartsFit fs (held m.sessions)) s.features fits.parts;
  is = ap (λ (fs : List Feature). text_bytes fs (held m.sessions)) s.features;
}

-- of a result, one fact of its value and one of success make a third
pub with_both : {X E : Type 0} (r : Result X E) (P R : X → Type 0) (Q : Type 0) → ((x : X) → P x → Q → R x)
    → IfOk r P → OnOk r Q → IfOk r R
with_both (Ok x) P R Q f p q = f x p q
with_both (Err e) P R Q f p q = tt

-- ---- a client that has counted has a last number
-- no request of the list has a greater number
bound : List Command → ℕ
bound [] = 0
bound (NoOp ∷ l) = bound l
bound (Request r ∷ l) = r.number + bound l

within_bound : (l : List Command) (i : ℕ) (r : Submission) → IsRequestAt l i r → r.number ≤ bound l
unfolding bound
within_bound [] i r e = absurd (cc)
within_bound (NoOp ∷ l) zero r e = absurd (cc)
within_bound (Request q ∷ l) zero r e =
    let same : q ≡ r = cc in
    let number : q.number ≡ r.number = ap (λ (a : Submission). a.number) same in omega (arith, number)
within_bound (NoOp ∷ l) (suc i) r e = within_bound l i r e
within_bound (Request q ∷ l) (suc i) r e = let le = within_bound l i r e in omega (arith, le)

module _ (l : List Command) (e : Execution l) (client : ℕ) where
  abbrev Counted : ℕ → Type 0
  Counted number = HasCounted l e.counts (length l) client number

  bounded : (number : ℕ) → Counted number → number ≤ bound l
  bounded number c = subst (λ (n : ℕ). n ≤ bound l) c.of_number (within_bound l c.place c.request c.there)

  greatest : (fuel number : ℕ) → Counted number → bound l ≤ number + fuel
      → (n : ℕ) × Counted n × ((other : ℕ) → Counted other → other ≤ n)
  greatest zero number c enough =
      (number, c, λ other d. let le = bounded other d in omega (arith, le, enough))
  greatest (suc fuel) number c enough = elim (has_counted_or_not l e.counts (length l) client (number + 1)) [
    | inl more ↦ greatest fuel (number + 1) more (omega (arith, enough))
    | inr none ↦ (
      number,
      c,
      λ other d. elim (cases_lt number other) [
        | inl above ↦ absurd (none (each_lesser l e client (number + 1) other (omega arith) (omega (arith, above)) d))
        | inr le ↦ le
      ],
    )
  ]

  the_request : (i : ℕ) (q r : Submission) → IsRequestAt l i q → IsRequestAt l i r → q ≡ r
  the_request i q r f g = let both : Some (Request q) ≡ Some (Request r) = sym f ∙ g in cc

  -- a number counts at one place
  no_earlier : (number : ℕ) (c d : Counted number) → c.place < d.place → ⊥
  no_earlier number c d lt =
      let next : IsNext l e.counts d.place = (e.lawful d.place).0 d.counted in
      let same : next.request ≡ d.request = the_request d.place next.request d.request next.there d.there in
      next.once (record {
        place = c.place;
        earlier = lt;
        counted = c.counted;
        request = c.request;
        there = c.there;
        of_client = c.of_client ∙ sym d.of_client ∙ sym (ap (λ (r : Submission). r.client) same);
        of_number = c.of_number ∙ sym d.of_number ∙ sym (ap (λ (r : Submission). r.number) same);
      })

  one_place : (number : ℕ) (c d : Counted number) → c.place ≡ d.place
  one_place number c d = elim (cases_lt c.place d.place) [
    | inl below ↦ absurd (no_earlier number c d below)
    | inr le ↦ elim (cases_lt d.place c.place) [
      | inl above ↦ absurd (no_earlier number d c above)
      | inr ge ↦ omega (arith, le, ge)
    ]
  ]

  replied_one : (number : ℕ) (c d : Counted number)
      → reply (e.before c.place) c.request.op ≡ reply (e.before d.place) d.request.op
  replied_one number c d =
      let at = one_place number c d in
      let same = the_request d.place c.request d.request (subst (λ (i : ℕ). IsRequestAt l i c.request) at c.there) d.there in
      λ i. reply (e.before (at i)) (same i).op

  has_last : (number : ℕ) → Counted number → (s : Session) × IsLastOf e client s.number s.reply
  has_last number c =
      let it = greatest (bound l) number c (omega arith) in
      let told = reply (e.before it.1.place) it.1.request.op in
      let s : Session = record { number = it.0; reply = told } in
      (s, record { counted = it.1; last = it.2; replied = replied_one it.0 it.1 })

-- a machine with the text of a list stands for it
module _ (m : MachineState) (l : List Command) (text : List ℕ) (x : IsSnapshot l text) (fits : MachineFits m)
    (spelled : snapshot_bytes m ≡ text) where
  same_parts : (m.features ≡ x.execution.before (length l)) × (held m.sessions ≡ x.clients)
  same_parts =
      one_parts m.features (x.execution.before (length l)) (held m.sessions) x.clients fits.parts
      (held_ascends 0 0 m.sessions (omega arith)) x.fits x.ascend (spelled ∙ x.is)

  keeps : (client : ℕ) (o : Option Session) → session_of m.sessions client ≡ o → IsKeptOf x.execution client o
  keeps client None is = λ number counted.
      let it = has_last l x.execution client number counted in
      let there : Contains x.clients (one_of client it.0) = (x.each (one_of client it.0)).1 it.1 in
      let kept = kept_in m.sessions (one_of client it.0)
      (subst (λ (hs : List Held). Contains hs (one_of client it.0)) (sym same_parts.1) there) in
      absurd (let both : None ≡ Some it.0 = sym is ∙ kept in cc)
  keeps client (Some s) is =
      (x.each (one_of client s)).0
      (subst (λ (hs : List Held). Contains hs (one_of client s)) same_parts.1 (kept_has m.sessions client s is))

  pub stands_for : StandsFor m l
  stands_for = record {
    execution = x.execution;
    features = same_parts.0;
    sessions = λ client. keeps client (session_of m.sessions client) refl;
  }

-- ---- a list has one text
module _ (l : List Command) (e f : Execution l) (client number : ℕ) (told : Reply) where
  last_too : IsLastOf e client number told → IsLastOf f client number told
  last_too last = record {
    counted = counted_too l e f (length l) client number last.counted;
    last = λ other c. last.last other (counted_back l e f (length l) client other c);
    replied = λ c.
        let d : HasCounted l e.counts (length l) client number = record {
          place = c.place;
          earlier = c.earlier;
          counted = same_counts l e f c.place ∙ c.counted;
          request = c.request;
          there = c.there;
          of_client = c.of_client;
          of_number = c.of_number;
        } in
        last.replied d ∙ ap (λ (b : Database). reply b c.request.op) (same_before l e f c.place);
  }

at_least : (from : ℕ) (hs : List Held) → AscendFrom from hs → (h : Held) → Contains hs h → from ≤ h.client
at_least from [] ascend h c = absurd (none_in h c)
at_least from (g ∷ hs) ascend h c =
    let low = ascend.0 in
    elim (which g hs h c) [
      | inl same ↦ subst (λ (x : Held). from ≤ x.client) same low
      | inr rest ↦ let more = at_least (g.client + 1) hs ascend.1 h rest in omega (arith, more, low)
    ]

-- of one list of members, ascending
same_clients : (from : ℕ) (hs is : List Held) → AscendFrom from hs → AscendFrom from is
    → ((h : Held) → Contains hs h → Contains is h) → ((h : Held) → Contains is h → Contains hs h) → hs ≡ is
same_clients from [] [] a b forth back = refl
same_clients from [] (i ∷ is) a b forth back = absurd (none_in i (back i (first i is i refl)))
same_clients from (h ∷ hs) [] a b forth back = absurd (none_in h (forth h (first h hs h refl)))
same_clients from (h ∷ hs) (i ∷ is) a b forth back =
    ap (λ (x : Held). x ∷ hs) heads
    ∙ ap (λ (xs : List Held). i ∷ xs) (same_clients (i.client + 1) hs is ascend b.1 rest_forth rest_back)
  where
    heads : h ≡ i
    heads = elim (which i is h (forth h (first h hs h refl))) [
      | inl same ↦ sym same
      | inr later ↦ elim (which h hs i (back i (first i is i refl))) [
        | inl same ↦ same
        | inr other ↦
            let above = at_least (i.client + 1) is b.1 h later in
            let below = at_least (h.client + 1) hs a.1 i other in absurd (omega (arith, above, below))
      ]
    ]

    ascend : AscendFrom (i.client + 1) hs
    ascend = subst (λ (x : Held). AscendFrom (x.client + 1) hs) heads a.1

    rest_forth : (x : Held) → Contains hs x → Contains is x
    rest_forth x c = elim (which i is x (forth x (further h hs x c))) [
      | inl same ↦
          let above = at_least (i.client + 1) hs ascend x c in
          let at : i.client ≡ x.client = ap (λ (y : Held). y.client) same in absurd (omega (arith, above, at))
      | inr rest ↦ rest
    ]

    rest_back : (x : Held) → Contains is x → Contains hs x
    rest_back x c = elim (which h hs x (back x (further i is x c))) [
      | inl same ↦
          let above = at_least (i.client + 1) is b.1 x c in
          let at : i.client ≡ x.client = ap (λ (y : Held). y.client) (sym heads ∙ same) in absurd (omega (arith, above, at))
      | inr rest ↦ rest
    ]

pub one_snapshot : (l : List Command) (a b : List ℕ) → IsSnapshot l a → IsSnapshot l b → a ≡ b
one_snapshot l a b x y =
    let features = same_before l x.execution y.execution (length l) in
    let clients : x.clients ≡ y.clients = same_clients 0 x.clients y.clients x.ascend y.ascend
    (λ h c. (y.each h).1 (last_too l x.execution y.execution h.client h.session.number h.session.reply ((x.each h).0 c)))
    (λ h c. (x.each h).1 (last_too l y.execution x.execution h.client h.session.number h.session.reply ((y.each h).0 c))) in
    x.is ∙ (λ i. text_bytes (features i) (clients i)) ∙ sym y.is

-- What calls make of a storage's list of writes.
use Rattle.std.proofs.Common.{◌≡◌, ◌⊎◌, ℕ, List, [], ◌∷◌, ◌++◌, Bool, true, false, IsTrue, Option, Some, None, Contains, nat_lt, max, inl, inr}
use Rattle.std.proofs.Common.{refl, sym, ap, subst, ◌∙◌, rules, eq-eqb}
use Rattle.std.proofs.lemmas.Bool.{cases_Bool}
use Rattle.std.proofs.lemmas.Bool.Decides.{eqb_tells}
use Rattle.std.proofs.lemmas.List.Elements.{Contains-append_left, Contains-push, Contains-push_cases}
use Rattle.std.proofs.lemmas.Option.{same_Some, none-some}
use Rattle.stable.specs.Records.{Records, rank, Change, Sets, Trims, with_record, without_votes_below, changed}
use Rattle.stable.specs.Script.{Script, Write, PutShows, noted, unsure_by, raised_by, Settles, ReadFailsInside, Adds, FailsOld, FailsInside}
use Rattle.stable.specs.ScriptLaws.{reads_listed}
use Rattle.stable.specs.declared.key.Key.{Key}
use Rattle.stable.specs.declared.key.Key.TheVariants.{Checkpoint, Promise, Round, Vote}
use Rattle.stable.proofs.KeyLemmas.{same_rank}
use Rattle.stable.specs.declared.stable.Stable.{Ghosts}
use Rattle.stable.specs.Storages.{IsLawful, scripted}
use Rattle.world_model.specs.Reaching.{TookEffect}
use Rattle.world_model.specs.Safety.{contents_inside}

-- whatever took effect did so for good; what is new is the one put that was made, if one was, and shows; and each record was put,
-- where that was so before
pub record GoesOn {S : Type 0} (contents : Script S → Records) (made : Option Write) (a b : Script S) : Type 0 where
  pub kept : (w : Write) → TookEffect contents a w → TookEffect contents b w
  pub new : (w : Write) → TookEffect contents b w → TookEffect contents a w ⊎ ((made ≡ Some w) × PutShows (contents b) w)
  pub shown : ((w : Write) → PutShows (contents a) w → TookEffect contents a w) → (w : Write) → PutShows (contents b) w → TookEffect contents b w

-- the records are the same, and so is what took effect
pub record IsSame {S : Type 0} (contents : Script S → Records) (a b : Script S) : Type 0 where
  pub records : contents b ≡ contents a
  pub to : (w : Write) → TookEffect contents a w → TookEffect contents b w
  pub from : (w : Write) → TookEffect contents b w → TookEffect contents a w

module _ {S : Type 0} (contents : Script S → Records) where
  pub same_then : (made : Option Write) (a b c : Script S) → IsSame contents a b → GoesOn contents made b c → GoesOn contents made a c
  same_then made a b c s g = record {
    kept = λ w t. g.kept w (s.to w t);
    new = λ w t. elim (g.new w t) [ inl old ↦ inl (s.from w old) | inr now ↦ inr now ];
    shown = λ put w shows. g.shown (λ u h. s.to u (put u (subst (λ (r : Records). PutShows r u) s.records h))) w shows;
  }

  pub same_goes : (made : Option Write) (a b : Script S) → IsSame contents a b → GoesOn contents made a b
  same_goes made a b s = record {
    kept = s.to;
    new = λ w t. inl (s.from w t);
    shown = λ put w shows. s.to w (put w (subst (λ (r : Records). PutShows r w) s.records shows));
  }

  pub took_over : (a b : Script S) → contents b ≡ contents a → b.writes ≡ a.writes → b.unsure ≡ a.unsure → (w : Write)
      → TookEffect contents a w
      → TookEffect contents b w
  took_over a b e list unsure w (inl c) = inl (subst (λ (ws : List Write). Contains ws w) (sym list) c)
  took_over a b e list unsure w (inr t) = inr (unsure ∙ t.0, subst (λ (r : Records). PutShows r w) (sym e) t.1)

  pub same_lists : (a b : Script S) → contents b ≡ contents a → b.writes ≡ a.writes → b.unsure ≡ a.unsure → IsSame contents a b
  same_lists a b e list unsure = record {
    records = e;
    to = took_over a b e list unsure;
    from = took_over b a (sym e) (sym list) (sym unsure);
  }

-- ---- the unsure put is looked for
noted_keeps : (found : Bool) (ws : List Write) (o : Option Write) (w : Write) → Contains ws w → Contains (noted found ws o) w
noted_keeps found ws None w c = c
noted_keeps true ws (Some u) w c = Contains-append_left ws (u ∷ []) w c
noted_keeps false ws (Some u) w c = c

noted_finds : (found : Bool) (ws : List Write) (w : Write) → IsTrue found → Contains (noted found ws (Some w)) w
noted_finds true ws w t = Contains-push ws w
noted_finds false ws w t = absurd (search (rules, t))

noted_cases : (found : Bool) (ws : List Write) (o : Option Write) (w : Write) → Contains (noted found ws o) w
    → Contains ws w ⊎ ((o ≡ Some w) × IsTrue found)
noted_cases found ws None w c = inl c
noted_cases true ws (Some u) w c = elim (Contains-push_cases ws u w c) [ inl old ↦ inl old | inr new ↦ inr (ap Some new, search rules) ]
noted_cases false ws (Some u) w c = inl c

module _ {S : Type 0} {contents : S → Records} {IsHonest : S → Type 0} (a b : Script S) (same : contents b.inner ≡ contents a.inner)
    (honest : IsHonest b.inner) where
  settled_to : Settles contents IsHonest a b → (w : Write) → TookEffect (contents_inside contents) a w
      → TookEffect (contents_inside contents) b w
  settled_to s w (inl c) = inl (subst (λ (ws : List Write). Contains ws w) (sym s.writes) (noted_keeps s.found a.writes a.unsure w c))
  settled_to s w (inr t) =
      let list : b.writes ≡ noted s.found a.writes (Some w) = s.writes ∙ ap (noted s.found a.writes) t.0 in
      inl (subst (λ (ws : List Write). Contains ws w) (sym list) (noted_finds s.found a.writes w ((s.shown honest w t.0).1 t.1)))

  settled_from : Settles contents IsHonest a b → (w : Write) → TookEffect (contents_inside contents) b w
      → TookEffect (contents_inside contents) a w
  settled_from s w (inl c) = elim (noted_cases s.found a.writes a.unsure w (subst (λ (ws : List Write). Contains ws w) s.writes c)) [
    | inl old ↦ inl old
    | inr t ↦ inr (t.0, (s.shown honest w t.0).0 t.1)
  ]
  settled_from s w (inr t) = absurd (none-some w (sym s.unsure ∙ t.0))

  listed_same : ((b.writes ≡ a.writes) × (b.unsure ≡ a.unsure)) ⊎ Settles contents IsHonest a b → IsSame (contents_inside contents) a b
  listed_same (inl list) = same_lists (contents_inside contents) a b same list.0 list.1
  listed_same (inr s) = record { records = same; to = settled_to s; from = settled_from s }

-- ---- one record is put
put_shows : (r : Records) (key : Key) (bytes : List ℕ) → PutShows (with_record r key bytes) (key, bytes)
put_shows r key bytes = rw (eq-eqb (rank key) (rank key) refl) refl

pub put_cases : (r : Records) (key : Key) (bytes : List ℕ) (w : Write) → PutShows (with_record r key bytes) w → ((key, bytes) ≡ w) ⊎ PutShows r w
put_cases r key bytes w shows = elim (eqb_tells (rank w.0) (rank key)) [
  | inl same ↦
      let k : key ≡ w.0 = sym (same_rank w.0 key same.1) in
      let here : Some bytes ≡ Some w.1 = rw same.0 at shows in
      let b : bytes ≡ w.1 = same_Some bytes w.1 here in
      inl (λ i. (k i, b i))
  | inr apart ↦ inr (let h : r w.0 ≡ Some w.1 = rw apart.0 at shows in h)
]

-- ---- votes are trimmed
-- the put that a change is, if it is one
abbrev pub put_in : Change → Option Write
put_in (Sets key bytes) = Some (key, bytes)
put_in (Trims below) = None

-- and the put that is made by a write
abbrev pub put_by : Option Change → Option Write
put_by None = None
put_by (Some change) = put_in change

pub sets_put : (w : Option Change) (put : Write) → put_by w ≡ Some put → w ≡ Some (Sets put.0 put.1)
sets_put None put e = absurd (none-some put e)
sets_put (Some (Trims below)) put e = absurd (none-some put e)
sets_put (Some (Sets key bytes)) put e = ap (λ (x : Write). Some (Sets x.0 x.1)) (same_Some (key, bytes) put e)

-- what is left was there
was_there : (r : Records) (below : ℕ) (key : Key) (bytes : List ℕ) → without_votes_below r below key ≡ Some bytes → r key ≡ Some bytes
was_there r below Checkpoint bytes h = h
was_there r below Promise bytes h = h
was_there r below Round bytes h = h
was_there r below (Vote slot) bytes h = elim (cases_Bool (nat_lt slot below)) [
  | inl gone ↦ absurd (none-some bytes (let none : None ≡ Some bytes = rw gone at h in none))
  | inr left ↦ (let there : r (Vote slot) ≡ Some bytes = rw left at h in there)
]

pub left_shows : (r : Records) (below : ℕ) (w : Write) → PutShows (without_votes_below r below) w → PutShows r w
left_shows r below w shows = was_there r below w.0 w.1 shows

-- with nothing unsure, votes are gone and the list is left
after_trim : {S : Type 0} (contents : Script S → Records) (a b : Script S) (below : ℕ) → a.unsure ≡ None → b.writes ≡ a.writes
    → b.unsure ≡ None → contents b ≡ without_votes_below (contents a) below → GoesOn contents None a b
after_trim contents a b below settled writes unsure e =
    let kept_ : (w : Write) → TookEffect contents a w → TookEffect contents b w = λ w t. elim t [
      | inl c ↦ inl (subst (λ (ws : List Write). Contains ws w) (sym writes) c)
      | inr u ↦ absurd (none-some w (sym settled ∙ u.0))
    ] in
    record {
      kept = kept_;
      new = λ w t. elim t [
        | inl c ↦ inl (inl (subst (λ (ws : List Write). Contains ws w) writes c))
        | inr u ↦ absurd (none-some w (sym unsure ∙ u.0))
      ];
      shown = λ put w shows. kept_ w (put w (left_shows (contents a) below w (subst (λ (r : Records). PutShows r w) e shows)));
    }

module _ {S : Type 0} (contents : S → Records) where
  -- a put is listed, and after a trim no more shows than before
  added : {changes : S → Change → S → Type 0} (a b : Script S) (change : Change) → Adds changes a change b
      → contents b.inner ≡ changed (contents a.inner) change → GoesOn (contents_inside contents) (put_in change) a b
  added a b (Trims below) h e =
      after_trim (contents_inside contents) a b below h.settled h.writes h.unsure e
  added a b (Sets key bytes) h e =
      let kept_ : (w : Write) → TookEffect (contents_inside contents) a w → TookEffect (contents_inside contents) b w = λ w t. elim t [
        | inl c ↦ inl (subst (λ (ws : List Write). Contains ws w) (sym h.writes) (Contains-append_left a.writes _ w c))
        | inr u ↦ absurd (none-some w (sym h.settled ∙ u.0))
      ] in
      record {
        kept = kept_;
        new = λ w t. elim t [
          | inl c ↦ elim (Contains-push_cases a.writes (key, bytes) w (subst (λ (ws : List Write). Contains ws w) h.writes c)) [
            | inl old ↦ inl (inl old)
            | inr now ↦ inr (
              ap Some now,
              subst (λ (x : Write). PutShows (contents b.inner) x) now
                  (subst (λ (r : Records). PutShows r (key, bytes)) (sym e) (put_shows (contents a.inner) key bytes)),
            )
          ]
          | inr u ↦ absurd (none-some w (sym h.unsure ∙ u.0))
        ];
        shown = λ put w shows. elim (put_cases (contents a.inner) key bytes w (subst (λ (r : Records). PutShows r w) e shows)) [
          | inl now ↦ inl (subst (λ (ws : List Write). Contains ws w) (sym h.writes)
              (subst (λ (x : Write). Contains (a.writes ++ (key, bytes) ∷ []) x) now (Contains-push a.writes (key, bytes))))
          | inr old ↦ kept_ w (put w old)
        ];
      }

  -- the storage inside failed on the change: a put is unsure then
  unsure_then : (a : Script S) (inner : S) (change : Change) → a.unsure ≡ None
      → (contents inner ≡ contents a.inner) ⊎ (contents inner ≡ changed (contents a.inner) change)
      → GoesOn (contents_inside contents) (put_in change) a (record a { inner = inner; unsure = unsure_by change a.unsure; trimmed = raised_by change a.trimmed })
  unsure_then a inner (Trims below) sure (inl same) =
      same_goes (contents_inside contents) None a (record a { inner = inner; trimmed = max a.trimmed below })
      (same_lists (contents_inside contents) a (record a { inner = inner; trimmed = max a.trimmed below }) same refl refl)
  unsure_then a inner (Trims below) sure (inr gone) =
      after_trim (contents_inside contents) a (record a { inner = inner; trimmed = max a.trimmed below }) below sure refl sure gone
  unsure_then a inner (Sets key bytes) sure e =
      let b : Script S = record a { inner = inner; unsure = Some (key, bytes) } in
      let kept_ : (w : Write) → TookEffect (contents_inside contents) a w → TookEffect (contents_inside contents) b w = λ w t. elim t [
        | inl c ↦ inl c
        | inr u ↦ absurd (none-some w (sym sure ∙ u.0))
      ] in
      record {
        kept = kept_;
        new = λ w t. elim t [ inl c ↦ inl (inl c) | inr u ↦ inr u ];
        shown = λ put w shows. elim e [
          | inl same ↦ kept_ w (put w (subst (λ (r : Records). PutShows r w) same shows))
          | inr written ↦ elim (put_cases (contents a.inner) key bytes w (subst (λ (r : Records). PutShows r w) written shows)) [
            | inl now ↦ inr (ap Some now, shows)
            | inr old ↦ kept_ w (put w old)
          ]
        ];
      }

-- ---- the laws of the list
pub record KeepsPuts {S : Type 0} (storages : Ghosts (Script S)) : Type 0 where
  pub reads_on : (a b : Script S) → storages.reads a b → storages.IsHonest b → GoesOn storages.contents None a b
  pub read_fails_on : (a b : Script S) → storages.read_fails a b → storages.IsHonest b → GoesOn storages.contents None a b
  pub changes_on : (a b : Script S) (change : Change) → storages.changes a change b → storages.IsHonest b
      → GoesOn storages.contents (put_in change) a b
  pub fails_on : (a b : Script S) (change : Change) → storages.fails a change b → storages.IsHonest b
      → GoesOn storages.contents (put_in change) a b
  -- whether a put is unsure
  pub reads_unsure : (a b : Script S) → storages.reads a b → (b.unsure ≡ None) ⊎ ((b.writes ≡ a.writes) × (b.unsure ≡ a.unsure))
  pub read_fails_unsure : (a b : Script S) → storages.read_fails a b → (b.unsure ≡ None) ⊎ ((b.writes ≡ a.writes) × (b.unsure ≡ a.unsure))
  pub changes_sure : (a b : Script S) (change : Change) → storages.changes a change b → b.unsure ≡ None
  pub fails_unsure : (a b : Script S) (change : Change) → storages.fails a change b → a.unsure ≡ None
      → (b.unsure ≡ None) ⊎ (b.writes ≡ a.writes)

module _ {S : Type 0} (storages : Ghosts S) (laws : IsLawful storages) where
  abbrev Same : Script S → Script S → Type 0
  Same = IsSame (contents_inside storages.contents)

  abbrev Goes : Option Write → Script S → Script S → Type 0
  Goes = GoesOn (contents_inside storages.contents)

  read_same : (a b : Script S) → (scripted storages).reads a b → storages.IsHonest b.inner → Same a b
  read_same a b r honest = listed_same a b (laws.reads_contents a.inner b.inner r.inner honest) honest r.list

  -- the lists and the records were left since then
  left_same : (a between b : Script S) → (scripted storages).reads a between → storages.IsHonest between.inner
      → storages.contents b.inner ≡ storages.contents between.inner → b.writes ≡ between.writes → b.unsure ≡ between.unsure → Same a b
  left_same a between b before was records writes unsure =
      let s : Same a between = read_same a between before was in
      let t : Same between b = same_lists (contents_inside storages.contents) between b records writes unsure in
      record { records = t.records ∙ s.records; to = λ w x. t.to w (s.to w x); from = λ w x. s.from w (t.from w x) }

  read_failed_inside_same : (a b : Script S) → ReadFailsInside storages.contents storages.IsHonest storages.reads storages.read_fails a b
      → storages.IsHonest b.inner → Same a b
  read_failed_inside_same a b f honest =
      left_same a f.between b f.before (laws.read_fails_honest f.between.inner b.inner f.inner honest)
      (laws.read_fails_contents f.between.inner b.inner f.inner honest)
      (ap (λ (x : Script S). x.writes) f.after) (ap (λ (x : Script S). x.unsure) f.after)

  read_failed_same : (a b : Script S) → (scripted storages).read_fails a b → storages.IsHonest b.inner → Same a b
  read_failed_same a b (inl f) honest =
      let inner : b.inner ≡ f.between.inner = ap (λ (x : Script S). x.inner) f.after in
      left_same a f.between b f.before (subst storages.IsHonest inner honest) (ap storages.contents inner)
      (ap (λ (x : Script S). x.writes) f.after) (ap (λ (x : Script S). x.unsure) f.after)
  read_failed_same a b (inr f) honest = read_failed_inside_same a b f honest

  adds_on : (a between b : Script S) (change : Change) → (scripted storages).reads a between
      → Adds storages.changes between change b
      → storages.IsHonest b.inner → Goes (put_in change) a b
  adds_on a between b change before adds honest =
      let was : storages.IsHonest between.inner = laws.changes_honest between.inner b.inner change adds.inner honest in
      same_then (contents_inside storages.contents) (put_in change) a between b (read_same a between before was)
      (added storages.contents between b change adds (laws.changes_contents between.inner b.inner change adds.inner honest))

  fails_old_on : (made : Option Write) (a b : Script S) → FailsOld storages.contents storages.IsHonest storages.reads a b
      → storages.IsHonest b.inner → Goes made a b
  fails_old_on made a b f honest =
      let inner : b.inner ≡ f.between.inner = ap (λ (x : Script S). x.inner) f.after in
      let s : Same a f.between = read_same a f.between f.before (subst storages.IsHonest inner honest) in
      same_then (contents_inside storages.contents) made a f.between b s
      (same_goes (contents_inside storages.contents) made f.between b
      (same_lists (contents_inside storages.contents) f.between b (ap storages.contents inner)
      (ap (λ (x : Script S). x.writes) f.after)
      (ap (λ (x : Script S). x.unsure) f.after)))

  fails_inside_on : (a b : Script S) (change : Change)
      → FailsInside storages.contents storages.IsHonest storages.reads storages.fails a change b → storages.IsHonest b.inner
      → Goes (put_in change) a b
  fails_inside_on a b change f honest =
      let was : storages.IsHonest f.between.inner = laws.fails_honest f.between.inner b.inner change f.inner honest in
      same_then (contents_inside storages.contents) (put_in change) a f.between b (read_same a f.between f.before was)
      (subst (λ (x : Script S). Goes (put_in change) f.between x) (sym f.after)
      (unsure_then storages.contents f.between b.inner change f.settled
      (laws.fails_contents f.between.inner b.inner change f.inner honest)))

  failed_on : (a b : Script S) (change : Change) → (scripted storages).fails a change b → storages.IsHonest b.inner
      → Goes (put_in change) a b
  failed_on a b change (inl f) honest = fails_old_on (put_in change) a b f honest
  failed_on a b change (inr (inl f)) honest = adds_on a f.between b change f.before f.adds honest
  failed_on a b change (inr (inr (inl f))) honest = fails_inside_on a b change f honest
  failed_on a b change (inr (inr (inr f))) honest = same_goes (contents_inside storages.contents) (put_in change) a b
      (read_failed_inside_same a b f.inner honest)

  read_unsure : (a b : Script S) → ((b.writes ≡ a.writes) × (b.unsure ≡ a.unsure)) ⊎ Settles storages.contents storages.IsHonest a b
      → (b.unsure ≡ None) ⊎ ((b.writes ≡ a.writes) × (b.unsure ≡ a.unsure))
  read_unsure a b (inl list) = inr list
  read_unsure a b (inr s) = inl s.unsure

  left_unsure : (a between b : Script S) → (scripted storages).reads a between → b.writes ≡ between.writes → b.unsure ≡ between.unsure
      → (b.unsure ≡ None) ⊎ ((b.writes ≡ a.writes) × (b.unsure ≡ a.unsure))
  left_unsure a between b before writes unsure = elim (read_unsure a between before.list) [
    | inl sure ↦ inl (unsure ∙ sure)
    | inr same ↦ inr (writes ∙ same.0, unsure ∙ same.1)
  ]

  read_failed_unsure : (a b : Script S) → (scripted storages).read_fails a b
      → (b.unsure ≡ None) ⊎ ((b.writes ≡ a.writes) × (b.unsure ≡ a.unsure))
  read_failed_unsure a b (inl f) =
      left_unsure a f.between b f.before (ap (λ (x : Script S). x.writes) f.after) (ap (λ (x : Script S). x.unsure) f.after)
  read_failed_unsure a b (inr f) =
      left_unsure a f.between b f.before (ap (λ (x : Script S). x.writes) f.after) (ap (λ (x : Script S). x.unsure) f.after)

  failed_unsure : (a b : Script S) (change : Change) → (scripted storages).fails a change b → a.unsure ≡ None
      → (b.unsure ≡ None) ⊎ (b.writes ≡ a.writes)
  failed_unsure a b change (inl f) sure = inl (ap (λ (x : Script S). x.unsure) f.after ∙ (reads_listed a f.between sure f.before).1)
  failed_unsure a b change (inr (inl f)) sure = inl f.adds.unsure
  failed_unsure a b change (inr (inr (inl f))) sure = inr (ap (λ (x : Script S). x.writes) f.after
      ∙ (reads_listed a f.between sure f.before).0)
  failed_unsure a b change (inr (inr (inr f))) sure =
      elim (read_failed_unsure a b (inr f.inner)) [ inl now ↦ inl now | inr same ↦ inr same.0 ]

  pub script_puts : KeepsPuts (scripted storages)
  script_puts = record {
    reads_on = λ a b r h. same_goes (contents_inside storages.contents) None a b (read_same a b r h.0);
    read_fails_on = λ a b f h. same_goes (contents_inside storages.contents) None a b (read_failed_same a b f h.0);
    changes_on = λ a b change p h. adds_on a p.between b change p.before p.adds h.0;
    fails_on = λ a b change f h. failed_on a b change f h.0;
    reads_unsure = λ a b r. read_unsure a b r.list;
    read_fails_unsure = read_failed_unsure;
    changes_sure = λ a b change p. p.adds.unsure;
    fails_unsure = failed_unsure;
  }

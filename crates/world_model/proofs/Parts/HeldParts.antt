-- What a node holds of a text that it fetches: parts of a text of what was learnt, which make that text once all are there.
use Rattle.std.proofs.Common.{◌≡◌, ◌⊎◌, ◌==◌, ◌&&◌, ◌||◌, not, ℕ, zero, suc, ◌+◌, ◌-◌, ◌%◌, ◌<◌, ◌≤◌, inl, inr, nat_lt, Bool, true, false}
use Rattle.std.proofs.Common.{List, [], ◌∷◌, ◌++◌, length, replicate, slice_get, slice_set, Option, Some, None, is_some, IfSome}
use Rattle.std.proofs.Common.{if◌then◌else◌, refl, sym, ap, subst, ◌∙◌, arith}
use Rattle.std.proofs.Math.Nat.{div-add-mod, mod-lt}
use Rattle.std.proofs.lemmas.Bool.{and_parts, cond_both, eqb-true, ltb-false}
use Rattle.std.proofs.lemmas.List.{length-set, length-replicate, get_or-replicate}
use Rattle.std.proofs.lemmas.List.Elements.{Contains-append_left}
use Rattle.std.proofs.lemmas.List.Sums.{take_while-cons}
use Rattle.std.proofs.lemmas.Option.{same_Some, none-some, slice_get_within, get_or_from_slice_get}
use Rattle.std.specs.List.{take_while}
use Rattle.sessions.proofs.Snapshots.{one_snapshot}
use Rattle.sessions.specs.Snapshots.{IsSnapshot}
use Rattle.sessions.specs.declared.command.Command.{Command}
use Rattle.learner.specs.Learning.{Learning, prefix}
use Rattle.learner.specs.declared.learned.Learned.{Learned}
use Rattle.wire.proofs.PartLaws.{parts_make}
use Rattle.wire.specs.Parts.{Piece, IsPiece, piece, parts_in, joined}
use Rattle.wire.specs.declared.frames.envelope.Envelope.{Envelope}
use Rattle.wire.specs.declared.frames.message.Message.{Message}
use Rattle.wire.specs.declared.frames.message.Message.TheVariants.{SnapPart}
use Rattle.wire.specs.declared.frames.part.TheConstants.{PART}
use Rattle.node_model.specs.declared.input.Input.{Input}
use Rattle.node_model.specs.declared.input.Input.TheVariants as input
use Rattle.node_model.specs.Fetching.{Fetching, nothing_of, still_fetched, is_as_long, is_held, is_wanted, wants, places, with_part}
use Rattle.node_model.specs.Fetching.{first_missing, missing, text_with}
use Rattle.node_model.specs.Replicas.{ReplicaState, position}
use Rattle.node_model.specs.Nodes.{fetched_text}
use Rattle.node_model.specs.Outputs.{Response, sent}
use Rattle.node_model.specs.Taking.{Takes, Hears, PartCounts}
use Rattle.node_model.proofs.Saying.{FetchesNext, Says, says_of}
use Rattle.node_model.proofs.Saying.FetchesNext.{as_before, aims as comes_to_aim, holds as comes_to_hold, ends as comes_to_end}
use Rattle.node_model.proofs.Saying.Says.{tells, reports, answers, writes, proposes, hears_vote, hears_decided, makes_text}
use Rattle.world_model.specs.declared.lists.LearntEntry.{LearntEntry}
use Rattle.world_model.specs.Explaining.{LearntAgree}
use Rattle.world_model.specs.Telling.{WasLearnt, WereLearnt, TellsText, TellsPiece, HoldsToldParts}

-- ---- lists
-- what stands at a place once one place is written
pub set_cases : {A : Type 0} (xs : List A) (i j : ℕ) (y z : A) → slice_get (slice_set xs i y) j ≡ Some z
    → ((j ≡ i) × (y ≡ z)) ⊎ (slice_get xs j ≡ Some z)
set_cases [] i j y z e = inr e
set_cases (x ∷ xs) zero zero y z e = inl (refl, same_Some y z e)
set_cases (x ∷ xs) zero (suc j) y z e = inr e
set_cases (x ∷ xs) (suc i) zero y z e = inr e
set_cases (x ∷ xs) (suc i) (suc j) y z e = elim (set_cases xs i j y z e) [
  | inl here ↦ inl (ap suc here.0, here.1)
  | inr there ↦ inr there
]

-- two lists of commands, as long as one another, are one where they have the same at each place
same_commands : (xs ys : List Command) → length xs ≡ length ys
    → ((i : ℕ) (c d : Command) → slice_get xs i ≡ Some c → slice_get ys i ≡ Some d → c ≡ d) → xs ≡ ys
same_commands [] [] e h = refl
same_commands [] (y ∷ ys) e h = absurd (omega (arith, e))
same_commands (x ∷ xs) [] e h = absurd (omega (arith, e))
same_commands (x ∷ xs) (y ∷ ys) e h =
    ap (λ (z : Command). z ∷ xs) (h zero x y refl refl)
    ∙ ap (λ (zs : List Command). y ∷ zs) (same_commands xs ys (omega (arith, e)) (λ i c d p q. h (suc i) c d p q))

-- ---- what was told stays so
pub was_still : (learnt more : List LearntEntry) (slot : ℕ) (c : Command) → WasLearnt learnt slot c → WasLearnt (learnt ++ more) slot c
was_still learnt more slot c was = record {
  entry = was.entry;
  there = Contains-append_left learnt more was.entry was.there;
  at = was.at;
  holds = was.holds;
}

pub text_still : (learnt more : List LearntEntry) (position : ℕ) (text : List ℕ) → TellsText learnt position text
    → TellsText (learnt ++ more) position text
text_still learnt more position text t = record {
  log = t.log;
  known = λ slot c e. was_still learnt more slot c (t.known slot c e);
  length_ = t.length_;
  is = t.is;
}

pub piece_still : (learnt more : List LearntEntry) (p : Piece) → TellsPiece learnt p → TellsPiece (learnt ++ more) p
piece_still learnt more p t = record { text = t.text; told = text_still learnt more p.position t.text t.told; is = t.is }

held_still : (learnt more : List LearntEntry) (f : Fetching) → HoldsToldParts learnt f → HoldsToldParts (learnt ++ more) f
held_still learnt more f h = record {
  places = h.places;
  of_checkpoint = h.of_checkpoint;
  of_total = h.of_total;
  in_place = h.in_place;
  told = λ number p there. piece_still learnt more p (h.told number p there);
}

pub fetches_still : (learnt more : List LearntEntry) (o : Option Fetching) → IfSome o (HoldsToldParts learnt)
    → IfSome o (HoldsToldParts (learnt ++ more))
fetches_still learnt more None h = tt
fetches_still learnt more (Some f) h = held_still learnt more f h

-- ---- what an input makes of what a node fetches
-- a part that comes by the input is of its form, and one of a text of what was learnt
abbrev pub PartsCome : List LearntEntry → Input → Type 0
PartsCome learnt i = (e : Envelope) (p : Piece) → i ≡ input.Message e → e.message ≡ SnapPart p → IsPiece p × TellsPiece learnt p

-- a part comes by this input, and counts
pub record PartComes (old : ReplicaState) (i : Input) (p : Piece) (f : Fetching) : Type 0 where
  pub frame : Envelope
  pub is : i ≡ input.Message frame
  pub brings : frame.message ≡ SnapPart p
  pub counts : PartCounts old p f

pub data Fetches (old : ReplicaState) (i : Input) (new : ReplicaState) (said : Response) : Type 0 where
  stays : new.fetching ≡ old.fetching → said.restored ≡ None → Fetches old i new said
  -- a slot was learnt
  reaches : (at : ℕ) → new.fetching ≡ still_fetched at old.fetching → said.restored ≡ None → Fetches old i new said
  -- a text was none's
  ends : new.fetching ≡ None → said.restored ≡ None → Fetches old i new said
  aims : (floor : ℕ) → new.fetching ≡ Some (nothing_of floor) → said.restored ≡ None → Fetches old i new said
  holds : (p : Piece) (f : Fetching) → PartComes old i p f → new.fetching ≡ Some f → said.restored ≡ None → Fetches old i new said
  makes : (p : Piece) (f : Fetching) → PartComes old i p f → missing f ≡ None → new.fetching ≡ None → said.restored ≡ Some f.target
      → Fetches old i new said

module _ (old new : ReplicaState) (said : Response) where
  abbrev unrestored : (r : Response) → said ≡ r → r.restored ≡ None → said.restored ≡ None
  unrestored r e none = ap (λ (x : Response). x.restored) e ∙ none

  same : (i : Input) (m : ReplicaState) (r : Response) → new ≡ m → said ≡ r → m.fetching ≡ old.fetching → r.restored ≡ None
      → Fetches old i new said
  same i m r leaves says still none = stays (ap (λ (x : ReplicaState). x.fetching) leaves ∙ still) (unrestored r says none)

  hears_fetches : (i : Input) (c : Command) (o : Option Learned) (l : Learning) (asks : List Envelope)
      → Hears old c o l asks new said → Fetches old i new said
  hears_fetches i c None l asks k = same i _ _ k.0 k.1 refl refl
  hears_fetches i c (Some learned) l asks k =
      reaches (prefix l) (ap (λ (x : ReplicaState). x.fetching) k.leaves) (unrestored _ k.says refl)

  next_fetches : (i : Input) (f : Option Fetching) (sends : List Envelope) → FetchesNext old i f → new ≡ record old { fetching = f }
      → said ≡ sent sends → Fetches old i new said
  next_fetches i _ sends as_before leaves says = same i _ _ leaves says refl refl
  next_fetches i _ sends (comes_to_aim floor) leaves says =
      aims floor (ap (λ (x : ReplicaState). x.fetching) leaves) (unrestored _ says refl)
  next_fetches i _ sends (comes_to_hold from to p f comes counts) leaves says =
      holds p f (record { frame = record { from = from; to = to; message = SnapPart p }; is = comes; brings = refl; counts = counts })
      (ap (λ (x : ReplicaState). x.fetching) leaves) (unrestored _ says refl)
  next_fetches i _ sends comes_to_end leaves says = ends (ap (λ (x : ReplicaState). x.fetching) leaves) (unrestored _ says refl)

  says_fetches : (i : Input) → Says old i new said → Fetches old i new said
  says_fetches i (tells in' f sends is fetches plain leaves says) = next_fetches i f sends fetches leaves says
  says_fetches i (reports in' to slot c is there learnt leaves says) = same i _ _ leaves says refl refl
  says_fetches i (answers in' to a answer is there h leaves says) = same i _ _ leaves says refl refl
  says_fetches i (writes a is h leaves says) = same i _ _ leaves says refl refl
  says_fetches i (proposes in' submits round p asks is h plain leaves says) = same i _ _ leaves says refl refl
  says_fetches i (hears_vote from to v comes is (o, l, heard, k)) = hears_fetches i v.command o l [] k
  says_fetches i (hears_decided from to slot c comes is sender (o, l, heard, k)) = hears_fetches i c o l _ k
  says_fetches i (makes_text in' is h) =
      makes h.p h.fetched
      (record { frame = record { from = h.from; to = h.to; message = SnapPart h.p }; is = h.is; brings = refl; counts = h.counts_ }) h.whole
      (ap (λ (x : ReplicaState). x.fetching) h.restored.leaves ∙ ap (λ (x : ReplicaState). x.fetching) h.restored.begins)
      (ap (λ (r : Response). r.restored) h.restored.says)

  pub fetches_of : (i : Input) → Takes old i new said → Fetches old i new said
  fetches_of i k = says_fetches i (says_of old new said i k)

-- ---- a part more
-- no part stands among places that are empty
none_there : (n number : ℕ) (q : Piece) → slice_get (replicate n None) number ≡ Some (Some q) → ⊥
none_there n number q there =
    let empty : List (Option Piece) = replicate n None in
    let few : number < n = subst (λ (k : ℕ). number < k) (length-replicate n None) (slice_get_within empty number (Some q) there) in
    let clash : None ≡ Some q =
    sym (get_or-replicate n number None None few) ∙ get_or_from_slice_get empty number (Some q) None there in
    none-some q clash

second_of : (a b : Bool) → (a || b) ≡ true → a ≡ false → b ≡ true
second_of true b either first = absurd (let clash : true ≡ false = first in cc)
second_of false b either first = either

-- the places of a text of so many bytes: each holds what it held
record HasPlaces (f : Fetching) (total : ℕ) (held : List (Option Piece)) : Type 0 where
  all : length held ≡ parts_in total
  before : (number : ℕ) (q : Piece) → slice_get held number ≡ Some (Some q) → slice_get f.held number ≡ Some (Some q)
  long : (number : ℕ) (q : Piece) → slice_get held number ≡ Some (Some q) → f.total ≡ total

has_places : (f : Fetching) (total : ℕ) → (f.total ≡ 0) ⊎ (length f.held ≡ parts_in f.total) → (f.total == zero || f.total == total) ≡ true
    → HasPlaces f total (places f total)
has_places f total there long =
    cond_both (f.total == zero) (replicate (parts_in total) None) f.held (HasPlaces f total)
    (λ none. record {
      all = length-replicate (parts_in total) None;
      before = λ number q e. absurd (none_there (parts_in total) number q e);
      long = λ number q e. absurd (none_there (parts_in total) number q e);
    })
    (λ some.
    let same : f.total ≡ total = eqb-true f.total total (second_of (f.total == zero) (f.total == total) long some) in
    record {
      all = elim there [
        | inl none ↦ absurd (let clash : true ≡ false = sym (ap (λ (n : ℕ). n == zero) none) ∙ some in cc)
        | inr all ↦ all ∙ ap parts_in same
      ];
      before = λ number q e. e;
      long = λ number q e. same;
    })

-- a text has a part
some_parts : (total : ℕ) → 4 ≤ total → 0 < parts_in total
some_parts total least =
    let whole = div-add-mod (total + PART - 1) PART in
    let short : (total + PART - 1) % PART < PART = mod-lt (total + PART - 1) (omega arith) in
    omega (arith, whole, short, least)

-- what is fetched once a part is held that counts
pub record Held (learnt : List LearntEntry) (f : Fetching) : Type 0 where
  pub parts : HoldsToldParts learnt f
  pub all : length f.held ≡ parts_in f.total
  pub some : 0 < length f.held

holds_more : (learnt : List LearntEntry) (f : Fetching) (p : Piece) → HoldsToldParts learnt f → IsPiece p → TellsPiece learnt p
    → is_wanted f p ≡ true → Held learnt (with_part f p)
holds_more learnt f p h fits told wanted =
    let parts = and_parts (p.position == f.target) (is_as_long f p && not (is_held f p.number)) wanted in
    let at : p.position ≡ f.target = eqb-true p.position f.target parts.0 in
    let places_ : HasPlaces f p.total (places f p.total) =
    has_places f p.total h.places (and_parts (is_as_long f p) (not (is_held f p.number)) parts.1).0 in
    let all : length (slice_set (places f p.total) p.number (Some p)) ≡ parts_in p.total =
    length-set (places f p.total) p.number (Some p) ∙ places_.all in
    record {
      parts = record {
        places = inr all;
        of_checkpoint = λ number q e. elim (set_cases (places f p.total) p.number number (Some p) (Some q) e) [
          | inl here ↦ ap (λ (x : Piece). x.position) (sym (same_Some p q here.1)) ∙ at
          | inr there ↦ h.of_checkpoint number q (places_.before number q there)
        ];
        of_total = λ number q e. elim (set_cases (places f p.total) p.number number (Some p) (Some q) e) [
          | inl here ↦ ap (λ (x : Piece). x.total) (sym (same_Some p q here.1))
          | inr there ↦ h.of_total number q (places_.before number q there) ∙ places_.long number q there
        ];
        in_place = λ number q e. elim (set_cases (places f p.total) p.number number (Some p) (Some q) e) [
          | inl here ↦ ap (λ (x : Piece). x.number) (sym (same_Some p q here.1)) ∙ sym here.0
          | inr there ↦ h.in_place number q (places_.before number q there)
        ];
        told = λ number q e. elim (set_cases (places f p.total) p.number number (Some p) (Some q) e) [
          | inl here ↦ subst (TellsPiece learnt) (same_Some p q here.1) told
          | inr there ↦ h.told number q (places_.before number q there)
        ];
      };
      all = all;
      some = subst (λ (n : ℕ). 0 < n) (sym all) (some_parts p.total fits.least);
    }

-- ---- the parts make the text
none_where : {A : Type 0} (b : Bool) (x : A) → (if b then Some x else None) ≡ None → b ≡ false
none_where true x e = absurd (none-some x (sym e))
none_where false x e = refl

-- none is missing: each is there
each_held : (held : List (Option Piece)) → length held ≤ length (take_while is_some held) → (k : ℕ) → k < length held
    → (q : Piece) × (slice_get held k ≡ Some (Some q))
each_held [] whole k low = absurd (omega (arith, low))
each_held (None ∷ held) whole k low =
    absurd (let none : length (take_while is_some (None ∷ held)) ≡ 0 = ap length (take_while-cons is_some None held) in
    omega (arith, whole, none))
each_held (Some q ∷ held) whole zero low = (q, refl)
each_held (Some q ∷ held) whole (suc k) low =
    let one : length (take_while is_some (Some q ∷ held)) ≡ suc (length (take_while is_some held)) =
    ap length (take_while-cons is_some (Some q) held) in
    each_held held (omega (arith, whole, one)) k (omega (arith, low))

module _ (learnt : List LearntEntry) (agree : LearntAgree learnt) where
  one_log : (xs ys : List Command) → WereLearnt learnt xs → WereLearnt learnt ys → length xs ≡ length ys → xs ≡ ys
  one_log xs ys known_x known_y e = same_commands xs ys e (λ i c d at_x at_y.
      let a = known_x i c at_x in
      let b = known_y i d at_y in
      sym a.holds ∙ agree a.entry b.entry a.there b.there (a.at ∙ sym b.at) ∙ b.holds)

  -- two texts of what was learnt, up to one position, are one
  one_text : (at : ℕ) (a b : List ℕ) → TellsText learnt at a → TellsText learnt at b → a ≡ b
  one_text at a b x y =
      let log : y.log ≡ x.log = one_log y.log x.log y.known x.known (y.length_ ∙ sym x.length_) in
      one_snapshot x.log a b x.is (subst (λ (l : List Command). IsSnapshot l b) log y.is)

  pub parts_make_text : (f : Fetching) → Held learnt f → missing f ≡ None → TellsText learnt f.target (joined f.held)
  parts_make_text f h none =
      let whole : length f.held ≤ length (take_while is_some f.held) =
      ltb-false (first_missing f) (length f.held)
      (none_where (nat_lt (first_missing f) (length f.held)) (first_missing f) none) in
      let first = each_held f.held whole 0 h.some in
      let told : TellsPiece learnt first.0 = h.parts.told 0 first.0 first.1 in
      let text : TellsText learnt f.target told.text =
      subst (λ (n : ℕ). TellsText learnt n told.text) (h.parts.of_checkpoint 0 first.0 first.1) told.told in
      let long : length f.held ≡ parts_in (length told.text) =
      h.all ∙ ap parts_in (sym (h.parts.of_total 0 first.0 first.1) ∙ ap (λ (p : Piece). p.total) told.is) in
      let made : joined f.held ≡ told.text = parts_make f.target told.text f.held long (λ k low.
      let q = each_held f.held whole k low in
      let of : TellsPiece learnt q.0 = h.parts.told k q.0 q.1 in
      let at : q.0.position ≡ f.target = h.parts.of_checkpoint k q.0 q.1 in
      let number : q.0.number ≡ k = h.parts.in_place k q.0 q.1 in
      let same : of.text ≡ told.text =
      one_text f.target of.text told.text (subst (λ (n : ℕ). TellsText learnt n of.text) at of.told) text in
      let is : q.0 ≡ piece f.target told.text k = of.is ∙ (λ j. piece (at j) (same j) (number j)) in
      q.1 ∙ ap (λ (x : Piece). Some (Some x)) is) in
      subst (λ (t : List ℕ). TellsText learnt f.target t) (sym made) text

-- ---- what a node fetches that has taken an input
wanted_of : (o : Option Fetching) (f : Fetching) (at : ℕ) (p : Piece) → o ≡ Some f → wants o at p ≡ true → is_wanted f p ≡ true
wanted_of o f at p is wanted =
    (and_parts (nat_lt at f.target) (is_wanted f p) (subst (λ (x : Option Fetching). wants x at p ≡ true) is wanted)).1

still_holds : (learnt : List LearntEntry) (at : ℕ) (o : Option Fetching) → IfSome o (HoldsToldParts learnt)
    → IfSome (still_fetched at o) (HoldsToldParts learnt)
still_holds learnt at None h = tt
still_holds learnt at (Some f) h =
    cond_both (nat_lt at f.target) (Some f) None (λ (o : Option Fetching). IfSome o (HoldsToldParts learnt)) (λ _. h) (λ _. tt)

holds_nothing : (learnt : List LearntEntry) (floor : ℕ) → HoldsToldParts learnt (nothing_of floor)
holds_nothing learnt floor = record {
  places = inl refl;
  of_checkpoint = λ number p e. absurd (none-some (Some p) e);
  of_total = λ number p e. absurd (none-some (Some p) e);
  in_place = λ number p e. absurd (none-some (Some p) e);
  told = λ number p e. absurd (none-some (Some p) e);
}

module _ (learnt : List LearntEntry) (old : ReplicaState) (i : Input) (was : IfSome old.fetching (HoldsToldParts learnt))
    (come : PartsCome learnt i) where
  with_it : (p : Piece) (f : Fetching) → PartComes old i p f → Held learnt f
  with_it p f comes =
      let before : Fetching = comes.counts.before in
      let part = come comes.frame p comes.is comes.brings in
      let held_before : HoldsToldParts learnt before =
      subst (λ (o : Option Fetching). IfSome o (HoldsToldParts learnt)) comes.counts.fetching_ was in
      subst (Held learnt) (sym comes.counts.is)
      (holds_more learnt before p held_before part.0 part.1
      (wanted_of old.fetching before (position old) p comes.counts.fetching_ comes.counts.wanted))

  abbrev After : Option Fetching → Type 0
  After o = IfSome o (HoldsToldParts learnt)

  pub still_told : (new : ReplicaState) (said : Response) → Fetches old i new said → IfSome new.fetching (HoldsToldParts learnt)
  still_told new said (stays kept none) = subst After (sym kept) was
  still_told new said (reaches at kept none) = subst After (sym kept) (still_holds learnt at old.fetching was)
  still_told new said (ends gone none) = subst After (sym gone) tt
  still_told new said (aims floor is none) = subst After (sym is) (holds_nothing learnt floor)
  still_told new said (holds p f comes is none) = subst After (sym is) (with_it p f comes).parts
  still_told new said (makes p f comes all gone some) = subst After (sym gone) tt

  -- the text that it has then
  comes_whole : (p : Piece) (f : Fetching) (comes : PartComes old i p f) → fetched_text old i ≡ joined f.held
  comes_whole p f comes =
      ap (fetched_text old) comes.is
      ∙ ap (λ (m : Message). text_with old.fetching m) comes.brings
      ∙ ap (λ (o : Option Fetching). text_with o (SnapPart p)) comes.counts.fetching_
      ∙ ap (λ (g : Fetching). joined g.held) (sym comes.counts.is)

  pub restored_text : LearntAgree learnt → (new : ReplicaState) (said : Response) → Fetches old i new said → (target : ℕ)
      → said.restored ≡ Some target → TellsText learnt target (fetched_text old i)
  restored_text agree new said (makes p f comes all gone some) target is =
      subst (λ (n : ℕ). TellsText learnt n (fetched_text old i)) (same_Some f.target target (sym some ∙ is))
      (subst (λ (t : List ℕ). TellsText learnt f.target t) (sym (comes_whole p f comes))
      (parts_make_text learnt agree f (with_it p f comes) all))
  restored_text agree new said (stays kept none) target is = absurd (none-some target (sym none ∙ is))
  restored_text agree new said (reaches at kept none) target is = absurd (none-some target (sym none ∙ is))
  restored_text agree new said (ends gone none) target is = absurd (none-some target (sym none ∙ is))
  restored_text agree new said (aims floor kept none) target is = absurd (none-some target (sym none ∙ is))
  restored_text agree new said (holds p f comes kept none) target is = absurd (none-some target (sym none ∙ is))

-- What passes over a network and a desk, one part of a turn after the other.
use Rattle.std.proofs.Common.{◌≡◌, ℕ, All, List, [], ◌∷◌, ◌++◌, sym, ap, ◌∙◌, append-nil, append_assoc}
use Rattle.std.proofs.lemmas.List.Elements.{All-append, All-cons, All-nil, All-weaker}
use Rattle.stable.specs.declared.stable.Stable.{Ghosts}
use Rattle.serving.specs.Serving.{PassesOnly, ServerState, Serves, ServesClients, ServesNodes, ServesOver}
use Rattle.serving.specs.Tapes.{Carried, Arrived, NothingCame, NothingHeard, PollFailed, ReadingFailed, Talk, HasPassed}
use Rattle.serving.proofs.Coming.{serves_failed_poll, serves_failed_reading, serves_nothing_came, serves_nothing_heard}
use Rattle.serving.proofs.Leading.{serves_none, serves_then}

-- ---- tapes
module _ {T A : Type 0} (tape : T → List A) (Tells : T → Type 0) where
  pub passes_none : (t : T) → HasPassed tape Tells t [] t
  passes_none t = record { told = λ h. h; passed_ = λ h. sym (append-nil (tape t)) }

  pub passes_then : (a b c : T) (one two : List A) → HasPassed tape Tells a one b → HasPassed tape Tells b two c
      → HasPassed tape Tells a (one ++ two) c
  passes_then a b c one two h k = record {
    told = λ tells. h.told (k.told tells);
    passed_ = λ tells. k.passed_ tells ∙ ap (λ (xs : List A). xs ++ two) (h.passed_ (k.told tells)) ∙ append_assoc (tape a) one two;
  }

  -- as a call's clauses have it
  pub passes_as : (a b : T) (passed more : List A) → (Tells b → tape b ≡ tape a ++ passed) → (Tells b → Tells a) → passed ≡ more
      → HasPassed tape Tells a more b
  passes_as a b passed more is told same = record {
    told = told;
    passed_ = λ tells. is tells ∙ ap (λ (xs : List A). tape a ++ xs) same;
  }

  -- and then so, as a call's clauses have it
  pub passes_as_more : (a b c : T) (one two both : List A) → HasPassed tape Tells a one b → (Tells c → tape c ≡ tape b ++ two)
      → (Tells c → Tells b) → both ≡ one ++ two → HasPassed tape Tells a both c
  passes_as_more a b c one two both h is told same =
      let all = passes_then a b c one two h (record { told = told; passed_ = is }) in
      record { told = all.told; passed_ = λ tells. all.passed_ tells ∙ ap (λ (xs : List A). tape a ++ xs) (sym same) }

  -- ---- nothing but what is so
  module _ (IsSo : A → Type 0) where
    pub only_none : (t : T) → PassesOnly tape Tells IsSo t t
    only_none t = record { passed = []; each = All-nil IsSo; passes = passes_none t }

    pub only_one : (a b : T) (x : A) → IsSo x → HasPassed tape Tells a (x ∷ []) b → PassesOnly tape Tells IsSo a b
    only_one a b x so h = record { passed = x ∷ []; each = All-cons IsSo x [] so (All-nil IsSo); passes = h }

    -- by a call's clauses
    pub only_one_by : (a b : T) (x : A) → (Tells b → tape b ≡ tape a ++ x ∷ []) → (Tells b → Tells a) → IsSo x
        → PassesOnly tape Tells IsSo a b
    only_one_by a b x is told so = only_one a b x so (record { told = told; passed_ = is })

    pub only_none_by : (a b : T) (passed : List A) → passed ≡ [] → (Tells b → tape b ≡ tape a ++ passed) → (Tells b → Tells a)
        → PassesOnly tape Tells IsSo a b
    only_none_by a b passed none is told =
        record { passed = []; each = All-nil IsSo; passes = passes_as a b passed [] is told none }

    pub only_one_as : (a b : T) (passed : List A) (x : A) → passed ≡ x ∷ [] → (Tells b → tape b ≡ tape a ++ passed)
        → (Tells b → Tells a) → IsSo x → PassesOnly tape Tells IsSo a b
    only_one_as a b passed x one is told so = only_one a b x so (passes_as a b passed (x ∷ []) is told one)

    -- all that passed is so
    pub only_read_by : (a b : T) (passed : List A) → (Tells b → tape b ≡ tape a ++ passed)
        → (Tells b → Tells a) → All IsSo passed → PassesOnly tape Tells IsSo a b
    only_read_by a b passed is told so = record { passed = passed; each = so; passes = record { told = told; passed_ = is } }

    pub only_then : (a b c : T) → PassesOnly tape Tells IsSo a b → PassesOnly tape Tells IsSo b c → PassesOnly tape Tells IsSo a c
    only_then a b c h k = record {
      passed = h.passed ++ k.passed;
      each = All-append IsSo h.passed k.passed h.each k.each;
      passes = passes_then a b c h.passed k.passed h.passes k.passes;
    }

  pub only_weaker : (P Q : A → Type 0) → ((x : A) → P x → Q x) → (a b : T) → PassesOnly tape Tells P a b → PassesOnly tape Tells Q a b
  only_weaker P Q f a b h = record { passed = h.passed; each = All-weaker P Q f h.passed h.each; passes = h.passes }

-- ---- over the network alone
module _ {S N : Type 0} (storages : Ghosts S) (carried : N → List Carried) (Carries : N → Type 0) where
  pub nodes_none : (a : ServerState S) (n : N) → ServesNodes storages carried Carries a n a n
  nodes_none a n = record { sent = []; serves = serves_none storages a; carries = passes_none carried Carries n }

  pub nodes_then : (a b c : ServerState S) (n m o : N) → ServesNodes storages carried Carries a n b m
      → ServesNodes storages carried Carries b m c o → ServesNodes storages carried Carries a n c o
  nodes_then a b c n m o h k = record {
    sent = h.sent ++ k.sent;
    serves = serves_then storages a b c h.sent k.sent [] [] h.serves k.serves;
    carries = passes_then carried Carries n m o h.sent k.sent h.carries k.carries;
  }

  -- a part in which nothing passes
  pub nodes_quiet : (a b : ServerState S) (n : N) → Serves storages a [] [] b → ServesNodes storages carried Carries a n b n
  nodes_quiet a b n h = record { sent = []; serves = h; carries = passes_none carried Carries n }

  -- the network was polled: bytes came, or none did
  pub nodes_polled : (a b : ServerState S) (n m : N) (came : List Carried) (bytes : List ℕ) → came ≡ Arrived bytes ∷ []
      → (Carries m → carried m ≡ carried n ++ came) → (Carries m → Carries n) → Serves storages a (Arrived bytes ∷ []) [] b
      → ServesNodes storages carried Carries a n b m
  nodes_polled a b n m came bytes is tape told h =
      record { sent = Arrived bytes ∷ []; serves = h; carries = passes_as carried Carries n m came (Arrived bytes ∷ []) tape told is }

  pub nodes_polled_nothing : (a : ServerState S) (n m : N) (came : List Carried) → came ≡ NothingCame ∷ []
      → (Carries m → carried m ≡ carried n ++ came) → (Carries m → Carries n) → ServesNodes storages carried Carries a n a m
  nodes_polled_nothing a n m came is tape told = record {
    sent = NothingCame ∷ [];
    serves = serves_nothing_came storages a;
    carries = passes_as carried Carries n m came (NothingCame ∷ []) tape told is;
  }

  pub nodes_poll_failed : (a : ServerState S) (n m : N) (came : List Carried) → came ≡ PollFailed ∷ []
      → (Carries m → carried m ≡ carried n ++ came) → (Carries m → Carries n) → ServesNodes storages carried Carries a n a m
  nodes_poll_failed a n m came is tape told = record {
    sent = PollFailed ∷ [];
    serves = serves_failed_poll storages a;
    carries = passes_as carried Carries n m came (PollFailed ∷ []) tape told is;
  }

-- ---- over the desk alone
module _ {S D : Type 0} (storages : Ghosts S) (talk : D → List Talk) (Talks : D → Type 0) where
  pub clients_none : (a : ServerState S) (d : D) → ServesClients storages talk Talks a d a d
  clients_none a d = record { said = []; serves = serves_none storages a; talks = passes_none talk Talks d }

  pub clients_then : (a b c : ServerState S) (d e f : D) → ServesClients storages talk Talks a d b e
      → ServesClients storages talk Talks b e c f → ServesClients storages talk Talks a d c f
  clients_then a b c d e f h k = record {
    said = h.said ++ k.said;
    serves = serves_then storages a b c [] [] h.said k.said h.serves k.serves;
    talks = passes_then talk Talks d e f h.said k.said h.talks k.talks;
  }

  pub clients_quiet : (a b : ServerState S) (d : D) → Serves storages a [] [] b → ServesClients storages talk Talks a d b d
  clients_quiet a b d h = record { said = []; serves = h; talks = passes_none talk Talks d }

  -- the desk was read: a client did something, or none did
  pub clients_read : (a b : ServerState S) (d e : D) (came : List Talk) (what : Talk) → came ≡ what ∷ []
      → (Talks e → talk e ≡ talk d ++ came) → (Talks e → Talks d) → Serves storages a [] (what ∷ []) b
      → ServesClients storages talk Talks a d b e
  clients_read a b d e came what is tape told h =
      record { said = what ∷ []; serves = h; talks = passes_as talk Talks d e came (what ∷ []) tape told is }

  pub clients_read_nothing : (a : ServerState S) (lines : List ℕ) (d e : D) (came : List Talk) → came ≡ NothingHeard lines ∷ []
      → (Talks e → talk e ≡ talk d ++ came) → (Talks e → Talks d) → ServesClients storages talk Talks a d a e
  clients_read_nothing a lines d e came is tape told = record {
    said = NothingHeard lines ∷ [];
    serves = serves_nothing_heard storages a lines;
    talks = passes_as talk Talks d e came (NothingHeard lines ∷ []) tape told is;
  }

  pub clients_reading_failed : (a : ServerState S) (d e : D) (came : List Talk) → came ≡ ReadingFailed ∷ []
      → (Talks e → talk e ≡ talk d ++ came) → (Talks e → Talks d) → ServesClients storages talk Talks a d a e
  clients_reading_failed a d e came is tape told = record {
    said = ReadingFailed ∷ [];
    serves = serves_failed_reading storages a;
    talks = passes_as talk Talks d e came (ReadingFailed ∷ []) tape told is;
  }

-- ---- over both
module _ {S N D : Type 0} (storages : Ghosts S) (carried : N → List Carried) (Carries : N → Type 0) (talk : D → List Talk)
    (Talks : D → Type 0) where
  pub over_then : (a b c : ServerState S) (n m o : N) (d e f : D) → ServesOver storages carried Carries talk Talks a n d b m e
      → ServesOver storages carried Carries talk Talks b m e c o f → ServesOver storages carried Carries talk Talks a n d c o f
  over_then a b c n m o d e f h k = record {
    sent = h.sent ++ k.sent;
    said = h.said ++ k.said;
    serves = serves_then storages a b c h.sent k.sent h.said k.said h.serves k.serves;
    carries = passes_then carried Carries n m o h.sent k.sent h.carries k.carries;
    talks = passes_then talk Talks d e f h.said k.said h.talks k.talks;
  }

  pub over_nodes : (a b : ServerState S) (n m : N) (d : D) → ServesNodes storages carried Carries a n b m
      → ServesOver storages carried Carries talk Talks a n d b m d
  over_nodes a b n m d h = record {
    sent = h.sent;
    said = [];
    serves = h.serves;
    carries = h.carries;
    talks = passes_none talk Talks d;
  }

  pub over_clients : (a b : ServerState S) (n : N) (d e : D) → ServesClients storages talk Talks a d b e
      → ServesOver storages carried Carries talk Talks a n d b n e
  over_clients a b n d e h = record {
    sent = [];
    said = h.said;
    serves = h.serves;
    carries = passes_none carried Carries n;
    talks = h.talks;
  }

  pub over_quiet : (a b : ServerState S) (n : N) (d : D) → Serves storages a [] [] b
      → ServesOver storages carried Carries talk Talks a n d b n d
  over_quiet a b n d h = record {
    sent = [];
    said = [];
    serves = h;
    carries = passes_none carried Carries n;
    talks = passes_none talk Talks d;
  }

  -- ---- and then over one of them, or neither
  pub over_sent : (a b c : ServerState S) (n m o : N) (d e : D) → ServesOver storages carried Carries talk Talks a n d b m e
      → ServesNodes storages carried Carries b m c o → ServesOver storages carried Carries talk Talks a n d c o e
  over_sent a b c n m o d e h k = over_then a b c n m o d e e h (over_nodes b c m o e k)

  pub over_told : (a b c : ServerState S) (n m : N) (d e f : D) → ServesOver storages carried Carries talk Talks a n d b m e
      → ServesClients storages talk Talks b e c f → ServesOver storages carried Carries talk Talks a n d c m f
  over_told a b c n m d e f h k = over_then a b c n m m d e f h (over_clients b c m e f k)

  pub over_kept : (a b c : ServerState S) (n m : N) (d e : D) → ServesOver storages carried Carries talk Talks a n d b m e
      → Serves storages b [] [] c → ServesOver storages carried Carries talk Talks a n d c m e
  over_kept a b c n m d e h k = over_then a b c n m m d e e h (over_quiet b c m e k)

-- Heads of frames: what is read was spelled so, and what is spelled so is read, whatever follows.
use Rattle.std.proofs.Common.{IsOkAnd}
use Rattle.std.proofs.Common.{◌≡◌, ℕ, ◌<◌, ◌≤◌, false, eqb, leb, not, ◌&&◌, List, [], ◌∷◌}
use Rattle.std.proofs.Common.{◌++◌, length, Option, Some, None, Ok, refl, ap, subst, ◌∙◌, arith, inl, inr}
use Rattle.std.proofs.lemmas.Bool.Decides.{nat_tests}
use Rattle.std.proofs.lemmas.Bool.{cases_Bool}
use Rattle.byteorder.specs.Endian.{big_bytes}
use Rattle.wire.specs.declared.frames.fault.WireFault.TheVariants.{Magic, Version, Field}
use Rattle.wire.specs.declared.frames.envelope.TheConstants.{MAGIC, LONGEST_FRAME}
use Rattle.wire.specs.declared.frames.kind.Kind.{Kind}
use Rattle.wire.specs.Kinds.{version_of, byte_of, kinds}
use Rattle.wire.specs.FrameSpelling.{head_bytes}
use Rattle.fields.specs.Reading.{number_at, byte_at}
use Rattle.wire.specs.FrameReading.{is_version, version_at, found_among, known, kind_at, node_at, ends_at, Head, head_at}
use Rattle.fields.proofs.FieldLemmas.{IsBytes, bind_ok, guard_ok, ok_is, Takes, Takes-then, Took, number_takes, number_again, back2}
use Rattle.fields.proofs.FieldLemmas.{byte_takes, below, is_number, is_equal}
use Rattle.wire.specs.Puts.{BringsContent, FrameWithContentBegins}
use Rattle.wire.proofs.KindLaws.{row_holds}
use Rattle.wire.proofs.WideLemmas.{bind_wide, ok_and, both_hold}

version_takes : (bytes : List ℕ) (x : ℕ × List ℕ) → IsBytes bytes → version_at bytes ≡ Ok x
    → Takes bytes (big_bytes 2 MAGIC ++ x.0 ∷ []) x.1
unfolding version_at
version_takes bytes x fits e =
    let m = bind_wide (number_at 2 bytes) _ x e in
    let t = number_takes 2 back2 bytes m.0.0 m.0.1 fits m.1 in
    let g = guard_ok (not (eqb m.0.0 MAGIC)) Magic _ x m.2 in
    let v = bind_wide (byte_at m.0.1) _ x g.1 in
    let u = byte_takes m.0.1 v.0.0 v.0.1 t.0.rest_fits v.1 in
    let h = guard_ok (not (is_version v.0.0)) Version _ x v.2 in
    let both = Takes-then bytes (big_bytes 2 m.0.0) m.0.1 (v.0.0 ∷ []) v.0.1 t.0 u.0 in
    let it : Takes bytes (big_bytes 2 MAGIC ++ v.0.0 ∷ []) v.0.1 = subst
    (λ (n : ℕ). Takes bytes (big_bytes 2 n ++ v.0.0 ∷ []) v.0.1) (is_number m.0.0 MAGIC g.0) both in
    subst (λ (y : ℕ × List ℕ). Takes bytes (big_bytes 2 MAGIC ++ y.0 ∷ []) y.1) (ok_is _ _ h.1) it

-- a kind that is found has the version and the byte
found_is : (ks : List Kind) (version byte : ℕ) (k : Kind) → found_among ks version byte ≡ Some k → (version ≡ version_of k)
    × (byte ≡ byte_of k)
found_is [] version byte k e = absurd cc
found_is (k0 ∷ ks) version byte k e =
    elim (cases_Bool (eqb version (version_of k0) && eqb byte (byte_of k0))) [
      | inl it ↦
          let tests = both_hold _ _ it in
          let found = rw it at e in
          let same : k0 ≡ k = cc in
          (is_equal version (version_of k0) tests.0 ∙ ap version_of same, is_equal byte (byte_of k0) tests.1 ∙ ap byte_of same)
      | inr other ↦ found_is ks version byte k (rw other at e)
    ]

known_is : (o : Option Kind) (rest : List ℕ) (x : Kind × List ℕ) → known o rest ≡ Ok x → (o ≡ Some x.0) × (rest ≡ x.1)
known_is (Some k) rest x e =
    let same : (k, rest) ≡ x = ok_is _ _ e in
    (ap (λ (y : Kind × List ℕ). Some y.0) same, ap (λ (y : Kind × List ℕ). y.1) same)
known_is None rest x e = absurd cc

record TookKind (version : ℕ) (bytes : List ℕ) (x : Kind × List ℕ) : Type 0 where
  pub takes : Takes bytes (byte_of x.0 ∷ []) x.1
  pub of_version : version ≡ version_of x.0

kind_takes : (version : ℕ) (bytes : List ℕ) (x : Kind × List ℕ) → IsBytes bytes → kind_at version bytes ≡ Ok x → TookKind version bytes x
unfolding kind_at
kind_takes version bytes x fits e =
    let b = bind_wide (byte_at bytes) _ x e in
    let t = byte_takes bytes b.0.0 b.0.1 fits b.1 in
    let k = known_is (found_among kinds version b.0.0) b.0.1 x b.2 in
    let is = found_is kinds version b.0.0 x.0 k.0 in
    let coded : Takes bytes (byte_of x.0 ∷ []) b.0.1 = subst (λ (n : ℕ). Takes bytes (n ∷ []) b.0.1) is.1 t.0 in
    record { takes = subst (λ (r : List ℕ). Takes bytes (byte_of x.0 ∷ []) r) k.1 coded; of_version = is.0 }

abbrev node_bytes : ℕ → List ℕ
node_bytes n = n ∷ []

node_takes : (nodes : ℕ) (bytes : List ℕ) (x : ℕ × List ℕ) → IsBytes bytes → node_at nodes bytes ≡ Ok x → Took node_bytes
    (λ n. n < nodes) bytes x
unfolding node_at
node_takes nodes bytes x fits e =
    let b = bind_wide (byte_at bytes) _ x e in
    let t = byte_takes bytes b.0.0 b.0.1 fits b.1 in
    let g = guard_ok (leb nodes b.0.0) Field _ x b.2 in
    let it : Took node_bytes (λ n. n < nodes) bytes b.0 = record { takes = t.0; fits = below nodes b.0.0 g.0 } in
    subst (Took node_bytes (λ n. n < nodes) bytes) (ok_is _ _ g.1) it

abbrev ends_bytes : ℕ × ℕ → List ℕ
ends_bytes n = n.0 ∷ n.1 ∷ []

abbrev EndsFit : ℕ → ℕ × ℕ → Type 0
EndsFit nodes n = (n.0 < nodes) × (n.1 < nodes)

ends_takes : (nodes : ℕ) (bytes : List ℕ) (x : (ℕ × ℕ) × List ℕ) → IsBytes bytes → ends_at nodes bytes ≡ Ok x
    → Took ends_bytes (EndsFit nodes) bytes x
unfolding ends_at
ends_takes nodes bytes x fits e =
    let f = bind_ok (node_at nodes bytes) _ x e in
    let tf = node_takes nodes bytes f.0 fits f.1 in
    let t = bind_ok (node_at nodes f.0.1) _ x f.2 in
    let tt2 = node_takes nodes f.0.1 t.0 tf.takes.rest_fits t.1 in
    let both = Takes-then bytes (f.0.0 ∷ []) f.0.1 (t.0.0 ∷ []) t.0.1 tf.takes tt2.takes in
    let made : (ℕ × ℕ) × List ℕ = ((f.0.0, t.0.0), t.0.1) in
    let it : Took ends_bytes (EndsFit nodes) bytes made = record { takes = both; fits = (tf.fits, tt2.fits) } in
    subst (Took ends_bytes (EndsFit nodes) bytes) (ok_is _ _ t.2) it

abbrev pub head_text : Head → List ℕ
head_text h = head_bytes h.kind h.from h.to

pub record HeadFits (nodes : ℕ) (h : Head) : Type 0 where
  pub from : h.from < nodes
  pub to : h.to < nodes

pub head_takes : (nodes : ℕ) (bytes : List ℕ) (x : Head × List ℕ) → IsBytes bytes → head_at nodes bytes ≡ Ok x
    → Took head_text (HeadFits nodes) bytes x
unfolding head_at
head_takes nodes bytes x fits e =
    let v = bind_ok (version_at bytes) _ x e in
    let tv = version_takes bytes v.0 fits v.1 in
    let k = bind_ok (kind_at v.0.0 v.0.1) _ x v.2 in
    let tk = kind_takes v.0.0 v.0.1 k.0 tv.rest_fits k.1 in
    let n = bind_ok (ends_at nodes k.0.1) _ x k.2 in
    let tn = ends_takes nodes k.0.1 n.0 tk.takes.rest_fits n.1 in
    let later = Takes-then v.0.1 (byte_of k.0.0 ∷ []) k.0.1 (ends_bytes n.0.0) n.0.1 tk.takes tn.takes in
    let opening : Takes bytes (big_bytes 2 MAGIC ++ version_of k.0.0 ∷ []) v.0.1 = subst
    (λ (w : ℕ). Takes bytes (big_bytes 2 MAGIC ++ w ∷ []) v.0.1) tk.of_version tv in
    let all = Takes-then bytes (big_bytes 2 MAGIC ++ version_of k.0.0 ∷ []) v.0.1 (byte_of k.0.0 ∷ ends_bytes n.0.0) n.0.1 opening later in
    let made : Head = record { kind = k.0.0; from = n.0.0.0; to = n.0.0.1 } in
    let it : Took head_text (HeadFits nodes) bytes (made, n.0.1) = record
    { takes = all; fits = record { from = tn.fits.0; to = tn.fits.1 } } in
    subst (Took head_text (HeadFits nodes) bytes) (ok_is _ _ n.2) it

-- bytes whose head is read begin as a frame
pub head_begins : (nodes : ℕ) (bytes : List ℕ) → IsBytes bytes → length bytes ≤ LONGEST_FRAME
    → IsOkAnd (head_at nodes bytes) (λ h. BringsContent h.0.kind) → FrameWithContentBegins nodes bytes
head_begins nodes bytes fits not_long h =
    let x = ok_and (head_at nodes bytes) _ h in
    let t = head_takes nodes bytes x.0 fits x.1 in
    record {
      kind = x.0.0.kind;
      from = x.0.0.from;
      to = x.0.0.to;
      body = x.0.1;
      not_long = not_long;
      brings = x.2;
      from_node = t.fits.from;
      to_node = t.fits.to;
      begun = t.takes.parts;
    }

version_again : (k : Kind) (rest : List ℕ) → version_at (big_bytes 2 MAGIC ++ version_of k ∷ rest) ≡ Ok (version_of k, rest)
unfolding version_at
version_again k rest = let first = number_again 2 MAGIC (version_of k ∷ rest) (omega arith) in rw (first, (row_holds k).version) refl

kind_again : (k : Kind) (rest : List ℕ) → kind_at (version_of k) (byte_of k ∷ rest) ≡ Ok (k, rest)
unfolding kind_at
kind_again k rest = ap (λ (o : Option Kind). known o rest) (row_holds k).found

node_again : (nodes n : ℕ) (rest : List ℕ) → n < nodes → node_at nodes (n ∷ rest) ≡ Ok (n, rest)
unfolding node_at
node_again nodes n rest low = let f : leb nodes n ≡ false = grind (arith, nat_tests) in rw f refl

ends_again : (nodes from to : ℕ) (rest : List ℕ) → from < nodes → to < nodes → ends_at nodes (from ∷ to ∷ rest) ≡ Ok ((from, to), rest)
unfolding ends_at
ends_again nodes from to rest low high = rw (node_again nodes from (to ∷ rest) low, node_again nodes to rest high) refl

pub head_again : (nodes : ℕ) (h : Head) (rest : List ℕ) → HeadFits nodes h → head_at nodes (head_text h ++ rest) ≡ Ok (h, rest)
unfolding head_at
head_again nodes h rest fits =
    let after = byte_of h.kind ∷ h.from ∷ h.to ∷ rest in
    let first : version_at (head_text h ++ rest) ≡ Ok (version_of h.kind, after) = version_again h.kind after in
    rw (first, kind_again h.kind (h.from ∷ h.to ∷ rest), ends_again nodes h.from h.to rest fits.from fits.to) refl

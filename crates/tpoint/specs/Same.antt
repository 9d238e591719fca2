-- When two sequences are the same.
use Rattle.std.specs.Prelude.{◌≡◌, ◌==◌, ◌&&◌, Bool, true, false, refl}
use Rattle.std.specs.Ordering.{int_eq}
use Rattle.std.specs.Bool.{Decides}
use Rattle.std.specs.Cmp.{IsEquivalence, decided, unsigned_Decides, signed_Decides}
use Rattle.std.specs.Cmp.Lexicographic.{pointwise, pointwise_decides}
use Rattle.std.proofs.Common.{ap}
use Rattle.std.proofs.lemmas.Bool.Decides.{Decides-and}
use Rattle.tpoint.specs.declared.interp.Interp.{Interp}
use Rattle.tpoint.specs.declared.interp.Interp.TheVariants.{Discrete, Step, Linear}
use Rattle.tpoint.specs.declared.point.Point.{Point}
use Rattle.tpoint.specs.Moving.{Sequence}

abbrev pub same_interp : Interp → Interp → Bool
same_interp Discrete Discrete = true
same_interp Step Step = true
same_interp Linear Linear = true
same_interp _ _ = false

abbrev pub same_point : Point → Point → Bool
same_point p q = p.t == q.t && (int_eq p.x q.x && int_eq p.y q.y)

abbrev pub same_sequence : Sequence → Sequence → Bool
same_sequence r s = pointwise same_point r.points s.points && same_interp r.interp s.interp

-- ---- these tests tell what is equal
pub same_interp_Decides : (a b : Interp) → Decides (same_interp a b) (a ≡ b)
same_interp_Decides Discrete Discrete = (λ _. refl, λ _. refl)
same_interp_Decides Discrete Step = (λ e. absurd (cc), λ e. absurd (cc))
same_interp_Decides Discrete Linear = (λ e. absurd (cc), λ e. absurd (cc))
same_interp_Decides Step Discrete = (λ e. absurd (cc), λ e. absurd (cc))
same_interp_Decides Step Step = (λ _. refl, λ _. refl)
same_interp_Decides Step Linear = (λ e. absurd (cc), λ e. absurd (cc))
same_interp_Decides Linear Discrete = (λ e. absurd (cc), λ e. absurd (cc))
same_interp_Decides Linear Step = (λ e. absurd (cc), λ e. absurd (cc))
same_interp_Decides Linear Linear = (λ _. refl, λ _. refl)

same_place_Decides : (p q : Point) →
    Decides (int_eq p.x q.x && int_eq p.y q.y) ((p.x ≡ q.x) × (p.y ≡ q.y))
same_place_Decides p q =
    Decides-and _ _ (signed_Decides p.x q.x) (signed_Decides p.y q.y)

same_point_parts : (p q : Point) → (p.t ≡ q.t) × ((p.x ≡ q.x) × (p.y ≡ q.y)) → p ≡ q
same_point_parts p q h = λ i. record { t = h.0 i; x = h.1.0 i; y = h.1.1 i }

pub same_point_Decides : (p q : Point) → Decides (same_point p q) (p ≡ q)
same_point_Decides p q =
    let parts = Decides-and _ _ (unsigned_Decides p.t q.t) (same_place_Decides p q) in (
      λ e. same_point_parts p q (parts.0 e),
      λ e. parts.1 (ap (λ (r : Point). r.t) e, (ap (λ (r : Point). r.x) e, ap (λ (r : Point). r.y) e)),
    )

pub same_sequence_Decides : (r s : Sequence) → Decides (same_sequence r s) (r ≡ s)
same_sequence_Decides r s =
    let points = pointwise_decides same_point_Decides r.points s.points in
    let parts = Decides-and _ _ points (same_interp_Decides r.interp s.interp) in (
      λ e. let h = parts.0 e in λ i. record { points = h.0 i; interp = h.1 i },
      λ e. parts.1 (ap (λ (q : Sequence). q.points) e, ap (λ (q : Sequence). q.interp) e),
    )

pub same_sequence_equiv : IsEquivalence same_sequence
same_sequence_equiv = decided same_sequence same_sequence_Decides

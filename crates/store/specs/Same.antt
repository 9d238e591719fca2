-- When two operations are the same.
use Rattle.std.specs.Prelude.{◌≡◌, ◌&&◌, Bool, false, nat_eq}
use Rattle.std.specs.Bool.{Decides}
use Rattle.std.specs.Cmp.{IsEquivalence, decided}
use Rattle.std.specs.Cmp.Lexicographic.{pointwise, bytes_decides}
use Rattle.std.proofs.lemmas.Bool.Decides.{Decides-and, Decides-like}
use Rattle.tpoint.specs.Same.{same_point, same_point_Decides, same_sequence, same_sequence_Decides}
use Rattle.store.specs.Additions.{Added}
use Rattle.store.specs.declared.op.Op.{Op}
use Rattle.store.specs.declared.op.Op.TheVariants.{Put, Append, Remove}

abbrev pub same_addition : Added → Added → Bool
same_addition a b = pointwise nat_eq a.id b.id && same_point a.point b.point

abbrev pub same_op : Op → Op → Bool
same_op (Put id seq) (Put other_id other_seq) = pointwise nat_eq id other_id && same_sequence seq other_seq
same_op (Append a) (Append b) = same_addition a b
same_op (Remove id) (Remove other_id) = pointwise nat_eq id other_id
same_op _ _ = false

-- ---- these tests tell what is equal
pub same_addition_Decides : (a b : Added) → Decides (same_addition a b) (a ≡ b)
same_addition_Decides a b =
    Decides-like _ (λ h i. record { id = h.0 i; point = h.1 i }) (λ e. (λ i. (e i).id, λ i. (e i).point))
    (Decides-and _ _ (bytes_decides a.id b.id) (same_point_Decides a.point b.point))

pub same_op_Decides : (a b : Op) → Decides (same_op a b) (a ≡ b)
same_op_Decides (Put id seq) (Put other_id other_seq) =
    Decides-like _ (λ h i. Put (h.0 i) (h.1 i)) (λ e. ((cc), (cc)))
    (Decides-and _ _ (bytes_decides id other_id) (same_sequence_Decides seq other_seq))
same_op_Decides (Append a) (Append b) = Decides-like _ (λ e. cc) (λ e. cc) (same_addition_Decides a b)
same_op_Decides (Remove id) (Remove other_id) = Decides-like _ (λ e. cc) (λ e. cc) (bytes_decides id other_id)
same_op_Decides (Put id seq) (Append b) = (λ e. absurd (cc), λ e. absurd (cc))
same_op_Decides (Put id seq) (Remove other_id) = (λ e. absurd (cc), λ e. absurd (cc))
same_op_Decides (Append a) (Put id seq) = (λ e. absurd (cc), λ e. absurd (cc))
same_op_Decides (Append a) (Remove id) = (λ e. absurd (cc), λ e. absurd (cc))
same_op_Decides (Remove id) (Put other_id seq) = (λ e. absurd (cc), λ e. absurd (cc))
same_op_Decides (Remove id) (Append b) = (λ e. absurd (cc), λ e. absurd (cc))

pub same_op_equiv : IsEquivalence same_op
same_op_equiv = decided same_op same_op_Decides

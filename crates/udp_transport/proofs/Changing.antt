-- The end of one node changes, and no other.
use Rattle.std.proofs.Common.{◌≡◌, ℕ, ◌<◌, Some, None, slice_get, slice_index_or, slice_set, vec_len, sym, ap, ◌∙◌, subst}
use Rattle.std.proofs.lemmas.Option.{slice_get_read}
use Rattle.udp_transport.specs.Waiting.{ChangesAt}
use Rattle.udp_transport.specs.declared.end.End.{End}
use Rattle.udp_transport.specs.declared.sockets.Sockets.{Sockets}

-- at this place
module _ (node place : ℕ) (same : place ≡ node) (before : Sockets) (was : End) (within : place < vec_len before.ends)
    (read : was ≡ slice_index_or before.ends.items place was) where
  there : slice_get before.ends.items node ≡ Some was
  there = subst (λ n. slice_get before.ends.items n ≡ Some was) same
      (slice_get_read before.ends.items (vec_len before.ends) place was before.ends.ok.0 within read)

  -- what is written back there
  pub changes_there : (Way : End → End → Type 0) (after : Sockets) (is : End) → Way was is
      → after.ends.items ≡ slice_set before.ends.items place is → ChangesAt node Way before after
  changes_there Way after is way alone = record {
    was = was;
    is = is;
    there = there;
    way = way;
    alone = alone ∙ ap (λ n. slice_set before.ends.items n is) same;
  }

  -- so there is such a node
  pub is_there : slice_get before.ends.items node ≡ None → ⊥
  is_there none = let clash : Some was ≡ None = sym there ∙ none in absurd (cc)

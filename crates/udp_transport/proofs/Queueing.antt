-- How a queue grows while what has come is taken in.
use Rattle.std.proofs.Common.{◌≡◌, ℕ, ◌+◌, ◌<◌, ◌≤◌, [], ◌∷◌, ◌++◌, length, refl, sym, ap, ◌∙◌, append-nil, append_assoc, arith}
use Rattle.std.proofs.lemmas.List.{length-append}
use Rattle.std.specs.Global.{Vec}
use Rattle.udp_transport.specs.Waiting.{TakesIn}
use Rattle.udp_transport.specs.declared.end.End.{End}
use Rattle.udp_transport.specs.declared.end.TheConstants.{MOST_WAITING}

-- nothing was taken in yet
pub takes_none : (end : End) → TakesIn 0 end end
takes_none end = record {
  come = [];
  behind = sym (append-nil end.waiting.items);
  few = omega arith;
  bounded = λ h. h;
  place = refl;
}

-- one more joins
pub takes_another : (most : ℕ) (before between after : End) (datagram : Vec ℕ) → TakesIn most before between
    → after.waiting.items ≡ between.waiting.items ++ datagram ∷ [] → length between.waiting.items < MOST_WAITING
    → after.address ≡ between.address → TakesIn (most + 1) before after
takes_another most before between after datagram h joins room place = record {
  come = h.come ++ datagram ∷ [];
  behind = joins ∙ ap (λ xs. xs ++ datagram ∷ []) h.behind ∙ append_assoc before.waiting.items h.come (datagram ∷ []);
  few = omega (arith, h.few, length-append h.come (datagram ∷ []));
  bounded = λ _. omega (arith, room, ap (λ xs. length xs) joins, length-append between.waiting.items (datagram ∷ []));
  place = place ∙ h.place;
}

-- none joins, and that was all
pub takes_no_more : (made most : ℕ) (before between after : End) → TakesIn made before between → made ≤ most
    → after.waiting.items ≡ between.waiting.items → after.address ≡ between.address → TakesIn most before after
takes_no_more made most before between after h few same place = record {
  come = h.come;
  behind = same ∙ h.behind;
  few = omega (arith, h.few, few);
  bounded = λ within. omega (arith, h.bounded within, ap (λ xs. length xs) same);
  place = place ∙ h.place;
}

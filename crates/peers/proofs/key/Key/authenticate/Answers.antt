use Rattle.std.proofs.Common.{[], append_assoc, refl}
use Rattle.peers.proofs.key.Key.authenticate.Goals as goal

pub returns : goal.returns
returns c =
    let inner = c.finalize.ensures _ (c.update-3.ensures _ (c.update-2.ensures _ (c.update.ensures [] c.new-inner.ensures))) in
    let outer = c.finalize-2.ensures _ (c.update-5.ensures _ (c.update-4.ensures [] c.new-outer.ensures)) in
    rw (outer, inner, c.masked.ensures, c.masked-2.ensures, append_assoc, ← c.self.view_is) refl

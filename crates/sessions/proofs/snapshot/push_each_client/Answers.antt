use Rattle.std.proofs.Common.{◌≤◌, ◌+◌, ◌-◌, ◌++◌, ◌∷◌, [], ℕ, List, length, take, drop, sym, ap, subst, ◌∙◌, append_assoc, arith}
use Rattle.std.specs.Prelude.{All}
use Rattle.std.specs.List.{flat_map}
use Rattle.std.proofs.lemmas.List.Concat.{flat_map-append}
use Rattle.std.proofs.lemmas.List.Elements.{All-append}
use Rattle.sessions.specs.Snapshots.{ClientFits, client_bytes, held_from}
use Rattle.sessions.specs.declared.session.Held.{Held}
use Rattle.sessions.proofs.TableLemmas.{place_step, count_step}
use Rattle.sessions.proofs.snapshot.push_each_client.Goals as goal

-- one place more
pub loop-rest-preserved : goal.loop-rest-preserved
loop-rest-preserved c =
    let client = c.loop-rest.client in
    let some : 1 ≤ length c.loop-rest.rest.now = omega (arith, c.in-len1-up.len_at_least) in
    let step = place_step client c.loop-rest.rest.now c.place-item.result some c.place-item.is in
    let count = count_step client c.loop-rest.rest.now c.place-item.result some c.place-item.is in
    let places = c.loop-rest.invariant.1.0 in
    let old = c.loop-rest.out.items in
    let here : List Held = held_from client (c.place-item.result ∷ []) in
    let more : List Held =
    held_from (client + 1) (take (length c.loop-rest.rest.now - 1) (drop 1 c.loop-rest.rest.now)) in
    let parts = ap (λ (hs : List Held). flat_map client_bytes hs) step ∙ flat_map-append client_bytes here more in
    let spelled = ap (λ (bytes : List ℕ). bytes ++ flat_map client_bytes more) c.in_ok-push_place.ensures.spelled
    ∙ append_assoc old (flat_map client_bytes here) (flat_map client_bytes more)
    ∙ ap (λ (bytes : List ℕ). old ++ bytes) (sym parts) ∙ c.loop-rest.invariant.0 in
    let fit : All ClientFits more → All ClientFits (held_from client c.loop-rest.rest.now) = λ rest.
    subst (All ClientFits) (sym step) (All-append ClientFits here more c.in_ok-push_place.ensures.fits rest) in
    (spelled, (omega (arith, count.1, places), λ rest. c.loop-rest.invariant.1.1 (fit rest)))

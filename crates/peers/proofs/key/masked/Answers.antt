use Rattle.std.proofs.Common.{ℕ, List, [], ◌∷◌, ◌++◌, map, get_or, sym, ap, ◌∙◌, refl, arith}
use Rattle.std.specs.Prelude.{bit_xor}
use Rattle.std.proofs.lemmas.List.{length-set, map_more, take_all, take_more_set}
use Rattle.peers.proofs.key.masked.Goals as goal

pub bytes-init : goal.bytes-init
bytes-init c = (refl, refl)

pub bytes-preserved : goal.bytes-preserved
bytes-preserved c =
    let before = c.bytes.invariant in
    let block = c.args.block.now in
    let byte = bit_xor (get_or block c.bytes.i 0) c.args.mask in (
      length-set c.bytes.out c.bytes.i byte ∙ before.0,
      take_more_set c.bytes.out c.bytes.i byte (omega (arith, c.bytes-test.true, before.0))
          ∙ ap (λ (xs : List ℕ). xs ++ byte ∷ []) before.1
          ∙ sym (map_more (λ byte. bit_xor byte c.args.mask) block c.bytes.i 0 (omega (arith, c.bytes-test.true, c.told-block))),
    )

pub returns : goal.returns
returns c =
    let done = c.bytes.invariant in
    sym (take_all c.bytes.i c.bytes.out (omega (arith, c.bytes-test.false, done.0)))
    ∙ done.1
    ∙ ap (λ (xs : List ℕ). map (λ byte. bit_xor byte c.args.mask) xs)
    (take_all c.bytes.i c.args.block.now (omega (arith, c.bytes-test.false, c.told-block)))

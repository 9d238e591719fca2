use Rattle.std.proofs.Common.{◌<◌, length, vec_len, Some, sym, ap, ◌∙◌, refl}
use Rattle.std.proofs.lemmas.Option.{slice_get_read}
use Rattle.verdicts.proofs.PlaceLemmas.{named_again, two_names, none_placed, named_first}
use Rattle.verdicts.proofs.placement.place.Goals as goal

pub returns-then-is_same_name-clause-placed : goal.returns-then-is_same_name-clause-placed
returns-then-is_same_name-clause-placed c = λ requests learns indexed was.
    let there = slice_get_read c.args.names.now.items (vec_len c.args.names.now) c.args.learn.now.slot c.index.result.now (sym was.count)
    c.requires c.index.ensures in
    named_again requests (vec_len c.args.names.now) learns c.args.names.now.items c.args.learn.now was c.in-Some.name (there ∙ ap (λ o. Some o) c.in-Some.is)
    (c.is_same_name.ensures.0 c.if-is_same_name.true)

pub returns-in-Some-clause-placed : goal.returns-in-Some-clause-placed
returns-in-Some-clause-placed c = λ requests learns indexed was.
    let there = slice_get_read c.args.names.now.items (vec_len c.args.names.now) c.args.learn.now.slot c.index.result.now (sym was.count)
    c.requires c.index.ensures in
    rw c.contradiction.ensures (
      refl,
      two_names requests (vec_len c.args.names.now) learns c.args.names.now.items c.args.learn.now was c.in-Some.name (there ∙ ap (λ o. Some o) c.in-Some.is)
          (λ same. let t = c.is_same_name.ensures.1 same in let f = c.if-is_same_name.false in cc),
    )

pub returns-then-not-is_submitted-clause-placed : goal.returns-then-not-is_submitted-clause-placed
returns-then-not-is_submitted-clause-placed c = λ requests learns indexed was.
    rw c.contradiction-then-not-is_submitted.ensures (
      refl,
      λ l is h here. none_placed requests (vec_len c.args.names.now) learns c.args.names.now.items c.args.learn.now was
          (λ s. let t = (c.is_submitted.ensures requests indexed).1 s in let f = c.if-not-is_submitted.true in cc) l is here,
    )

pub returns-clause-placed : goal.returns-clause-placed
returns-clause-placed c = λ requests learns indexed was.
    let there = slice_get_read c.args.names.now.items (vec_len c.args.names.now) c.args.learn.now.slot c.index.result.now (sym was.count)
    c.requires c.index.ensures in
    let within : c.args.learn.now.slot < length c.args.names.now.items = rw was.count c.requires in
    named_first requests (vec_len c.args.names.now) learns c.args.names.now.items c.args.learn.now was (there ∙ ap (λ o. Some o) c.in_default.is) within
    ((c.is_submitted.ensures requests indexed).0 c.if-not-is_submitted.false)

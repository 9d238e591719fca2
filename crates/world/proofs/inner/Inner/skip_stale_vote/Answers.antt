use Rattle.std.proofs.Common.{◌≡◌, ◌<◌, ◌∙◌, rules, arith, Ok, true, refl, vec_len, length, map, IsTrue, sym, subst}
use Rattle.std.proofs.lemmas.Option.{slice_get_read}
use Rattle.std.proofs.lemmas.List.Elements.{All-get_or}
use Rattle.std.proofs.lemmas.List.{length-map}
use Rattle.std.proofs.lemmas.Grind.{elements}
use Rattle.node.specs.Seen.{state_of}
use Rattle.node_model.specs.Outputs.{silence}
use Rattle.node_model.specs.Sending.{IsBetween}
use Rattle.world_model.specs.Worlds.{without_wait, quiet}
use Rattle.world.specs.Inner.{inner_of}
use Rattle.world.proofs.WorldLemmas.{lent_at, nothing_comes}
use Rattle.world.proofs.inner.Inner.skip_stale_vote.Goals as goal

-- its receiver is as it was, and nothing joins the lists but that the step was made
pub returns-clause-passes : goal.returns-clause-passes
returns-clause-passes g c _ =
    let w = c.args.self.now in
    let e = c.index-frame.result.now in
    let n = c.index-at.result.now in
    let named : c.from.result ≡ e.to = search rules in
    let within : c.args.index < length w.frames.items = search (rules, c.requires.there) in
    let between : IsBetween (length (map state_of w.nodes.items)) e =
    subst (λ x. IsBetween (length (map state_of w.nodes.items)) x) (sym c.index-frame.ensures)
    (All-get_or (IsBetween (length (map state_of w.nodes.items))) w.frames.items c.args.index e within w.membership.between) in
    let counted : length (map state_of w.nodes.items) ≡ vec_len w.nodes = search (rules, length-map w.nodes.items state_of) in
    let there : e.to < vec_len w.nodes = omega (arith, between.to, counted) in
    let past : IsTrue c.is_stale_vote.result = search rules in
    let here =
    lent_at w.nodes.items (vec_len w.nodes) e.to c.from.result n (search rules) named there c.index-at.ensures in
    record {
      frame = e;
      sent = slice_get_read w.frames.items (vec_len w.frames) c.args.index e (search rules) c.requires.there (search rules);
      fits = c.receiver.ensures.fits;
      receives = record {
        receiver = state_of n;
        here = here;
        lost = λ down. absurd (search (rules, down, past));
        taken = λ _. (
          true,
          record {
            before = state_of n;
            here = here;
            after = state_of n;
            result = Ok silence;
            steps = c.is_stale_vote.ensures.silent past;
            meaning = c.is_stale_vote.ensures.meaning past;
            taken_ = refl;
            leaves = (let quiet_ : _ ≡ quiet (without_wait (inner_of w) c.args.index) = search rules in quiet_)
                ∙ nothing_comes (without_wait (inner_of w) c.args.index) e.to (state_of n) here;
          },
        );
      };
    }

pub invariant_of-self-2 : goal.invariant_of-self-2
invariant_of-self-2 g c = grind (arith, elements)

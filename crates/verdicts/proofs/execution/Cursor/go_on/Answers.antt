use Rattle.std.proofs.Common.{◌≡◌, ◌<◌, ◌≤◌, ◌+◌, ◌∷◌, ◌++◌, [], ℕ, List, length, take, sym, ap, ◌∙◌, subst, arith}
use Rattle.std.proofs.lemmas.List.{take_more}
use Rattle.sessions.specs.Standing.{StandsFor}
use Rattle.sessions.specs.declared.command.Command.{Command}
use Rattle.verdicts.proofs.execution.Cursor.go_on.Goals as goal

pub loop-self-preserved : goal.loop-self-preserved
loop-self-preserved c =
    let p : ℕ = c.loop-self.self.position in
    let test : p < c.args.position = c.loop-self-test.true in
    let whole : c.args.position ≤ length c.args.commands.now = c.requires.within in
    let within : p < length c.args.commands.now = omega (arith, test, whole) in
    let command : Command = c.index-commands-self.result in
    let more : take (p + 1) c.args.commands.now ≡ take p c.args.commands.now ++ command ∷ [] =
    take_more c.args.commands.now p command within ∙ ap (λ (d : Command). take p c.args.commands.now ++ d ∷ []) (sym c.index-commands-self.is) in
    record {
      at = record {
        within = omega (arith, within);
        stands = subst (λ (l : List Command). StandsFor c.execute.new.self l) (sym more)
            (c.in_ok-execute.ensures.stands.stands (take p c.args.commands.now) c.loop-self.invariant.at.stands);
      };
      order = omega (arith, test);
    }

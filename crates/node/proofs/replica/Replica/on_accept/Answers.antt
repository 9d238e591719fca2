use Rattle.std.proofs.Common.{rules, inr}
use Rattle.node.proofs.replica.Replica.on_accept.Goals as goal

-- the vote was cast, and the device did not fail
pub returns-in_err-send_answer-clause-made : goal.returns-in_err-send_answer-clause-made
returns-in_err-send_answer-clause-made g c =
    let w = c.in_ok-answer.ensures.written in
    record {
      written = search rules;
      device = λ device. absurd (search (rules, device));
      memory = λ _. inr (record { write = w.0; made = w.1; leaves = w.2 });
    }
